-- Numbers of eight bytes, the lowest first: two of them are the same exactly when their bytes are.
use Prim.Native.Nat.{ℕ, zero, suc, ◌+◌, ◌*◌, ◌<◌}
use mathlib.Core.Path.{◌≡◌, refl, sym, ap, ◌∙◌}
use mathlib.Core.List.{List}
use native.Mathlib.Omega.{arith}
use lib.ListN.{get_or}
use Rattle.words.specs.Words.{Bytes}

-- the number whose eight bytes stand at i
abbrev pub eight : List ℕ → ℕ → ℕ
eight s i =
    get_or s i 0 + get_or s (i + 1) 0 * 256 + get_or s (i + 2) 0 * 65536 + get_or s (i + 3) 0 * 16777216
    + get_or s (i + 4) 0 * 4294967296 + get_or s (i + 5) 0 * 1099511627776 + get_or s (i + 6) 0 * 281474976710656
    + get_or s (i + 7) 0 * 72057594037927936

-- the number of so many bytes
abbrev number : ℕ → (ℕ → ℕ) → ℕ
number zero f = 0
number (suc k) f = f 0 + 256 * number k (λ m. f (suc m))

number_of : (k : ℕ) (f g : ℕ → ℕ) → ((m : ℕ) → m < k → f m ≡ g m) → number k f ≡ number k g
number_of zero f g h = refl
number_of (suc k) f g h =
    let rest = number_of k (λ m. f (suc m)) (λ m. g (suc m)) (λ m l. h (suc m) (omega arith)) in
    let low = h 0 (omega arith) in
    omega arith

of_number : (k : ℕ) (f g : ℕ → ℕ) → ((m : ℕ) → f m < 256) → ((m : ℕ) → g m < 256) → number k f ≡ number k g → (m : ℕ) → m < k → f m ≡ g m
of_number zero f g x y e m l = absurd (omega arith)
of_number (suc k) f g x y e zero l = omega (arith, x 0, y 0)
of_number (suc k) f g x y e (suc m) l =
    of_number k (λ i. f (suc i)) (λ i. g (suc i)) (λ i. x (suc i)) (λ i. y (suc i)) (omega (arith, x 0, y 0)) m (omega arith)

eight_number : (s : List ℕ) (i : ℕ) → eight s i ≡ number 8 (λ m. get_or s (i + m) 0)
eight_number s i =
    let none : i + 0 ≡ i = omega arith in
    let low : get_or s (i + 0) 0 ≡ get_or s i 0 = ap (λ (k : ℕ). get_or s k 0) none in
    omega arith

-- the same eight bytes, and the same number
module _ (s v : List ℕ) (i j : ℕ) where
  pub eight_of : ((m : ℕ) → m < 8 → get_or s (i + m) 0 ≡ get_or v (j + m) 0) → eight s i ≡ eight v j
  eight_of h = eight_number s i ∙ number_of 8 (λ m. get_or s (i + m) 0) (λ m. get_or v (j + m) 0) h ∙ sym (eight_number v j)

  pub of_eight : Bytes s → Bytes v → eight s i ≡ eight v j → (m : ℕ) → m < 8 → get_or s (i + m) 0 ≡ get_or v (j + m) 0
  of_eight x y e =
      of_number 8 (λ m. get_or s (i + m) 0) (λ m. get_or v (j + m) 0) (λ m. x (i + m)) (λ m. y (j + m))
      (sym (eight_number s i) ∙ e ∙ eight_number v j)
