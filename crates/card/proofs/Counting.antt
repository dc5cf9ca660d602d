-- Laws of counting the houses that pass a test.
use mathlib.Core.Path.{◌≡◌, refl, ap}
use mathlib.Core.Bool.{Bool, true, false, not, ◌&&◌}
use mathlib.Core.Logic.{◌≢◌}
use Prim.Native.Nat.{ℕ, zero, suc, ◌+◌, ◌≤◌, ◌<◌}
use native.Mathlib.Omega.{arith}
use native.Mathlib.Decide.{ℕ_discrete}
use lib.Dec.{T}
use Rattle.card.specs.Count.{bit, count}

bit_le : (a : Bool) → bit a ≤ 1
bit_le true = omega arith
bit_le false = omega arith

bit_mono : (a b : Bool) → (T a → T b) → bit a ≤ bit b
bit_mono true true f = omega arith
bit_mono true false f = absurd (f tt)
bit_mono false true f = omega arith
bit_mono false false f = omega arith

bit_and : (a b : Bool) → bit a + bit b ≤ 1 + bit (a && b)
bit_and true true = omega arith
bit_and true false = omega arith
bit_and false true = omega arith
bit_and false false = omega arith

bit_not : (a : Bool) → bit a + bit (not a) ≡ 1
bit_not true = refl
bit_not false = refl

count_le : (P : ℕ → Bool) (n : ℕ) → count P n ≤ n
count_le P zero = omega arith
count_le P (suc n) = omega (arith, bit_le (P n), count_le P n)

pub count_mono : (P Q : ℕ → Bool) (n : ℕ) → ((i : ℕ) → i < n → T (P i) → T (Q i)) → count P n ≤ count Q n
count_mono P Q zero f = omega arith
count_mono P Q (suc n) f =
    omega (arith, bit_mono (P n) (Q n) (f n (omega arith)), count_mono P Q n (λ i h. f i (omega arith)))

pub count_and : (P Q : ℕ → Bool) (n : ℕ) → count P n + count Q n ≤ n + count (λ i. P i && Q i) n
count_and P Q zero = omega arith
count_and P Q (suc n) = omega (arith, bit_and (P n) (Q n), count_and P Q n)

pub count_not : (P : ℕ → Bool) (n : ℕ) → count P n + count (λ i. not (P i)) n ≡ n
count_not P zero = refl
count_not P (suc n) = omega (arith, bit_not (P n), count_not P n)

-- more pass P than pass Q: some number passes P and fails Q
pub count_find : (P Q : ℕ → Bool) (n : ℕ) → count Q n < count P n → (i : ℕ) × (i < n) × T (P i) × T (not (Q i))
count_find P Q zero h = absurd (omega arith)
count_find P Q (suc n) h = go (P n) (Q n) refl refl (λ l. count_find P Q n l)
  where
    up : ((i : ℕ) × (i < n) × T (P i) × T (not (Q i))) → (i : ℕ) × (i < suc n) × T (P i) × T (not (Q i))
    up x = (x.0, omega arith, x.2, x.3)

    go : (a b : Bool) → P n ≡ a → Q n ≡ b → (count Q n < count P n → (i : ℕ) × (i < n) × T (P i) × T (not (Q i)))
        → (i : ℕ) × (i < suc n) × T (P i) × T (not (Q i))
    go true false ea eb ih = (n, omega arith, rw ea tt, rw eb tt)
    go true true ea eb ih = up (ih (omega (arith, ap bit ea, ap bit eb)))
    go false true ea eb ih = up (ih (omega (arith, ap bit ea, ap bit eb)))
    go false false ea eb ih = up (ih (omega (arith, ap bit ea, ap bit eb)))

pub count_same : (P Q : ℕ → Bool) (n : ℕ) → ((i : ℕ) → i < n → P i ≡ Q i) → count P n ≡ count Q n
count_same P Q zero f = refl
count_same P Q (suc n) f = omega (arith, ap bit (f n (omega arith)), count_same P Q n (λ i h. f i (omega arith)))

-- one test changes, from fails to passes
pub count_set : (P Q : ℕ → Bool) (n r : ℕ) → r < n → ((i : ℕ) → i ≢ r → P i ≡ Q i) → P r ≡ false → Q r ≡ true → count Q n ≡ suc (count P n)
count_set P Q zero r h same a b = absurd (omega arith)
count_set P Q (suc n) r h same a b = go (ℕ_discrete n r) (λ l. count_set P Q n r l same a b)
  where
    go : Dec (n ≡ r) → (r < n → count Q n ≡ suc (count P n)) → count Q (suc n) ≡ suc (count P (suc n))
    go (yes e) ih =
        omega (arith, ap bit (rw (← e) at a), ap bit (rw (← e) at b), count_same P Q n (λ i l. same i (omega arith)))
    go (no d) ih = omega (arith, ap bit (same n d), ih (omega arith))

pub count_none : (P : ℕ → Bool) (n : ℕ) → ((i : ℕ) → i < n → P i ≡ false) → count P n ≡ 0
count_none P zero f = refl
count_none P (suc n) f = omega (arith, ap bit (f n (omega arith)), count_none P n (λ i h. f i (omega arith)))

pub count_one : (P : ℕ → Bool) (n j : ℕ) → ((i : ℕ) → T (P i) → i ≡ j) → count P n ≤ 1
count_one P zero j f = omega arith
count_one P (suc n) j f = go (P n) refl (count_one P n j f)
  where
    rest : (i : ℕ) → i < n → P n ≡ true → (b : Bool) → P i ≡ b → P i ≡ false
    rest i l e true x = absurd (omega (arith, f i (rw x tt), f n (rw e tt)))
    rest i l e false x = x

    go : (b : Bool) → P n ≡ b → count P n ≤ 1 → bit (P n) + count P n ≤ 1
    go true e ih = omega (arith, ap bit e, count_none P n (λ i l. rest i l e (P i) refl))
    go false e ih = omega (arith, ap bit e)

pub count_pos : (P : ℕ → Bool) (n i : ℕ) → i < n → T (P i) → 0 < count P n
count_pos P zero i l t = absurd (omega arith)
count_pos P (suc n) i l t = go (ℕ_discrete i n) (λ m. count_pos P n i m t)
  where
    one : (b : Bool) → T b → bit b ≡ 1
    one true x = refl
    one false x = absurd x

    go : Dec (i ≡ n) → (i < n → 0 < count P n) → 0 < bit (P n) + count P n
    go (yes e) ih = omega (arith, one (P n) (rw e at t))
    go (no d) ih = omega (arith, ih (omega arith))
