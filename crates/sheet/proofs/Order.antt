-- A finite float's size is a whole number made of its bits; float comparison is comparison of sign and size, and at most is not above.
use Prim.Native.Nat.{ℕ, zero, suc, ◌+◌, ◌*◌, ◌/◌, ◌%◌, ◌^◌, ◌≤◌, ◌<◌}
use mathlib.Core.Path.{◌≡◌, refl, sym, ap, ◌∙◌, subst}
use mathlib.Core.Bool.{Bool, true, false, cond, not, ◌&&◌, ◌||◌, true≢false}
use native.Mathlib.Nat.{add_comm, add-mul, mul_assoc, mul_right_comm, mul-pos, mul-le-mul_right}
use native.Mathlib.Omega.{arith}
use lib.Dec.{leb, ltb, eqb}
use lib.Pow.{pow_pos, pow_mono}
use lib.Ieee.{Float, nan, inf, fin, binary32, up, down, below, level, odd, of_fields, of_bits, lt, eq, le}
use lib.Ieee.Exact.{HasValue, odd_sign}
use lib.Ieee.Fits.{down_pos}
use borrow.Author.Tests.{le-leb, lt-leb, ltb-true, ltb-false, eqb-true, eqb-false, eq-eqb, ne_eqb}
use Rattle.sheet.specs.Sheet.{finite}

-- ---- tests of whole numbers

pub same_ltb : (a b c d : ℕ) → (a < b → c < d) → (c < d → a < b) → ltb a b ≡ ltb c d
same_ltb a b c d f g = go (ltb a b) (ltb c d) refl refl
  where
    go : (x y : Bool) → ltb a b ≡ x → ltb c d ≡ y → x ≡ y
    go true true e h = refl
    go true false e h = absurd (let l = f (ltb-true a b e) in let k = ltb-false c d h in omega arith)
    go false true e h = absurd (let l = g (ltb-true c d h) in let k = ltb-false a b e in omega arith)
    go false false e h = refl

pub not_ltb : (a b : ℕ) → not (ltb b a) ≡ leb a b
not_ltb a b = go (ltb b a) refl
  where
    go : (x : Bool) → ltb b a ≡ x → not x ≡ leb a b
    go true e = sym (lt-leb a b (ltb-true b a e))
    go false e = sym (le-leb a b (ltb-false b a e))

-- ---- a finite pattern's size in units of the smallest float: the digits, or a leading one and the digits, shifted by the exponent

unfoldable pub units_of : (field digits : ℕ) → ℕ
units_of zero t = t
units_of (suc x) t = (0x80_0000 + t) * 2 ^ x

abbrev pub units : ℕ → ℕ
units i = units_of (i / 0x80_0000) (i % 0x80_0000)

-- doubling the leading one passes all the digits
step_up : (t x : ℕ) → t < 0x80_0000 → (0x80_0000 + t) * 2 ^ x < 0x80_0000 * 2 ^ suc x
step_up t x h =
    let p = pow_pos x in
    let m : suc (0x80_0000 + t) * 2 ^ x ≤ 0x100_0000 * 2 ^ x = mul-le-mul_right (2 ^ x) (omega arith) in
    omega (arith, m)

grows : (x t y u : ℕ) → t < 0x80_0000 → x < y → units_of x t < units_of y u
unfolding units_of
grows x t zero u h l = absurd (omega arith)
grows zero t (suc y) u h l =
    let p : 0x80_0000 * 2 ^ y ≤ (0x80_0000 + u) * 2 ^ y = mul-le-mul_right (2 ^ y) (omega arith) in
    let q = pow_pos y in
    omega (arith, p, q)
grows (suc x) t (suc y) u h l =
    let p : 0x80_0000 * 2 ^ y ≤ (0x80_0000 + u) * 2 ^ y = mul-le-mul_right (2 ^ y) (omega arith) in
    let k : suc x ≤ y = omega arith in
    let q : 2 ^ suc x ≤ 2 ^ y = pow_mono k in
    omega (arith, step_up t x h, p, q)

within_field : (x t u : ℕ) → t < u → units_of x t < units_of x u
unfolding units_of
within_field zero t u l = l
within_field (suc x) t u l =
    let p = pow_pos x in
    let m : suc (0x80_0000 + t) * 2 ^ x ≤ (0x80_0000 + u) * 2 ^ x = mul-le-mul_right (2 ^ x) (omega arith) in
    omega (arith, m)

-- a larger pattern is a larger size
pub units_mono : (i j : ℕ) → i < j → units i < units j
units_mono i j l = go (ltb (i / 0x80_0000) (j / 0x80_0000)) refl
  where
    go : (b : Bool) → ltb (i / 0x80_0000) (j / 0x80_0000) ≡ b → units i < units j
    go true e = grows (i / 0x80_0000) (i % 0x80_0000) (j / 0x80_0000) (j % 0x80_0000) (omega arith) (ltb-true _ _ e)
    go false e =
        let f : i / 0x80_0000 ≡ j / 0x80_0000 = (let h = ltb-false (i / 0x80_0000) (j / 0x80_0000) e in omega arith) in
        subst (λ (x : ℕ). units_of x (i % 0x80_0000) < units j) (sym f)
        (within_field (j / 0x80_0000) (i % 0x80_0000) (j % 0x80_0000) (omega arith))

pub units_back : (i j : ℕ) → units i < units j → i < j
units_back i j l = go (ltb i j) refl
  where
    go : (b : Bool) → ltb i j ≡ b → i < j
    go true e = ltb-true i j e
    go false e = absurd (no (ltb j i) refl)
      where
        no : (b : Bool) → ltb j i ≡ b → ⊥
        no true f = let m = units_mono j i (ltb-true j i f) in omega arith
        no false f =
            let k = ltb-false i j e in
            let m = ltb-false j i f in
            let e : i ≡ j = omega arith in
            let s : units i ≡ units j = ap units e in
            omega arith

-- ---- a finite pattern has that size

of_fields_finite : (s : Bool) (x t : ℕ) → finite (of_fields binary32 s x t) ≡ true
    → HasValue (of_fields binary32 s x t) s (units_of x t) (2 ^ 149)
unfolding of_fields finite units_of
of_fields_finite s zero t h =
    let e : t * 1 ≡ t = omega arith in
    subst (λ (q : ℕ). HasValue (odd 24 s t 0 149) s q (2 ^ 149)) e (odd_sign 24 s t 0 149)
of_fields_finite s (suc x) t h = go (eqb (suc x) 255) (eqb t 0) h
  where
    go : (a b : Bool) → finite (cond a (cond b (inf s) nan) (odd 24 s (0x80_0000 + t) x 149)) ≡ true
        → HasValue (cond a (cond b (inf s) nan) (odd 24 s (0x80_0000 + t) x 149)) s ((0x80_0000 + t) * 2 ^ x) (2 ^ 149)
    go true true e = absurd (true≢false (sym e))
    go true false e = absurd (true≢false (sym e))
    go false b e = odd_sign 24 s (0x80_0000 + t) x 149

-- sign and size of a pattern
pub sized : (b : ℕ) → finite (of_bits binary32 b) ≡ true
    → HasValue (of_bits binary32 b) (leb 0x8000_0000 b) (units (b % 0x8000_0000)) (2 ^ 149)
unfolding of_bits
sized b h =
    let e : b % 0x80_0000 ≡ b % 0x8000_0000 % 0x80_0000 = omega arith in
    subst (λ (t : ℕ). HasValue (of_bits binary32 b) (leb 0x8000_0000 b) (units_of (b % 0x8000_0000 / 0x80_0000) t) (2 ^ 149)) e
    (of_fields_finite (leb 0x8000_0000 b) (b % 0x8000_0000 / 0x80_0000) (b % 0x80_0000) h)

-- ---- float comparison is comparison of sign and size

-- two products over one divisor: p / d is a / c and q / d is b / c
scaled : (p q a b c d : ℕ) → 0 < c → 0 < d → p * c ≡ a * d → q * c ≡ b * d → p < q → a < b
scaled p q a b c d C D f g l =
    let m : suc p * c ≤ q * c = mul-le-mul_right c l in
    go (ltb a b) refl m
  where
    go : (t : Bool) → ltb a b ≡ t → suc p * c ≤ q * c → a < b
    go true e m = ltb-true a b e
    go false e m = absurd (let n : b * d ≤ a * d = mul-le-mul_right d (ltb-false a b e) in omega (arith, m, n))

below_same : (s t : Bool) (p q a b c d : ℕ) → 0 < c → 0 < d → p * c ≡ a * d → q * c ≡ b * d → below s p t q ≡ below s a t b
below_same false false p q a b c d C D f g = same_ltb p q a b (scaled p q a b c d C D f g) (scaled a b p q d c D C (sym f) (sym g))
below_same false true p q a b c d C D f g = refl
below_same true false p q a b c d C D f g =
    let z : 0 * c ≡ 0 * d = omega arith in
    let e : (p + q) * c ≡ (a + b) * d = add-mul p q c ∙ ap (λ (x : ℕ). x + q * c) f ∙ ap (λ (x : ℕ). a * d + x) g ∙ sym (add-mul a b d) in
    same_ltb 0 (p + q) 0 (a + b) (scaled 0 (p + q) 0 (a + b) c d C D z e) (scaled 0 (a + b) 0 (p + q) d c D C (sym z) (sym e))
below_same true true p q a b c d C D f g = same_ltb q p b a (scaled q p b a c d C D g f) (scaled b a q p d c D C (sym g) (sym f))

pub lt_sized : (x y : Float) (s t : Bool) (a b c : ℕ) → 0 < c → HasValue x s a c → HasValue y t b c → lt x y ≡ below s a t b
unfolding lt
lt_sized nan y s t a b c C h k = absurd h
lt_sized (inf u) y s t a b c C h k = absurd h
lt_sized (fin u m e) nan s t a b c C h k = absurd k
lt_sized (fin u m e) (inf w) s t a b c C h k = absurd k
lt_sized (fin u m e) (fin w n d) s t a b c C h k =
    let f : m * up e * down d * c ≡ a * (down e * down d) =
    mul_right_comm (m * up e) (down d) c ∙ ap (λ (x : ℕ). x * down d) h.1 ∙ mul_assoc a (down e) (down d) in
    let g : n * up d * down e * c ≡ b * (down e * down d) =
    mul_right_comm (n * up d) (down e) c ∙ ap (λ (x : ℕ). x * down e) k.1 ∙ mul_right_comm b (down d) (down e)
    ∙ mul_assoc b (down e) (down d) in
    ap (λ (x : Bool). below x (m * up e * down d) w (n * up d * down e)) h.0
    ∙ ap (λ (x : Bool). below s (m * up e * down d) x (n * up d * down e)) k.0
    ∙ below_same s t (m * up e * down d) (n * up d * down e) a b c (down e * down d) C (mul-pos (down_pos e) (down_pos d)) f g

-- ---- at most is not above

below_or_equal : (p q : ℕ) → (ltb p q || (eqb p q && true)) ≡ not (ltb q p)
below_or_equal p q = go (ltb p q) (ltb q p) refl refl
  where
    go : (a b : Bool) → ltb p q ≡ a → ltb q p ≡ b → (a || (eqb p q && true)) ≡ not b
    go true true e f = absurd (let l = ltb-true p q e in let k = ltb-true q p f in omega arith)
    go true false e f = refl
    go false true e f = let k = ltb-true q p f in rw (ne_eqb p q (λ z. omega arith)) refl
    go false false e f = let l = ltb-false p q e in let k = ltb-false q p f in rw (eq-eqb p q (omega arith)) refl

-- both are zero, or one is not
both_zero : (p q : ℕ) (a : Bool) → ltb 0 (p + q) ≡ a → (eqb p q && eqb p 0) ≡ not a
both_zero p q true e = go (eqb p 0) refl
  where
    go : (b : Bool) → eqb p 0 ≡ b → (eqb p q && b) ≡ false
    go true f = let l = ltb-true 0 (p + q) e in let z = eqb-true p 0 f in rw (ne_eqb p q (λ y. omega arith)) refl
    go false f = and_false (eqb p q)
      where
        and_false : (b : Bool) → (b && false) ≡ false
        and_false true = refl
        and_false false = refl
both_zero p q false e = let l = ltb-false 0 (p + q) e in rw (eq-eqb p q (omega arith), eq-eqb p 0 (omega arith)) refl

at_most_whole : (s t : Bool) (p q : ℕ) → (below s p t q || level s p t q) ≡ not (below t q s p)
at_most_whole false false p q = below_or_equal p q
at_most_whole false true p q = both_zero p q (ltb 0 (q + p)) (ap (λ (x : ℕ). ltb 0 x) (add_comm p q))
at_most_whole true false p q = go (ltb 0 (p + q)) refl
  where
    go : (a : Bool) → ltb 0 (p + q) ≡ a → (a || (eqb p q && eqb p 0)) ≡ true
    go true e = refl
    go false e = both_zero p q false e
at_most_whole true true p q = ap (λ (x : Bool). ltb q p || (x && true)) (eqb_sym p q) ∙ below_or_equal q p
  where
    eqb_sym : (a b : ℕ) → eqb a b ≡ eqb b a
    eqb_sym a b = go (eqb b a) refl
      where
        go : (x : Bool) → eqb b a ≡ x → eqb a b ≡ x
        go true e = eq-eqb a b (sym (eqb-true b a e))
        go false e = ne_eqb a b (λ z. eqb-false b a e (sym z))

pub le_is : (x y : Float) → finite x ≡ true → finite y ≡ true → le x y ≡ not (lt y x)
unfolding le lt eq finite
le_is nan y h k = absurd (true≢false (sym h))
le_is (inf s) y h k = absurd (true≢false (sym h))
le_is (fin s m e) nan h k = absurd (true≢false (sym k))
le_is (fin s m e) (inf t) h k = absurd (true≢false (sym k))
le_is (fin s m e) (fin t n d) h k = at_most_whole s t (m * up e * down d) (n * up d * down e)
