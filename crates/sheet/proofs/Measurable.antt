-- What a reading or a limit may be, in plain conditions; what passes a gate; and that minus zero passes wherever zero does.
use Prim.Native.Nat.{ℕ, ◌+◌, ◌*◌, ◌<◌}
use native.Mathlib.Nat.{mul-pos}
use native.Mathlib.Omega.{arith}
use mathlib.Core.Path.{◌≡◌, refl, sym, ap, ap₂, subst}
use mathlib.Core.Logic.{◌↔◌}
use mathlib.Core.Bool.{Bool, true, false, not, ◌&&◌, ◌||◌, and-eq-true_iff}
use lib.Dec.{T, eqb, ltb}
use lib.IntN.{ℤ}
use lib.Ieee.{Float, nan, inf, fin, of_bits, is_nan, up, down, below, level, lt, le}
use lib.Ieee.Fits.{up_pos}
use borrow.Author.Tests.{not-true, lt-ltb, le-ltb, ltb-true, ltb-false}
use Rattle.sheet.specs.declared.Gate.{Gate}
use Rattle.sheet.specs.declared.Gate.TheVariants.{Open, AtMost, Between}
use Rattle.sheet.specs.Sheet.{finite, plus_zero, minus_zero, below_zero, measurable, within, passes, Measurable}

-- ---- not NaN, infinite or below zero

pub measurable_exactly : (x : Float) → (measurable x ≡ true) ↔ Measurable x
unfolding measurable
measurable_exactly x = (
  λ h. let b = (and-eq-true_iff (finite x) (not (below_zero x))).0 h in
      record { is_finite = b.0; not_below = not-true (below_zero x) b.1 },
  λ m. rw (m.is_finite, m.not_below),
)

no_nan_finite : (x : Float) → finite x ≡ true → T (not (is_nan x))
unfolding finite is_nan
no_nan_finite nan h = subst T (sym h) tt
no_nan_finite (inf s) h = tt
no_nan_finite (fin s m e) h = tt

pub no_nan : (x : Float) → measurable x ≡ true → T (not (is_nan x))
no_nan x h = no_nan_finite x ((measurable_exactly x).0 h).is_finite

-- a number is below zero exactly when it has a minus sign and isn't zero
pub below_zero_exactly : (sign : Bool) (m : ℕ) (e : ℤ) → below_zero (fin sign m e) ≡ (sign && ltb 0 m)
unfolding lt of_bits
below_zero_exactly false m e = le-ltb (m * up e * 1) (0 * down e) (omega arith)
below_zero_exactly true m e = go (ltb 0 m) refl
  where
    go : (t : Bool) → ltb 0 m ≡ t → ltb 0 (m * up e * 1 + 0 * down e) ≡ t
    go true h = let p : 0 < m * up e = mul-pos (ltb-true 0 m h) (up_pos e) in lt-ltb 0 (m * up e * 1 + 0 * down e) (omega (arith, p))
    go false h =
        let z : m * up e ≡ 0 = (let y : m ≡ 0 = (let x = ltb-false 0 m h in omega arith) in rw y (omega arith)) in
        le-ltb 0 (m * up e * 1 + 0 * down e) (omega (arith, z))

-- ---- and within its gate

pub passes_exactly : (g : Gate) (x : Float) → (passes g x ≡ true) ↔ (Measurable x × (within g x ≡ true))
unfolding passes
passes_exactly g x = (
  λ h. let b = (and-eq-true_iff (measurable x) (within g x)).0 h in ((measurable_exactly x).0 b.0, b.1),
  λ p. rw ((measurable_exactly x).1 p.0, p.1),
)

-- ---- minus zero passes wherever zero does

twice : (b : Bool) → b && b ≡ b && true
twice true = refl
twice false = refl

-- what zero is at most, and what is at most zero, doesn't hang on zero's sign
below_zeros : (t : Bool) (p q : ℕ) → p ≡ 0 → (below true p t q || level true p t q) ≡ (below false p t q || level false p t q)
below_zeros true p q e = rw (e, le-ltb q 0 (omega arith)) refl
below_zeros false p q e = let z : 0 + q ≡ q = omega arith in rw e (ap (λ (x : ℕ). ltb 0 x || (eqb 0 q && true)) z)

above_zeros : (t : Bool) (p q : ℕ) → p ≡ 0 → (below t q true p || level t q true p) ≡ (below t q false p || level t q false p)
above_zeros true p q e = let z : q ≡ q + 0 = omega arith in rw e (λ i. ltb 0 (z i) || sym (twice (eqb q 0)) i)
above_zeros false p q e = rw (e, le-ltb q 0 (omega arith)) (twice (eqb q 0))

at_most : (x : Float) → le minus_zero x ≡ le plus_zero x
unfolding le lt of_bits
at_most nan = refl
at_most (inf t) = refl
at_most (fin t n d) = below_zeros t (0 * down d) (n * up d * 1) (omega arith)

at_least : (x : Float) → le x minus_zero ≡ le x plus_zero
unfolding le lt of_bits
at_least nan = refl
at_least (inf t) = refl
at_least (fin t n d) = above_zeros t (0 * down d) (n * up d * 1) (omega arith)

minus_zero_within : (g : Gate) → within g minus_zero ≡ within g plus_zero
unfolding within
minus_zero_within Open = refl
minus_zero_within (AtMost high) = at_most high
minus_zero_within (Between low high) = ap₂ ◌&&◌ (at_least low) (at_most high)

pub minus_zero_lem : (g : Gate) → passes g minus_zero ≡ passes g plus_zero
unfolding passes
minus_zero_lem g = minus_zero_within g

pub minus_zero_measurable : measurable minus_zero ≡ true
unfolding measurable
minus_zero_measurable = refl

pub minus_zero_limit : Measurable minus_zero
minus_zero_limit = (measurable_exactly minus_zero).0 minus_zero_measurable
