-- The test `plausible` is true exactly when document 01's conditions hold. No other proof reads its text, but for what is computed:
-- it is read here in three cases, and whoever asks whether a declaration is plausible needs the laws below.
use Prim.Native.Nat.{◌*◌, ◌≤◌, ◌<◌, zero-le}
use native.Mathlib.Decide.{dec_le}
use native.Mathlib.Omega.{arith}
use mathlib.Core.Path.{◌≡◌, refl, sym, ◌∙◌}
use mathlib.Core.Logic.{◌↔◌, ◌⊎◌, ⊎_elim}
use mathlib.Core.Bool.{Bool, true, false, ◌&&◌, true≢false, and-eq-true_iff}
use lib.Ieee.{binary32, of_bits}
use borrow.Author.Tests.{le-leb, lt-leb}
use Rattle.sheet.specs.declared.Sheet.{Sheet}
use Rattle.lot.specs.declared.Declaration.{Declaration}
use Rattle.sheet.specs.Sheet.{readings_of, below_zero, measurable, passes, admitted, plausible, Plausible}
use Rattle.sheet.proofs.Measurable.{measurable_exactly, passes_exactly}

and_true : (a b : Bool) → a ≡ true → a && b ≡ b
and_true a b e = rw e

and_false : (a b : Bool) → a ≡ false → a && b ≡ false
and_false a b e = rw e

-- ---- the three cases

-- A declaration with no colonies isn't plausible, whatever its weight;
pub no_colonies : (s : Sheet) (d : Declaration) → d.colonies ≡ 0 → plausible s d ≡ false
unfolding plausible
no_colonies s d none = rw none

-- with colonies it isn't where it weighs too much,
pub too_heavy : (s : Sheet) (d : Declaration) → 1 ≤ d.colonies → d.colonies * s.cap < d.kilograms → plausible s d ≡ false
unfolding plausible
too_heavy s d colony heavy = and_true _ _ (le-leb _ _ colony) ∙ and_false _ (admitted s (readings_of d)) (lt-leb _ _ heavy)

-- and otherwise the readings decide.
pub readings_decide : (s : Sheet) (d : Declaration) → 1 ≤ d.colonies → d.kilograms ≤ d.colonies * s.cap
    → plausible s d ≡ admitted s (readings_of d)
unfolding plausible
readings_decide s d colony weight = and_true _ _ (le-leb _ _ colony) ∙ and_true _ _ (le-leb _ _ weight)

-- ---- the conditions

module _ (s : Sheet) (d : Declaration) where
  read : 1 ≤ d.colonies → d.kilograms ≤ d.colonies * s.cap → admitted s (readings_of d) ≡ true → Plausible s d
  unfolding admitted
  read colony weight a =
      let m = of_bits binary32 d.moisture in
      let c = of_bits binary32 d.conductivity in
      let b = (and-eq-true_iff (passes s.moisture m) (passes s.conductivity c)).0 a in
      let p = (passes_exactly s.moisture m).0 b.0 in
      let q = (passes_exactly s.conductivity c).0 b.1 in
      record {
        colony = colony;
        weight = weight;
        moisture_measurable = p.0;
        conductivity_measurable = q.0;
        moisture_within = p.1;
        conductivity_within = q.1;
      }

  from : Plausible s d → plausible s d ≡ true
  unfolding admitted
  from p =
      rw (
        readings_decide s d p.colony p.weight,
        (passes_exactly s.moisture _).1 (p.moisture_measurable, p.moisture_within),
        (passes_exactly s.conductivity _).1 (p.conductivity_measurable, p.conductivity_within),
      )

  to : plausible s d ≡ true → Plausible s d
  to h =
      elim (dec_le 1 d.colonies) [
        | yes colony ↦ elim (dec_le d.kilograms (d.colonies * s.cap)) [
          | yes weight ↦ read colony weight (sym (readings_decide s d colony weight) ∙ h)
          | no f ↦ absurd (true≢false (sym h ∙ too_heavy s d colony (omega arith)))
        ]
        | no f ↦ absurd (true≢false (sym h ∙ no_colonies s d (omega arith)))
      ]

  pub plausible_exactly : (plausible s d ≡ true) ↔ Plausible s d
  plausible_exactly = (to, from)

  -- where one of the conditions fails
  pub not_plausible : (Plausible s d → ⊥) → false ≡ plausible s d
  not_plausible f = go (plausible s d) refl
    where
      go : (b : Bool) → plausible s d ≡ b → false ≡ plausible s d
      go true e = absurd (f (to e))
      go false e = sym e

  -- where a reading is NaN, infinite or below zero
  pub moisture_fails : measurable (of_bits binary32 d.moisture) ≡ false → false ≡ plausible s d
  moisture_fails f = not_plausible λ p. true≢false (sym ((measurable_exactly _).1 p.moisture_measurable) ∙ f)

  pub conductivity_fails : measurable (of_bits binary32 d.conductivity) ≡ false → false ≡ plausible s d
  conductivity_fails f = not_plausible λ p. true≢false (sym ((measurable_exactly _).1 p.conductivity_measurable) ∙ f)

  -- no kilograms is plausible, of one colony or more, where the readings are admitted
  pub no_kilograms : 1 ≤ d.colonies → d.kilograms ≡ 0 → admitted s (readings_of d) ≡ true → plausible s d ≡ true
  no_kilograms colony none a = readings_decide s d colony (rw none zero-le) ∙ a

  -- a declaration with a reading below zero isn't plausible, at whatever gates
  pub below_zero_lem : (below_zero (of_bits binary32 d.moisture) ≡ true) ⊎ (below_zero (of_bits binary32 d.conductivity) ≡ true)
      → plausible s d ≡ false
  below_zero_lem h =
      sym
      (not_plausible λ p. ⊎_elim
      (λ m. true≢false (sym m ∙ p.moisture_measurable.not_below))
      (λ c. true≢false (sym c ∙ p.conductivity_measurable.not_below))
      h)
