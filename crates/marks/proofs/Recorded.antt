-- What the code finds of a slot is what recording answers: full with the same declaration 7, full with another 13, empty 0.
use Prim.Native.Nat.{ℕ}
use mathlib.Core.Path.{◌≡◌, sym, ap, ◌∙◌}
use mathlib.Core.Bool.{Bool, true, false}
use mathlib.Core.List.{List}
use mathlib.Core.Option.{Option, none, some}
use native.Mathlib.Omega.{arith}
use Rattle.card.specs.Count.{bit, count}
use Rattle.entry.specs.Entry.{Decl, is_some, holds}
use Rattle.entry.proofs.Basics.{bcase, T_of, true_of, holds_eq, eq_holds}
use Rattle.entry.proofs.Fullness.{full_holds, empty_holds}
use Rattle.protocol.specs.Steps.{recording}
use Rattle.protocol.proofs.Recording.{recording_none, recording_same, recording_other}
use Rattle.meaning.specs.Layout.{place_from}
use Rattle.meaning.specs.Slot.{slot_at}

module _ (b : List ℕ) (at : ℕ) (v : Decl) (r : Bool) (e : r ≡ is_some (slot_at b at)) where
  recorded : (x : Option Decl) → slot_at b at ≡ x → recording (slot_at b at) v ≡ recording x v
  recorded x q = ap (λ (o : Option Decl). recording o v) q

  -- of the one slot at `at`, so many hold v
  module _ (full : r ≡ true) (found : ℕ) (ef : found ≡ count (λ p. holds (slot_at b (place_from at p)) v) 1) where
    found_is : found ≡ bit (holds (slot_at b at) v)
    found_is =
        let here : place_from at 0 ≡ at = omega arith in
        omega (arith, ef, ap (λ (i : ℕ). bit (holds (slot_at b i) v)) here)

    pub same_recorded : found ≡ 1 → 7 ≡ recording (slot_at b at) v
    same_recorded t =
        bcase (holds (slot_at b at) v)
        (λ h. sym (recorded (some v) (holds_eq (slot_at b at) v (T_of h)) ∙ recording_same v))
        (λ f. absurd (omega (arith, found_is, t, ap bit f)))

    pub other_recorded : (found ≡ 1 → ⊥) → 13 ≡ recording (slot_at b at) v
    other_recorded f =
        let h = full_holds (slot_at b at) (sym e ∙ full) in
        sym (recorded (some h.0) h.1 ∙ recording_other h.0 v
        (λ q. f (found_is ∙ ap bit (true_of (holds (slot_at b at) v) (eq_holds (slot_at b at) v (h.1 ∙ ap some q))))))

  pub empty_recorded : r ≡ false → 0 ≡ recording (slot_at b at) v
  empty_recorded f = sym (recorded none (empty_holds (slot_at b at) (sym e ∙ f)) ∙ recording_none v)
