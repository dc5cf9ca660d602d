-- A number tells its refusal: the refusal is found again from it.
use mathlib.Core.Path.{refl, sym, ap, ◌∙◌}
use native.Mathlib.Omega.{arith}
use Rattle.std.specs.Prelude.{ℕ, ◌≡◌, cond, eqb, Result, Ok, Err}
use Rattle.refusal.specs.declared.Refusal.{Refusal}
use Rattle.refusal.specs.declared.Refusal.TheVariants.{NotLegal, Malformed, OtherSeason, NotThere, NotPlausible, NotFromSender, SaidBefore}
use Rattle.refusal.specs.declared.Refusal.TheVariants.{PublishedBefore, NotAllowed, NotASheet, OtherLength, SaidOtherwise, HelpedEnough}
use Rattle.refusal.specs.declared.Refusal.TheVariants.{NotSound, NotFinite, LotThere, NoneFree, LotNotThere}
use Rattle.refusal.specs.Answer.{number_of, answer_of}

abbrev refusal_of : ℕ → Refusal
refusal_of n =
    (cond (eqb n 1) NotLegal
    (cond (eqb n 2) Malformed
    (cond (eqb n 3) OtherSeason
    (cond (eqb n 4) NotThere
    (cond (eqb n 5) NotPlausible
    (cond (eqb n 6) NotFromSender
    (cond (eqb n 7) SaidBefore
    (cond (eqb n 8) PublishedBefore
    (cond (eqb n 9) NotAllowed
    (cond (eqb n 10) NotASheet
    (cond (eqb n 11) OtherLength
    (cond (eqb n 13) SaidOtherwise
    (cond (eqb n 14) HelpedEnough
    (cond (eqb n 20) NotSound
    (cond (eqb n 21) NotFinite
    (cond (eqb n 22) LotThere
    (cond (eqb n 23) NoneFree
    LotNotThere)))))))))))))))))

found_again : (x : Refusal) → refusal_of (number_of x) ≡ x
found_again NotLegal = refl
found_again Malformed = refl
found_again OtherSeason = refl
found_again NotThere = refl
found_again NotPlausible = refl
found_again NotFromSender = refl
found_again SaidBefore = refl
found_again PublishedBefore = refl
found_again NotAllowed = refl
found_again NotASheet = refl
found_again OtherLength = refl
found_again SaidOtherwise = refl
found_again HelpedEnough = refl
found_again NotSound = refl
found_again NotFinite = refl
found_again LotThere = refl
found_again NoneFree = refl
found_again LotNotThere = refl

pub number_injective : (x y : Refusal) → number_of x ≡ number_of y → x ≡ y
number_injective x y e = sym (found_again x) ∙ (ap refusal_of e ∙ found_again y)

pub never_accepted : (x : Refusal) → number_of x ≡ 0 → ⊥
never_accepted x = grind arith

-- so an answer tells its outcome
pub answer_injective : (r s : Result Unit Refusal) → answer_of r ≡ answer_of s → r ≡ s
answer_injective (Ok x) (Ok y) e = refl
answer_injective (Ok x) (Err y) e = absurd (never_accepted y (sym e))
answer_injective (Err x) (Ok y) e = absurd (never_accepted x e)
answer_injective (Err x) (Err y) e = ap Err (number_injective x y e)
