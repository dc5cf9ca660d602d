-- What this crate promises holds: what is delivered is plausible, so its readings are finite.
use Prim.Native.Nat.{ℕ, ◌<◌}
use mathlib.Core.Path.{◌≡◌, refl, sym, ◌∙◌}
use mathlib.Core.Bool.{Bool, true, false, true≢false}
use mathlib.Core.List.{List}
use lib.ListN.{length}
use Rattle.sheet.specs.Kept.{judged}
use Rattle.season.proofs.Season as season
use Rattle.roll.specs.declared.Line.{Line}
use Rattle.roll.specs.declared.Totals.{Totals}
use Rattle.roll.specs.Roll.{has, in_use, entered}
use Rattle.roll.specs.Plain.{Finite, There, Sound}
use Rattle.roll.proofs.Plain.{has_there, there_has}
use Rattle.roll.proofs.Claims as roll
use Rattle.register.specs.Claims.{delivered, Taken, entered_now, there_already, Takes, Claims}

takes : (sheet v : List ℕ) → judged sheet v ≡ 0 → Takes v
takes sheet v e = record { never_21 = λ ls t h. (roll.claims).never_21 ls t (delivered v) finite h; taken = taken }
  where
    finite : Finite (delivered v)
    finite = (roll.claims).judged_finite sheet v e

    taken : (roll : List Line) (t : Totals) → Sound roll t → t.lines < length roll → Taken roll t v
    taken ls t s room = go (has (delivered v).lot (in_use ls t)) refl
      where
        not_there : has (delivered v).lot (in_use ls t) ≡ false → There (delivered v).lot (in_use ls t) → ⊥
        not_there f h = true≢false (sym (there_has (delivered v).lot (in_use ls t) h) ∙ f)

        go : (b : Bool) → has (delivered v).lot (in_use ls t) ≡ b → Taken ls t v
        go true h =
            let there = has_there (delivered v).lot (in_use ls t) h in
            there_already (((roll.claims).entering ls t (delivered v)).already_there s finite there) there
        go false h = entered_now (((roll.claims).entering ls t (delivered v)).accepted s finite (not_there h) room)

pub claims : Claims
claims H opened l j c in_book number r v honest d =
    takes H.sheet v ((season.claims H opened l j c in_book number).safe.plausible r v honest d)
