-- What this crate promises: what the book delivers, the roll takes. Of the book it sees what the season promises, and nothing of its bytes.
use Rattle.std.specs.Prelude.{ℕ, ◌<◌, ◌≡◌, ◌⊎◌, List, T, length}
use Rattle.lot.specs.Declaration.{declaration_at}
use Rattle.season.specs.Run.{Houses, is_honest, Open, Step, start, run}
use Rattle.season.specs.Claims.{Delivered}
use Rattle.roll.specs.declared.Line.{Line}
use Rattle.roll.specs.declared.Totals.{Totals}
use Rattle.roll.specs.Roll.{line_of, in_use, entered}
use Rattle.roll.specs.Plain.{There, Sound}

-- the line of a delivery
abbrev pub delivered : List ℕ → Line
delivered v = line_of (declaration_at v 0)

-- it is entered, or its lot is there already
pub data Taken (roll : List Line) (t : Totals) (v : List ℕ) : Type 0 where
  entered_now : (entered roll t (delivered v)).answer ≡ 0 → Taken roll t v
  there_already : (entered roll t (delivered v)).answer ≡ 22 → There (delivered v).lot (in_use roll t) → Taken roll t v

-- v, delivered by an honest house, with any number of wrong houses, and however often houses crash and return
pub record Takes (v : List ℕ) : Type 0 where
  -- is never answered 21,
  pub never_21 : (roll : List Line) (t : Totals) → (entered roll t (delivered v)).answer ≡ 21 → ⊥
  -- and on a sound roll with a line free it is entered, or its lot is there already.
  pub taken : (roll : List Line) (t : Totals) → Sound roll t → t.lines < length roll → Taken roll t v

-- of every run, and of every entry of the book
abbrev pub Claims : Type 0
Claims =
    (H : Houses) → Open H → (l : List Step) (j c : ℕ) → j < H.n → c < H.numbers → (r : ℕ) (v : List ℕ) → T (is_honest H r)
    → Delivered H j c (run H l (start H)) r v → Takes v
