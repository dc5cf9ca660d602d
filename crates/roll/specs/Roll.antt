-- A roll of lot lines and the season's totals: what is sound, and what entering a line and striking a lot make of both.
use Rattle.std.specs.Prelude.{ℕ, ◌+◌, List, [], ◌∷◌, ◌++◌, Bool, true, false, cond, not, ◌&&◌, ◌||◌, length, take, drop, leb, ltb, eqb}
use Rattle.std.specs.Prelude.{Float}
use Rattle.std.proofs.Math.Option.{Option, none, some}
use Rattle.std.specs.Float.{binary32}
use Rattle.std.specs.Float.Ieee.{of_bits, lt}
use Rattle.lot.specs.declared.Declaration.{Declaration}
use Rattle.sheet.specs.Sheet.{finite}
use Rattle.roll.specs.declared.Line.{Line}
use Rattle.roll.specs.declared.Totals.{Totals}
use Rattle.roll.specs.declared.Ask.{Ask}
use Rattle.roll.specs.declared.Ask.TheVariants.{Enter, Strike}

-- ---- lot lines

-- the line of a declaration: its five numbers
abbrev pub line_of : Declaration → Line
line_of d =
    record {
      lot = d.lot;
      colonies = d.colonies;
      kilograms = d.kilograms;
      moisture = d.moisture;
      conductivity = d.conductivity;
    }

-- a line's moisture
abbrev pub moisture_of : Line → Float
moisture_of l = of_bits binary32 l.moisture

-- neither reading is NaN or infinite
unfoldable pub finite_readings : Line → Bool
finite_readings l = finite (moisture_of l) && finite (of_bits binary32 l.conductivity)

-- ascending lot order, from k on: each lot is above the one before
abbrev pub ordered_from : ℕ → List Line → Bool
ordered_from k [] = true
ordered_from k (l ∷ ls) = leb k l.lot && ordered_from (l.lot + 1) ls

abbrev pub ordered : List Line → Bool
ordered ls = ordered_from 0 ls

-- finite readings, all of them
abbrev pub all_finite : List Line → Bool
all_finite [] = true
all_finite (l ∷ ls) = finite_readings l && all_finite ls

-- a lot is there
abbrev pub has : ℕ → List Line → Bool
has lot [] = false
has lot (l ∷ ls) = eqb l.lot lot || has lot ls

-- ---- the totals of lines

-- kilograms
abbrev pub weight : List Line → ℕ
weight [] = 0
weight (l ∷ ls) = l.kilograms + weight ls

-- b stands, unless l's moisture is higher by float comparison: among equal moistures the first line stands, the lowest lot's in lot order
unfoldable pub better : Option Line → Line → Option Line
better none l = some l
better (some b) l = cond (lt (moisture_of b) (moisture_of l)) (some l) (some b)

abbrev pub best : Option Line → List Line → Option Line
best b [] = b
best b (l ∷ ls) = best (better b l) ls

-- the line with the highest moisture, or none when empty
abbrev pub highest : List Line → Option Line
highest ls = best none ls

-- its bits, and 1; or 0 and 0 for none
abbrev pub bits : Option Line → ℕ
bits none = 0
bits (some l) = l.moisture

abbrev pub there : Option Line → ℕ
there none = 0
there (some l) = 1

abbrev pub totals_with : ℕ → ℕ → Option Line → Totals
totals_with kg n b = record { kilograms = kg; lines = n; moisture = bits b; measured = there b }

-- kilograms, lines in use, highest moisture
abbrev pub totals_of : List Line → Totals
totals_of ls = totals_with (weight ls) (length ls) (highest ls)

abbrev pub no_totals : Totals
no_totals = totals_of []

-- the same in all four numbers
unfoldable pub same_totals : Totals → Totals → Bool
same_totals t u =
    eqb t.kilograms u.kilograms && (eqb t.lines u.lines && (eqb t.moisture u.moisture && eqb t.measured u.measured))

-- ---- a roll and totals

-- the roll has at most 4,096 lines
abbrev pub most_lines : ℕ
most_lines = 4096

-- the first lines of a roll, as many as the totals say
abbrev pub in_use : List Line → Totals → List Line
in_use roll t = take t.lines roll

-- a roll not too long, and totals that are those of the first lines of an ordered roll of finite readings
unfoldable pub sound : List Line → Totals → Bool
unfolding finite_readings same_totals
sound roll t =
    leb (length roll) most_lines && (ordered (in_use roll t) && (all_finite (in_use roll t) && same_totals t (totals_of (in_use roll t))))

-- ---- entering and striking

-- the line entered in its place
abbrev pub enters : Line → List Line → List Line
enters l [] = l ∷ []
enters l (m ∷ ms) = cond (ltb m.lot l.lot) (m ∷ enters l ms) (l ∷ (m ∷ ms))

-- the lot's line struck, the gap closed
abbrev pub strikes : ℕ → List Line → List Line
strikes lot [] = []
strikes lot (m ∷ ms) = cond (eqb m.lot lot) ms (m ∷ strikes lot ms)

-- a line zeroed
abbrev pub zero_line : Line
zero_line = record { lot = 0; colonies = 0; kilograms = 0; moisture = 0; conductivity = 0 }

-- an answer, the roll and the totals afterwards
pub record Changed : Type 0 where
  pub answer : ℕ
  pub lines : List Line
  pub totals : Totals

abbrev pub outcome : ℕ → List Line → Totals → Changed
outcome n roll t = record { answer = n; lines = roll; totals = t }

-- refused, changing neither
abbrev pub refused : ℕ → List Line → Totals → Changed
refused n roll t = outcome n roll t

-- accepted: the lines in use, the free ones after them, and the totals of those in use
abbrev pub accepted : List Line → List Line → Changed
accepted used free = outcome 0 (used ++ free) (totals_of used)

-- entering, refused in this order: 20 the roll or the totals, 21 a reading not finite, 22 a lot already there, 23 no line free
unfoldable pub entered : List Line → Totals → Line → Changed
unfolding sound finite_readings
entered roll t l =
    cond (not (sound roll t)) (refused 20 roll t)
    (cond (not (finite_readings l)) (refused 21 roll t)
    (cond (has l.lot (in_use roll t)) (refused 22 roll t)
    (cond (leb (length roll) t.lines) (refused 23 roll t)
    (accepted (enters l (in_use roll t)) (drop (t.lines + 1) roll)))))

-- striking, refused in this order: 20 the roll or the totals, 24 a lot not on the roll; the line freed is zeroed, which is free again
unfoldable pub struck : List Line → Totals → ℕ → Changed
unfolding sound
struck roll t lot =
    cond (not (sound roll t)) (refused 20 roll t)
    (cond (not (has lot (in_use roll t))) (refused 24 roll t)
    (accepted (strikes lot (in_use roll t)) (zero_line ∷ drop t.lines roll)))

-- what is asked: a line to enter, or a lot to strike
abbrev pub entering : Line → Ask
entering l = Enter l

abbrev pub striking : ℕ → Ask
striking lot = Strike lot

-- whether a lot is to be struck; the lot that is asked for; and the kilograms that are to be entered, 0 where a lot is to be struck
abbrev pub is_strike : Ask → Bool
is_strike (Enter l) = false
is_strike (Strike lot) = true

abbrev pub lot_asked : Ask → ℕ
lot_asked (Enter l) = l.lot
lot_asked (Strike lot) = lot

abbrev pub kilograms_asked : Ask → ℕ
kilograms_asked (Enter l) = l.kilograms
kilograms_asked (Strike lot) = 0

-- what the ask makes of the roll and the totals
unfoldable pub changed : List Line → Totals → Ask → Changed
unfolding entered struck
changed roll t (Enter l) = entered roll t l
changed roll t (Strike lot) = struck roll t lot
