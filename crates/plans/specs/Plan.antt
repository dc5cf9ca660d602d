-- The plan of a look through the lines in use, and of what is carried where after it.
use Rattle.std.specs.Prelude.{ℕ, ◌+◌, ◌-◌, ◌<◌, ◌≤◌, Option, None, Some, is_some, Result, Ok, Err, Bool, cond, ◌&&◌, leb, ltb}
use Rattle.roll.specs.declared.Line.{Line}
use Rattle.roll.specs.declared.Totals.{Totals}
use Rattle.roll.specs.declared.Ask.{Ask}
use Rattle.roll.specs.declared.Ask.TheVariants.{Enter, Strike}
use Rattle.roll.specs.Roll.{finite_readings, same_totals, zero_line, most_lines, lot_asked}
use Rattle.refusal.specs.declared.Refusal.{Refusal}
use Rattle.refusal.specs.declared.Refusal.TheVariants.{NotSound, NotFinite, LotThere, NoneFree, LotNotThere}
use Rattle.lines.specs.declared.Seen.{Seen}
use Rattle.lines.specs.declared.Top.{Top}
use Rattle.lines.specs.Look.{merged}
use Rattle.plans.specs.declared.Look.{Look}
use Rattle.plans.specs.declared.Way.{Way}
use Rattle.plans.specs.declared.Way.TheVariants.{Up, Down}
use Rattle.plans.specs.declared.Plan.{Plan}

-- a roll not too long, and no more lines in use than there are
unfoldable pub long_enough : ℕ → ℕ → Bool
long_enough len lines = leb len most_lines && leb lines len

-- the lines in use are looked through, or none where there are too many
unfoldable pub begun : ℕ → Totals → Ask → Look
unfolding long_enough
begun len t ask = record { n = cond (long_enough len t.lines) t.lines 0; lot = lot_asked ask }

-- a plan has a place or more, all of them of a roll of so many lines
abbrev pub WithinRoll : ℕ → Plan → Type 0
WithinRoll len p = (p.places.start < p.places.end) × (p.places.end ≤ len)

-- the number of a plan's places
abbrev pub turns : Plan → ℕ
turns p = p.places.end - p.places.start

-- the place of a plan's turn i: from the front, or from the back
abbrev pub turn_at : Way → ℕ → ℕ → ℕ → ℕ
turn_at Up from n i = from + i
turn_at Down from n i = from + (n - 1 - i)

unfoldable pub place_at : Plan → ℕ → ℕ
place_at p i = turn_at p.way p.places.start (turns p) i

-- totals with this highest moisture, or none
unfoldable pub top_totals : ℕ → ℕ → Option Top → Totals
top_totals kg n None = record { kilograms = kg; lines = n; moisture = 0; measured = 0 }
top_totals kg n (Some top) = record { kilograms = kg; lines = n; moisture = top.bits; measured = 1 }

-- the line is carried up from its place, over the lines above it and the first free one
abbrev pub enter_at : Totals → Line → Seen → Plan
enter_at t l s =
    record {
      places = record { start = s.place; end = t.lines + 1 };
      way = Up;
      line = l;
      totals = top_totals (t.kilograms + l.kilograms) (t.lines + 1) (Some (merged s.others l));
    }

unfoldable pub enter_plan : ℕ → Totals → Line → Seen → Result Plan Refusal
unfolding finite_readings top_totals merged
enter_plan len t l s =
    cond (finite_readings l)
    (cond (is_some s.found) (Err LotThere) (cond (ltb t.lines len) (Ok (enter_at t l s)) (Err NoneFree)))
    (Err NotFinite)

-- a zero line is carried down from the last line in use to the lot's place; the lot's line weighs w
abbrev pub strike_at : Totals → Seen → ℕ → Plan
strike_at t s w =
    record {
      places = record { start = s.place; end = t.lines };
      way = Down;
      line = zero_line;
      totals = top_totals (t.kilograms - w) (t.lines - 1) s.others;
    }

abbrev pub strike_found : Totals → Seen → Option ℕ → Result Plan Refusal
strike_found t s None = Err LotNotThere
strike_found t s (Some w) = Ok (strike_at t s w)

unfoldable pub strike_plan : Totals → Seen → Result Plan Refusal
unfolding top_totals
strike_plan t s = strike_found t s s.found

-- what was seen is sound: lines in use that there are, in order and finite, and these are their totals
unfoldable pub sound_seen : ℕ → Totals → Seen → Bool
unfolding long_enough same_totals top_totals
sound_seen len t s = long_enough len t.lines && (s.fine && same_totals t (top_totals s.kilograms t.lines s.all))

-- what is asked is planned
abbrev pub planned : ℕ → Totals → Ask → Seen → Result Plan Refusal
planned len t (Enter l) s = enter_plan len t l s
planned len t (Strike lot) s = strike_plan t s

-- what was seen decides
unfoldable pub decided : ℕ → Totals → Ask → Seen → Result Plan Refusal
unfolding sound_seen enter_plan strike_plan
decided len t ask s = cond (sound_seen len t s) (planned len t ask s) (Err NotSound)
