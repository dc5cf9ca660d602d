-- A line carried over the lines of a roll, place by place; and a change as what the look and the carrying make of it.
use Rattle.std.specs.Prelude.{ℕ, zero, suc, List, Result, Ok, Err, length, get_or, set, take}
use Rattle.roll.specs.declared.Line.{Line}
use Rattle.roll.specs.declared.Totals.{Totals}
use Rattle.roll.specs.declared.Ask.{Ask}
use Rattle.roll.specs.Roll.{zero_line, Changed, outcome, refused}
use Rattle.refusal.specs.declared.Refusal.{Refusal}
use Rattle.refusal.specs.Answer.{number_of}
use Rattle.lines.specs.declared.Seen.{Seen}
use Rattle.lines.specs.Look.{seen_in}
use Rattle.plans.specs.declared.Look.{Look}
use Rattle.plans.specs.declared.Plan.{Plan}
use Rattle.plans.specs.Plan.{turns, place_at, begun, decided}

-- the line in hand, and the lines
pub record Carried : Type 0 where
  pub hand : Line
  pub lines : List Line

-- the line at a place is taken up and the one in hand laid down
abbrev pub laid_at : ℕ → Carried → Carried
laid_at at c = record { hand = get_or c.lines at zero_line; lines = set c.lines at c.hand }

-- after i turns
abbrev pub after : Plan → List Line → ℕ → Carried
after p ls zero = record { hand = p.line; lines = ls }
after p ls (suc i) = laid_at (place_at p i) (after p ls i)

-- after all of them
abbrev pub carried : Plan → List Line → Carried
carried p ls = after p ls (turns p)

-- what a look sees
abbrev pub looked_at : Look → List Line → Seen
looked_at k ls = seen_in k.lot (take k.n ls)

-- what stands after a plan, or after a refusal, which changes neither the lines nor the totals
abbrev pub settled : List Line → Totals → Result Plan Refusal → Changed
settled ls t (Ok p) = outcome 0 (carried p ls).lines p.totals
settled ls t (Err r) = refused (number_of r) ls t

-- what the code works out; that it is `changed` is proofs/Core.antt
abbrev pub worked : List Line → Totals → Ask → Changed
worked ls t ask = settled ls t (decided (length ls) t ask (looked_at (begun (length ls) t ask) ls))
