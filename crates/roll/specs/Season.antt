-- A season of calls, one after the other, and the kilograms of the lots that accepted calls enter and strike.
use Rattle.std.specs.Prelude.{ℕ, ◌+◌, List, [], ◌∷◌, Bool, cond, not, ◌&&◌, eqb}
use Rattle.roll.specs.declared.Line.{Line}
use Rattle.roll.specs.declared.Ask.{Ask}
use Rattle.roll.specs.Roll.{no_totals, Changed, outcome, is_strike, lot_asked, kilograms_asked, changed}

-- an empty roll: no line is in use, whatever stands there
abbrev pub empty : List Line → Changed
empty roll = outcome 0 roll no_totals

-- one call more, and all calls of a season
abbrev pub next : Changed → Ask → Changed
next c q = changed c.lines c.totals q

abbrev pub season : List Ask → Changed → Changed
season [] c = c
season (q ∷ qs) c = season qs (next c q)

abbrev pub is_accepted : Changed → Ask → Bool
is_accepted c q = eqb (next c q).answer 0

-- the kilograms of lots entered, over a season
abbrev pub entered_in : List Ask → Changed → ℕ
entered_in [] c = 0
entered_in (q ∷ qs) c = cond (is_accepted c q && not (is_strike q)) (kilograms_asked q) 0 + entered_in qs (next c q)

-- the kilograms with which each lot was last entered, none where it was struck since: noted from the accepted calls alone
abbrev pub noted : Changed → Ask → (ℕ → ℕ) → ℕ → ℕ
noted c q w lot = cond (is_accepted c q) (cond (eqb (lot_asked q) lot) (cond (is_strike q) 0 (kilograms_asked q)) (w lot)) (w lot)

-- the kilograms of lots struck, over a season: each with the kilograms that it was entered with
abbrev pub struck_in : List Ask → Changed → (ℕ → ℕ) → ℕ
struck_in [] c w = 0
struck_in (q ∷ qs) c w = cond (is_accepted c q && is_strike q) (w (lot_asked q)) 0 + struck_in qs (next c q) (noted c q w)

-- from an empty roll no lot was entered
abbrev pub no_notes : ℕ → ℕ
no_notes lot = 0
