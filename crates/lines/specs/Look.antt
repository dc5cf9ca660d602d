-- How a look through the lines works out what it sees, one line after the other.
use Rattle.std.specs.Prelude.{ℕ, ◌+◌, ◌<◌, ◌≤◌, ◌^◌, ◌≡◌, List, [], ◌∷◌, Option, None, Some, Bool, true, cond, ◌&&◌}
use Rattle.std.specs.Prelude.{leb, ltb, eqb}
use Rattle.roll.specs.declared.Line.{Line}
use Rattle.roll.specs.Roll.{finite_readings}
use Rattle.roll.specs.Rank.{rank}
use Rattle.lines.specs.declared.Top.{Top}
use Rattle.lines.specs.declared.Seen.{Seen}

-- a line's moisture, with its rank and its lot
unfoldable pub top_of : Line → Top
unfolding rank
top_of l = record { rank = rank l.moisture; bits = l.moisture; lot = l.lot }

-- the next line takes the place of a lower moisture: among equal ones the first stands
abbrev pub raised : Option Top → Top → Top
raised None u = u
raised (Some t) u = cond (ltb t.rank u.rank) u t

-- any other line takes the place of a lower moisture: among equal ones the lowest lot's stands
unfoldable pub merged : Option Top → Line → Top
unfolding top_of
merged None l = top_of l
merged (Some t) l =
    cond (eqb t.rank (top_of l).rank) (cond (ltb (top_of l).lot t.lot) (top_of l) t) (raised (Some t) (top_of l))

abbrev pub nothing_seen : Seen
nothing_seen =
    record { fine = true; next = 0; place = 0; found = None; kilograms = 0; all = None; others = None }

-- a line that may stand next
unfoldable pub fine_next : Seen → Line → Bool
unfolding finite_readings
fine_next s l = s.fine && (leb s.next l.lot && finite_readings l)

-- one more line is seen
unfoldable pub looked : ℕ → Seen → Line → Seen
unfolding fine_next top_of
looked lot s l =
    record {
      fine = fine_next s l;
      next = l.lot + 1;
      place = cond (ltb l.lot lot) (s.place + 1) s.place;
      found = cond (eqb l.lot lot) (Some l.kilograms) s.found;
      kilograms = s.kilograms + l.kilograms;
      all = Some (raised s.all (top_of l));
      others = cond (eqb l.lot lot) s.others (Some (raised s.others (top_of l)));
    }

-- all of them
abbrev pub scanned : ℕ → Seen → List Line → Seen
scanned lot s [] = s
scanned lot s (l ∷ ls) = scanned lot (looked lot s l) ls

abbrev pub seen_in : ℕ → List Line → Seen
seen_in lot ls = scanned lot nothing_seen ls

-- the counts that are seen have room for one line more, and the weight of a lot found is within the kilograms
pub record Fair (s : Seen) : Type 0 where
  pub place_fits : s.place < 2 ^ 63
  pub kilograms_fit : s.kilograms < 2 ^ 63
  pub weight_within : (w : ℕ) → s.found ≡ Some w → w ≤ s.kilograms

-- the place is one of n, or just after them; that of a lot found is one of them
pub record Within (s : Seen) (n : ℕ) : Type 0 where
  pub place_within : s.place ≤ n
  pub found_within : (w : ℕ) → s.found ≡ Some w → s.place < n

-- the kilograms of lines are 32-bit numbers, as they are in every line that is lent
abbrev pub Small : List Line → Type 0
Small [] = Unit
Small (l ∷ ls) = (l.kilograms < 2 ^ 32) × Small ls
