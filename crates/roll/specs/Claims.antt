-- What this crate promises, in the order of request 2026-05.
use Rattle.std.specs.Prelude.{ℕ, ◌+◌, ◌-◌, ◌<◌, ◌≤◌, ◌≡◌, ◌⊎◌, ◌↔◌, true, List, [], ◌∷◌, length, drop, ltb}
use Rattle.std.proofs.Math.Option.{none, some}
use Rattle.std.specs.Float.{binary32}
use Rattle.std.specs.Float.Ieee.{of_bits, lt}
use Rattle.lot.specs.Declaration.{declaration_at}
use Rattle.sheet.specs.Sheet.{finite}
use Rattle.sheet.specs.Kept.{judged}
use Rattle.roll.specs.declared.Line.{Line}
use Rattle.roll.specs.declared.Totals.{Totals}
use Rattle.roll.specs.declared.Ask.{Ask}
use Rattle.roll.specs.Rank.{rank}
use Rattle.roll.specs.Roll.{line_of, ordered, all_finite, highest, in_use, sound, zero_line, Changed, outcome, refused}
use Rattle.roll.specs.Roll.{entered, struck, changed}
use Rattle.roll.specs.Plain.{Among, Finite, There, Sound, Highest}
use Rattle.roll.specs.Cases.{Cases}
use Rattle.roll.specs.Season.{empty, next, season, entered_in, struck_in, no_notes}

-- Entering: each answer exactly when 02 says, the first in its order.
pub record Entering (roll : List Line) (t : Totals) (l : Line) : Type 0 where
  pub not_sound : (Sound roll t → ⊥) → (entered roll t l).answer ≡ 20
  pub not_finite : Sound roll t → (Finite l → ⊥) → (entered roll t l).answer ≡ 21
  pub already_there : Sound roll t → Finite l → There l.lot (in_use roll t) → (entered roll t l).answer ≡ 22
  pub none_free : Sound roll t → Finite l → (There l.lot (in_use roll t) → ⊥) → t.lines ≡ length roll → (entered roll t l).answer ≡ 23
  pub accepted : Sound roll t → Finite l → (There l.lot (in_use roll t) → ⊥) → t.lines < length roll → (entered roll t l).answer ≡ 0

-- Striking.
pub record Striking (roll : List Line) (t : Totals) (lot : ℕ) : Type 0 where
  pub not_sound : (Sound roll t → ⊥) → (struck roll t lot).answer ≡ 20
  pub not_there : Sound roll t → (There lot (in_use roll t) → ⊥) → (struck roll t lot).answer ≡ 24
  pub accepted : Sound roll t → There lot (in_use roll t) → (struck roll t lot).answer ≡ 0

-- the lines in use afterwards
abbrev pub used_in : Changed → List Line
used_in c = in_use c.lines c.totals

-- the free lines after them
abbrev pub free_in : Changed → List Line
free_in c = drop c.totals.lines c.lines

-- an accepted entering
pub record Entered (roll : List Line) (t : Totals) (l : Line) (c : Changed) : Type 0 where
  -- the lines in use are those before, and the line
  pub lines : (x : Line) → Among x (used_in c) ↔ ((x ≡ l) ⊎ Among x (in_use roll t))
  -- the free ones stay, but for the first
  pub free : free_in c ≡ drop (t.lines + 1) roll
  pub kilograms : c.totals.kilograms ≡ t.kilograms + l.kilograms
  pub count : c.totals.lines ≡ t.lines + 1

-- an accepted striking
pub record Struck (roll : List Line) (t : Totals) (lot : ℕ) (c : Changed) : Type 0 where
  -- the lines in use are those before, but for the lot's
  pub lines : (x : Line) → Among x (used_in c) ↔ (Among x (in_use roll t) × (x.lot ≡ lot → ⊥))
  -- the line freed is zeroed, and the free ones stay
  pub free : free_in c ≡ zero_line ∷ drop t.lines roll
  pub count : c.totals.lines + 1 ≡ t.lines

pub record Claims : Type 0 where
  -- A roll and totals are sound exactly when it is not too long, and they are those of its first lines, in ascending lot order, finite.
  pub sound_exactly : (roll : List Line) (t : Totals) → (sound roll t ≡ true) ↔ Sound roll t
  -- The highest moisture is a line's own, no line's is higher, and among equal moistures its lot is the lowest; or none when empty.
  pub highest_exactly : (ls : List Line) (h : Line) → ordered ls ≡ true → all_finite ls ≡ true → (highest ls ≡ some h) ↔ Highest ls h
  pub highest_none : (ls : List Line) → (highest ls ≡ none) ↔ (ls ≡ [])
  -- Float comparison of finite readings is comparison of the ranks of their bits.
  pub ranks : (a b : ℕ) → finite (of_bits binary32 a) ≡ true → finite (of_bits binary32 b) ≡ true
      → lt (of_bits binary32 a) (of_bits binary32 b) ≡ ltb (rank a) (rank b)
  -- Each answer is given exactly when the request says: where several apply, the first in the call's order.
  pub entering : (roll : List Line) (t : Totals) (l : Line) → Entering roll t l
  pub striking : (roll : List Line) (t : Totals) (lot : ℕ) → Striking roll t lot
  -- Every refusal changes neither.
  pub silent : (roll : List Line) (t : Totals) (q : Ask) → ((changed roll t q).answer ≡ 0 → ⊥)
      → changed roll t q ≡ refused (changed roll t q).answer roll t
  -- What an accepted call leaves,
  pub entered_leaves : (roll : List Line) (t : Totals) (l : Line) → (entered roll t l).answer ≡ 0 → Entered roll t l (entered roll t l)
  pub struck_leaves : (roll : List Line) (t : Totals) (lot : ℕ) → (struck roll t lot).answer ≡ 0 → Struck roll t lot (struck roll t lot)
  -- on a roll of as many lines,
  pub as_long : (roll : List Line) (t : Totals) (q : Ask) → length (changed roll t q).lines ≡ length roll
  -- is a sound roll and its totals:
  pub stays_sound : (roll : List Line) (t : Totals) (q : Ask) → (changed roll t q).answer ≡ 0
      → sound (changed roll t q).lines (changed roll t q).totals ≡ true
  -- from an empty roll on, so a season is never stuck.
  pub season_sound : (qs : List Ask) (roll : List Line) → length roll ≤ 4096
      → sound (season qs (empty roll)).lines (season qs (empty roll)).totals ≡ true
  pub never_20 : (qs : List Ask) (roll : List Line) (q : Ask) → length roll ≤ 4096 → (next (season qs (empty roll)) q).answer ≡ 20 → ⊥
  -- A line entered again is answered 22.
  pub again : (roll : List Line) (t : Totals) (l : Line) → (entered roll t l).answer ≡ 0
      → (entered (entered roll t l).lines (entered roll t l).totals l).answer ≡ 22
  -- The readings of a declaration that judging answers 0 are finite.
  pub judged_finite : (sheet d : List ℕ) → judged sheet d ≡ 0 → Finite (line_of (declaration_at d 0))
  -- A line with finite readings is never answered 21.
  pub never_21 : (roll : List Line) (t : Totals) (l : Line) → Finite l → (entered roll t l).answer ≡ 21 → ⊥
  -- From an empty roll, kilograms equal the sum over lots entered less lots struck in accepted calls.
  pub kilograms : (qs : List Ask) (roll : List Line)
      → (season qs (empty roll)).totals.kilograms ≡ entered_in qs (empty roll) - struck_in qs (empty roll) no_notes
  pub struck_within : (qs : List Ask) (roll : List Line) → struck_in qs (empty roll) no_notes ≤ entered_in qs (empty roll)
  -- Cases, computed.
  pub cases : Cases
  -- The contracts settle their outcome: the answer, every line and the totals.
  pub settled : (c : Changed) (r r' : ℕ) (ls ls' : List Line) (t t' : Totals) → outcome r ls t ≡ c → outcome r' ls' t' ≡ c
      → (r ≡ r') × (ls ≡ ls') × (t ≡ t')
