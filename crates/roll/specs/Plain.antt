-- What the definitions of a roll say, in plain words: which lines stand there, when a roll is sound, and which moisture is the highest.
use Rattle.std.specs.Prelude.{ℕ, ◌<◌, ◌≤◌, ◌≡◌, ◌⊎◌, true, false, List, [], ◌∷◌, length, get_or}
use Rattle.std.specs.Float.{binary32}
use Rattle.std.specs.Float.Ieee.{of_bits, lt, eq}
use Rattle.sheet.specs.Sheet.{finite}
use Rattle.roll.specs.declared.Line.{Line}
use Rattle.roll.specs.declared.Totals.{Totals}
use Rattle.roll.specs.Roll.{moisture_of, zero_line, totals_of, in_use}

-- a line is among some lines
abbrev pub Among : Line → List Line → Type 0
Among x [] = ⊥
Among x (l ∷ ls) = (x ≡ l) ⊎ Among x ls

-- the lot at a place
abbrev pub lot_at : List Line → ℕ → ℕ
lot_at ls i = (get_or ls i zero_line).lot

-- neither reading of a line is NaN or infinite
pub record Finite (l : Line) : Type 0 where
  pub moisture : finite (moisture_of l) ≡ true
  pub conductivity : finite (of_bits binary32 l.conductivity) ≡ true

-- the lot is there: a line has it
pub record There (lot : ℕ) (ls : List Line) : Type 0 where
  pub line : Line
  pub among : Among line ls
  pub its_lot : line.lot ≡ lot

-- a roll not too long, and totals that are those of the first lines of an ordered roll of finite readings
pub record Sound (roll : List Line) (t : Totals) : Type 0 where
  pub not_too_long : length roll ≤ 4096
  pub ascending : (i j : ℕ) → i < j → j < length (in_use roll t) → lot_at (in_use roll t) i < lot_at (in_use roll t) j
  pub all_finite_lem : (l : Line) → Among l (in_use roll t) → Finite l
  pub totals_are : t ≡ totals_of (in_use roll t)

-- one of the lines, none of them higher by float comparison, and among equal moistures the lowest lot
pub record Highest (ls : List Line) (h : Line) : Type 0 where
  pub one_of : Among h ls
  pub none_higher : (l : Line) → Among l ls → lt (moisture_of h) (moisture_of l) ≡ false
  pub lowest_lot : (l : Line) → Among l ls → eq (moisture_of h) (moisture_of l) ≡ true → h.lot ≤ l.lot
