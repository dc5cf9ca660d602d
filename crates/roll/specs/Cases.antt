-- Cases of the roll, each computed: rolls of two and three lines, in kilograms and moistures.
use Rattle.std.specs.Prelude.{ℕ, ◌≡◌, List, [], ◌∷◌}
use Rattle.roll.specs.declared.Line.{Line}
use Rattle.roll.specs.declared.Totals.{Totals}
use Rattle.roll.specs.Roll.{no_totals, zero_line, outcome, refused, entered, struck}

-- 17.5 and 18.0, minus zero and a NaN, as their bits
abbrev low : ℕ
low = 0x418c0000

abbrev high : ℕ
high = 0x41900000

abbrev minus_zero : ℕ
minus_zero = 0x80000000

abbrev a_nan : ℕ
a_nan = 0x7fc00000

-- a lot, its kilograms and its moisture
abbrev lot : ℕ → ℕ → ℕ → Line
lot n kg m = record { lot = n; colonies = 40; kilograms = kg; moisture = m; conductivity = 0x3f000000 }

abbrev of : ℕ → ℕ → ℕ → Totals
of kg n m = record { kilograms = kg; lines = n; moisture = m; measured = 1 }

-- a free line that holds anything
abbrev rubbish : Line
rubbish = lot 1 7 a_nan

-- lots 5 and 9, and one line free
abbrev five : Line
five = lot 5 800 low

abbrev nine : Line
nine = lot 9 80 high

abbrev roll : List Line
roll = five ∷ nine ∷ rubbish ∷ []

abbrev totals : Totals
totals = of 880 2 high

pub record Cases : Type 0 where
  -- the first lot, on an empty roll
  pub first : entered (rubbish ∷ rubbish ∷ []) no_totals five ≡ outcome 0 (five ∷ rubbish ∷ []) (of 800 1 low)
  -- a lot before, between and after; the free line goes
  pub before : entered roll totals (lot 3 9 low) ≡ outcome 0 (lot 3 9 low ∷ five ∷ nine ∷ []) (of 889 3 high)
  pub between : entered roll totals (lot 7 9 low) ≡ outcome 0 (five ∷ lot 7 9 low ∷ nine ∷ []) (of 889 3 high)
  pub after : entered roll totals (lot 80 9 low) ≡ outcome 0 (five ∷ nine ∷ lot 80 9 low ∷ []) (of 889 3 high)
  -- among equal moistures the lowest lot's bits stand: minus zero of lot 3 before zero of lot 5, and that before minus zero of lot 9
  pub lower_zero : entered (lot 5 1 0 ∷ rubbish ∷ []) (of 1 1 0) (lot 3 1 minus_zero)
      ≡ outcome 0 (lot 3 1 minus_zero ∷ lot 5 1 0 ∷ []) (of 2 2 minus_zero)
  pub upper_zero : entered (lot 5 1 0 ∷ rubbish ∷ []) (of 1 1 0) (lot 9 1 minus_zero)
      ≡ outcome 0 (lot 5 1 0 ∷ lot 9 1 minus_zero ∷ []) (of 2 2 0)
  -- refused: a kilogram off, zero's other bits, measured 0, a line too few, not in order, a NaN in use
  pub kilogram_off : entered roll (of 881 2 high) (lot 7 9 low) ≡ refused 20 roll (of 881 2 high)
  pub other_zero : struck (lot 5 1 0 ∷ []) (of 1 1 minus_zero) 5 ≡ refused 20 (lot 5 1 0 ∷ []) (of 1 1 minus_zero)
  pub line_short : struck roll (of 800 1 high) 5 ≡ refused 20 roll (of 800 1 high)
  pub unordered : struck (nine ∷ five ∷ []) totals 5 ≡ refused 20 (nine ∷ five ∷ []) totals
  pub nan_in_use : struck (rubbish ∷ []) (of 7 1 a_nan) 1 ≡ refused 20 (rubbish ∷ []) (of 7 1 a_nan)
  -- a reading not finite, and with a lot that is there too; a lot already there, and on a full roll too; no line free
  pub not_finite : entered roll totals (lot 7 9 a_nan) ≡ refused 21 roll totals
  pub reading_first : entered roll totals (lot 5 9 a_nan) ≡ refused 21 roll totals
  pub already_there : entered roll totals (lot 5 9 low) ≡ refused 22 roll totals
  pub lot_first : entered (five ∷ nine ∷ []) totals (lot 9 9 low) ≡ refused 22 (five ∷ nine ∷ []) totals
  pub none_free : entered (five ∷ nine ∷ []) totals (lot 7 9 low) ≡ refused 23 (five ∷ nine ∷ []) totals
  -- struck: the first, and the highest; the only one; one that is not there
  pub first_struck : struck roll totals 5 ≡ outcome 0 (nine ∷ zero_line ∷ rubbish ∷ []) (of 80 1 high)
  pub highest_struck : struck roll totals 9 ≡ outcome 0 (five ∷ zero_line ∷ rubbish ∷ []) (of 800 1 low)
  pub only_struck : struck (five ∷ rubbish ∷ []) (of 800 1 low) 5 ≡ outcome 0 (zero_line ∷ rubbish ∷ []) no_totals
  pub not_there : struck roll totals 1 ≡ refused 24 roll totals
