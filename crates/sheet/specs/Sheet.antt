-- The season's sheet: its gates, when it is legal, which declaration is plausible by it, and what judging answers.
use Rattle.std.specs.Prelude.{ℕ, ◌*◌, ◌≤◌, ◌≡◌, Bool, true, false, cond, not, ◌&&◌, T, leb, Float}
use Rattle.std.specs.Float.{nan, inf, fin, binary32}
use Rattle.std.specs.Float.Ieee.{fits, of_bits, le, lt}
use Rattle.sheet.specs.declared.Gate.{Gate}
use Rattle.sheet.specs.declared.Gate.TheVariants.{Open, AtMost, Between}
use Rattle.sheet.specs.declared.Sheet.{Sheet}
use Rattle.sheet.specs.declared.Readings.{Readings}
use Rattle.lot.specs.declared.Declaration.{Declaration}

-- neither NaN nor infinite
unfoldable pub finite : Float → Bool
finite nan = false
finite (inf sign) = false
finite (fin sign m e) = true

-- zero and minus zero, by their bits
abbrev pub plus_zero : Float
plus_zero = of_bits binary32 0

abbrev pub minus_zero : Float
minus_zero = of_bits binary32 0x8000_0000

-- compares below zero, which minus zero does not
abbrev pub below_zero : Float → Bool
below_zero x = lt x plus_zero

-- what a reading or a limit may be: not NaN, infinite or below zero
unfoldable pub measurable : Float → Bool
unfolding finite lt of_bits
measurable x = finite x && not (below_zero x)

-- open, at most a limit, or between a low and a high limit; limits count as inside
unfoldable pub within : Gate → Float → Bool
unfolding le
within Open x = true
within (AtMost high) x = le x high
within (Between low high) x = le low x && le x high

-- no limit is NaN, infinite or below zero
unfoldable pub limits_measurable : Gate → Bool
unfolding measurable
limits_measurable Open = true
limits_measurable (AtMost high) = measurable high
limits_measurable (Between low high) = measurable low && measurable high

-- no low exceeds its high
unfoldable pub ordered : Gate → Bool
unfolding lt
ordered Open = true
ordered (AtMost high) = true
ordered (Between low high) = not (lt high low)

unfoldable pub gate_legal : Gate → Bool
unfolding limits_measurable ordered
gate_legal g = limits_measurable g && ordered g

unfoldable pub sheet_legal : Sheet → Bool
unfolding gate_legal
sheet_legal sheet = gate_legal sheet.moisture && gate_legal sheet.conductivity

-- each limit is a value of binary32, as every `f32` is
abbrev pub GateFits : Gate → Type 0
GateFits Open = Unit
GateFits (AtMost high) = T (fits binary32 high)
GateFits (Between low high) = T (fits binary32 low) × T (fits binary32 high)

-- the two laboratory readings travel together as one record of floats
abbrev pub readings_of : Declaration → Readings
readings_of d = record { moisture = of_bits binary32 d.moisture; conductivity = of_bits binary32 d.conductivity }

-- a reading is not NaN, infinite or below zero, and within its gate by float comparison
unfoldable pub passes : Gate → Float → Bool
unfolding measurable within
passes g x = measurable x && within g x

unfoldable pub admitted : Sheet → Readings → Bool
unfolding passes
admitted sheet r = passes sheet.moisture r.moisture && passes sheet.conductivity r.conductivity

-- it has at least one colony, kilograms is at most colonies times cap (the exact product), and both readings pass
unfoldable pub plausible : Sheet → Declaration → Bool
unfolding admitted
plausible sheet d = leb 1 d.colonies && (leb d.kilograms (d.colonies * sheet.cap) && admitted sheet (readings_of d))

-- judging takes a sheet and a declaration and answers 10, then 5, else 0
unfoldable pub judged_by : Sheet → Declaration → ℕ
unfolding sheet_legal plausible
judged_by sheet d = cond (sheet_legal sheet) (cond (plausible sheet d) 0 5) 10

-- ---- the same in plain conditions (proofs/Exactly.antt)

pub record Measurable (x : Float) : Type 0 where
  -- neither NaN nor infinite
  pub is_finite : finite x ≡ true
  -- nor below zero
  pub not_below : below_zero x ≡ false

-- a sheet is legal exactly when both its gates are
abbrev pub LegalGate : Gate → Type 0
LegalGate Open = Unit
LegalGate (AtMost high) = Measurable high
LegalGate (Between low high) = Measurable low × Measurable high × (lt high low ≡ false)

-- a declaration is plausible exactly when all of these hold
pub record Plausible (sheet : Sheet) (d : Declaration) : Type 0 where
  -- it has at least one colony
  pub colony : 1 ≤ d.colonies
  -- kilograms is at most colonies times cap
  pub weight : d.kilograms ≤ d.colonies * sheet.cap
  -- neither reading is NaN, infinite or below zero
  pub moisture_measurable : Measurable (of_bits binary32 d.moisture)
  pub conductivity_measurable : Measurable (of_bits binary32 d.conductivity)
  -- each reading is within its gate
  pub moisture_within : within sheet.moisture (of_bits binary32 d.moisture) ≡ true
  pub conductivity_within : within sheet.conductivity (of_bits binary32 d.conductivity) ≡ true
