-- What this crate promises: when a declaration is plausible and a sheet legal, and that a sheet has one byte form.
use Rattle.std.specs.Prelude.{◌↔◌, ◌⊎◌, ℕ, ◌≤◌, ◌≡◌, Bool, true, false, ◌&&◌, List, ltb, ℤ}
use Rattle.std.specs.Float.{fin, binary32}
use Rattle.std.specs.Float.Ieee.{of_bits}
use Rattle.words.specs.Words.{Bytes}
use Rattle.sheet.specs.declared.Gate.{Gate}
use Rattle.sheet.specs.declared.Sheet.{Sheet}
use Rattle.lot.specs.declared.Declaration.{Declaration}
use Rattle.lot.specs.Declaration.{bytes_of, declaration_at}
use Rattle.sheet.specs.Sheet.{GateFits, plus_zero, minus_zero, below_zero, Measurable, sheet_legal, LegalGate, judged_by}
use Rattle.sheet.specs.Sheet.{readings_of, passes, admitted, plausible, Plausible}
use Rattle.sheet.specs.Kept.{sheet_bytes, sheet_at, is_sheet, judged}

pub record Claims : Type 0 where
  -- A declaration is plausible exactly when document 01's conditions hold.
  pub exactly : (sheet : Sheet) (d : Declaration) → (plausible sheet d ≡ true) ↔ Plausible sheet d
  -- So a declaration with no colonies isn't plausible, whatever its weight;
  pub no_colonies : (sheet : Sheet) (d : Declaration) → d.colonies ≡ 0 → plausible sheet d ≡ false
  -- and no kilograms is, of one colony or more, where the readings are admitted.
  pub no_kilograms : (sheet : Sheet) (d : Declaration) → 1 ≤ d.colonies → d.kilograms ≡ 0 → admitted sheet (readings_of d) ≡ true
      → plausible sheet d ≡ true
  -- A number is below zero exactly when it has a minus sign and isn't zero.
  pub below_zero_exactly : (sign : Bool) (m : ℕ) (e : ℤ) → below_zero (fin sign m e) ≡ (sign && ltb 0 m)
  -- A declaration with a reading below zero isn't plausible, even at an open gate and inside a gate;
  pub below_zero_lem : (sheet : Sheet) (d : Declaration)
      → (below_zero (of_bits binary32 d.moisture) ≡ true) ⊎ (below_zero (of_bits binary32 d.conductivity) ≡ true)
      → plausible sheet d ≡ false
  -- and minus zero passes wherever zero does.
  pub minus_zero_lem : (g : Gate) → passes g minus_zero ≡ passes g plus_zero
  -- A sheet is legal exactly when no limit is NaN, infinite or below zero and no low exceeds its high;
  pub sheet_legal_exactly : (sheet : Sheet) → (sheet_legal sheet ≡ true) ↔ (LegalGate sheet.moisture × LegalGate sheet.conductivity)
  -- a limit of minus zero is none of these.
  pub minus_zero_limit : Measurable minus_zero
  -- Sheet limits are kept as their bits: the bytes of a sheet read as that sheet,
  pub sheet_of_bytes : (sheet : Sheet) → GateFits sheet.moisture → GateFits sheet.conductivity → sheet_at (sheet_bytes sheet) 0 ≡ sheet
  -- they are a legal sheet's exactly when it is legal,
  pub legal_bytes : (sheet : Sheet) → GateFits sheet.moisture → GateFits sheet.conductivity
      → is_sheet (sheet_bytes sheet) ≡ sheet_legal sheet
  -- and judging at the bytes is judging by that sheet.
  pub judged_bytes : (sheet : Sheet) → GateFits sheet.moisture → GateFits sheet.conductivity → (d : Declaration)
      → judged (sheet_bytes sheet) (bytes_of d) ≡ judged_by sheet d
  -- At any bytes it answers 0 exactly when they are a legal sheet's and these conditions hold of what they read as.
  pub judged_exactly : (sheet declaration : List ℕ)
      → (judged sheet declaration ≡ 0) ↔ ((is_sheet sheet ≡ true) × Plausible (sheet_at sheet 0) (declaration_at declaration 0))
  -- Bytes that are a legal sheet's are the bytes of the sheet that they read as,
  pub bytes_of_sheet : (b : List ℕ) → Bytes b → is_sheet b ≡ true → sheet_bytes (sheet_at b 0) ≡ b
  -- so a sheet has one byte form.
  pub one_form : (b c : List ℕ) → Bytes b → Bytes c → is_sheet b ≡ true → is_sheet c ≡ true → sheet_at b 0 ≡ sheet_at c 0 → b ≡ c
