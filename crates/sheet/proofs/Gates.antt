-- When a kept gate is the one form of a legal gate, test by test; then the gate is legal, and so is the sheet; a sheet's bytes are 22.
use Prim.Native.Nat.{ℕ, ◌+◌}
use mathlib.Core.Path.{◌≡◌, ◌∙◌}
use mathlib.Core.Bool.{true, false, and-eq-true_iff}
use mathlib.Core.List.{List}
use lib.Dec.{eqb}
use lib.ListN.{length}
use borrow.Author.Tests.{eqb-true}
use Rattle.sheet.specs.Sheet.{limits_measurable, ordered, gate_legal, sheet_legal}
use Rattle.sheet.specs.declared.Kept.{Kept}
use Rattle.sheet.specs.Kept.{sheet_length, gate_of, kept_form, kept_legal, kept_at, sheet_at, sheet_legal_at, is_sheet}
use Rattle.sheet.proofs.Limits.{not_legal, limits_then_order}

-- ---- a kept gate: first its form, then its limits, and then their order

pub no_form : (k : Kept) → kept_form k ≡ false → kept_legal k ≡ false
unfolding kept_legal
no_form k f = rw f

gate_decides : (k : Kept) → kept_form k ≡ true → kept_legal k ≡ gate_legal (gate_of k)
unfolding kept_legal
gate_decides k f = rw f

pub bad_limits : (k : Kept) → kept_form k ≡ true → limits_measurable (gate_of k) ≡ false → kept_legal k ≡ false
bad_limits k f l = gate_decides k f ∙ not_legal (gate_of k) l

pub order_decides : (k : Kept) → kept_form k ≡ true → limits_measurable (gate_of k) ≡ true → kept_legal k ≡ ordered (gate_of k)
order_decides k f l = gate_decides k f ∙ limits_then_order (gate_of k) l

-- ---- and what is legal

pub legal_gate : (k : Kept) → kept_legal k ≡ true → gate_legal (gate_of k) ≡ true
unfolding kept_legal
legal_gate k h = ((and-eq-true_iff (kept_form k) (gate_legal (gate_of k))).0 h).1

pub legal_sheet : (b : List ℕ) (i : ℕ) → sheet_legal_at b i ≡ true → sheet_legal (sheet_at b i) ≡ true
unfolding sheet_legal_at sheet_legal sheet_at
legal_sheet b i h =
    let g = (and-eq-true_iff (kept_legal (kept_at b (i + 4))) (kept_legal (kept_at b (i + 13)))).0 h in
    rw (legal_gate (kept_at b (i + 4)) g.0, legal_gate (kept_at b (i + 13)) g.1)

module _ (s : List ℕ) (h : is_sheet s ≡ true) where
  pub sheet_sized : length s ≡ sheet_length
  unfolding is_sheet
  sheet_sized = eqb-true (length s) sheet_length ((and-eq-true_iff (eqb (length s) sheet_length) (sheet_legal_at s 0)).0 h).0

  pub sheet_legal_lem : sheet_legal (sheet_at s 0) ≡ true
  unfolding is_sheet
  sheet_legal_lem = legal_sheet s 0 ((and-eq-true_iff (eqb (length s) sheet_length) (sheet_legal_at s 0)).0 h).1
