-- When a gate and a sheet are legal: by the limits first and then by their order, and in plain conditions.
use mathlib.Core.Path.{◌≡◌, refl}
use mathlib.Core.Logic.{◌↔◌}
use mathlib.Core.Bool.{true, false, and-eq-true_iff}
use lib.Ieee.{Float, lt}
use borrow.Author.Tests.{not-true}
use Rattle.sheet.specs.declared.Gate.{Gate}
use Rattle.sheet.specs.declared.Gate.TheVariants.{Open, AtMost, Between}
use Rattle.sheet.specs.declared.Sheet.{Sheet}
use Rattle.sheet.specs.Sheet.{measurable, limits_measurable, ordered, gate_legal, sheet_legal, LegalGate}
use Rattle.sheet.proofs.Measurable.{measurable_exactly}

-- ---- the limits

pub high_measurable : (high : Float) → limits_measurable (AtMost high) ≡ true → measurable high ≡ true
unfolding limits_measurable
high_measurable high h = h

pub both_measurable : (low high : Float) → limits_measurable (Between low high) ≡ true → (measurable low ≡ true) × (measurable high ≡ true)
unfolding limits_measurable
both_measurable low high h = (and-eq-true_iff (measurable low) (measurable high)).0 h

-- ---- a gate: first its limits, and then their order

pub legal_limits : (g : Gate) → gate_legal g ≡ true → (limits_measurable g ≡ true) × (ordered g ≡ true)
unfolding gate_legal
legal_limits g h = (and-eq-true_iff (limits_measurable g) (ordered g)).0 h

pub limits_then_order : (g : Gate) → limits_measurable g ≡ true → gate_legal g ≡ ordered g
unfolding gate_legal
limits_then_order g h = rw h

pub not_legal : (g : Gate) → limits_measurable g ≡ false → gate_legal g ≡ false
unfolding gate_legal
not_legal g h = rw h

-- ---- in plain conditions

gate_to : (g : Gate) → gate_legal g ≡ true → LegalGate g
unfolding ordered
gate_to Open h = tt
gate_to (AtMost high) h = (measurable_exactly high).0 (high_measurable high (legal_limits (AtMost high) h).0)
gate_to (Between low high) h =
    let l = legal_limits (Between low high) h in
    let b = both_measurable low high l.0 in
    ((measurable_exactly low).0 b.0, (measurable_exactly high).0 b.1, not-true (lt high low) l.1)

gate_from : (g : Gate) → LegalGate g → gate_legal g ≡ true
unfolding gate_legal limits_measurable ordered
gate_from Open p = refl
gate_from (AtMost high) p = rw ((measurable_exactly high).1 p)
gate_from (Between low high) p = rw ((measurable_exactly low).1 p.0, (measurable_exactly high).1 p.1, p.2)

gates_legal : (s : Sheet) → sheet_legal s ≡ true → (gate_legal s.moisture ≡ true) × (gate_legal s.conductivity ≡ true)
unfolding sheet_legal
gates_legal s h = (and-eq-true_iff (gate_legal s.moisture) (gate_legal s.conductivity)).0 h

-- a legal sheet's limits
pub gates_limits : (s : Sheet) → sheet_legal s ≡ true
    → (limits_measurable s.moisture ≡ true) × (limits_measurable s.conductivity ≡ true)
gates_limits s h =
    let g = gates_legal s h in
    ((legal_limits s.moisture g.0).0, (legal_limits s.conductivity g.1).0)

pub sheet_legal_exactly : (s : Sheet) → (sheet_legal s ≡ true) ↔ (LegalGate s.moisture × LegalGate s.conductivity)
unfolding sheet_legal
sheet_legal_exactly s = (
  λ h. let g = gates_legal s h in (gate_to s.moisture g.0, gate_to s.conductivity g.1),
  λ p. rw (gate_from s.moisture p.0, gate_from s.conductivity p.1),
)
