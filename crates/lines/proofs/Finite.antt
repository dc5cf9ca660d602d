-- A line is finite where both readings are, by the bits without the sign.
use Rattle.std.proofs.Common.{◌≡◌, ◌%◌, ◌<◌, ◌≤◌, false, ltb, sym, ◌∙◌}
use borrow.Author.Tests.{lt-ltb, le-ltb}
use Rattle.sheet.proofs.Finite.{finite_bits}
use Rattle.roll.specs.declared.Line.{Line}
use Rattle.roll.specs.Roll.{finite_readings}

pub moisture_finite : (l : Line) → l.moisture % 0x8000_0000 < 0x7f80_0000
    → ltb (l.conductivity % 0x8000_0000) 0x7f80_0000 ≡ finite_readings l
unfolding finite_readings
moisture_finite l h =
    rw (finite_bits l.moisture ∙ lt-ltb (l.moisture % 0x8000_0000) 0x7f80_0000 h) (sym (finite_bits l.conductivity))

pub moisture_not_finite : (l : Line) → 0x7f80_0000 ≤ l.moisture % 0x8000_0000 → false ≡ finite_readings l
unfolding finite_readings
moisture_not_finite l h = rw (finite_bits l.moisture ∙ le-ltb (l.moisture % 0x8000_0000) 0x7f80_0000 h)
