-- What is gathered of slots on the scan for their one byte form.
use Rattle.std.specs.Prelude.{Bool, ◌&&◌, eqb}
use Rattle.slots.specs.declared.Strays.{Strays}

-- no byte stood where an empty slot has zero
unfoldable pub clear : Strays → Bool
clear s = eqb s.first 0 && (eqb s.middle 0 && eqb s.last 0)
