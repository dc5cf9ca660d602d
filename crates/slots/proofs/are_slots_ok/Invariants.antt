-- The first 8 i slots are gathered.
use Rattle.std.proofs.Common.{◌≡◌, ◌*◌}
use Rattle.meaning.specs.Legal.{row_ok}
use Rattle.slots.specs.Strays.{clear}
use Rattle.slots.proofs.are_slots_ok.Given as goal

abbrev pub invariant-loop-i : goal.invariant-loop-i
invariant-loop-i l = clear l.strays ≡ row_ok l.b l.at (8 * l.i)
