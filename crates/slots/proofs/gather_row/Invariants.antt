-- The first i slots are gathered.
use Rattle.std.proofs.Common.{◌≡◌, ◌&&◌}
use Rattle.meaning.specs.Legal.{row_ok}
use Rattle.slots.specs.Strays.{clear}
use Rattle.slots.proofs.gather_row.Given as goal

abbrev pub invariant-loop-i : goal.invariant-loop-i
invariant-loop-i l = clear l.strays ≡ clear l.fn.s && row_ok l.b l.at l.i
