-- One slot more is gathered; at the end all k are.
use Rattle.std.proofs.Common.{◌≡◌, arith}
use Rattle.slots.proofs.Rows.{row_none, row_next}
use Rattle.slots.proofs.gather_row.Goals as goal

pub loop-i-init : goal.loop-i-init
loop-i-init c = row_none _ _ _

pub loop-i-preserved : goal.loop-i-preserved
loop-i-preserved c = row_next _ _ _ _ _ c.loop-i.i c.loop-i.invariant c.gather-strays.ensures
