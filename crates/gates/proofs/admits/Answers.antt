-- A legal sheet's limits are not NaN, infinite or below zero.
use Rattle.sheet.proofs.Limits.{gates_limits}
use Rattle.gates.proofs.admits.Goals as goal

pub is_within-requires-then-is_within : goal.is_within-requires-then-is_within
is_within-requires-then-is_within c = ((gates_limits c.args.sheet c.requires.0).1, c.requires.2)
