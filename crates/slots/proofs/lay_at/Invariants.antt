-- The first i bytes are laid.
use Rattle.std.proofs.Common.{◌≡◌, length}
use Rattle.std.proofs.Math.Seq.{paste}
use Rattle.slots.proofs.lay_at.Given as goal

abbrev pub invariant-loop-i : goal.invariant-loop-i
invariant-loop-i l = (l.b ≡ paste l.fn.b l.at l.bytes l.i) × (length l.b ≡ length l.fn.b)
