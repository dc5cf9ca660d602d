-- So many of the first p slots have the three numbers.
use Rattle.std.proofs.Common.{◌≡◌, ◌≤◌}
use Rattle.vouchers.proofs.Counting.{so_many}
use Rattle.vouchers.proofs.count_same.Given as goal

abbrev pub invariant-loop-p : goal.invariant-loop-p
invariant-loop-p l = (l.p ≤ l.n) × ((l.found ≡ so_many l.b l.at l.first l.second l.third l.p) × (l.found ≤ l.p))
