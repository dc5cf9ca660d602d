-- The rank worked out is that of the bits.
use Rattle.std.proofs.Common.{arith}
use Rattle.std.proofs.lemmas.Bool.Decides.{nat_tests}
use Rattle.roll.specs.Rank.{rank}
use Rattle.lines.proofs.rank_of.Goals as goal

pub returns-then-bits-lt2147483648 : goal.returns-then-bits-lt2147483648
unfolding rank
returns-then-bits-lt2147483648 c = grind (arith, nat_tests)

pub returns-else-bits-lt2147483648 : goal.returns-else-bits-lt2147483648
unfolding rank
returns-else-bits-lt2147483648 c = grind (arith, nat_tests)
