-- Bits that are not above those of infinity are no NaN's.
use Rattle.std.proofs.Common.{arith}
use Rattle.floats.proofs.Nan.{no_nan_bits}
use Rattle.floats.proofs.float_of.Goals as goal

pub float_from_bits-result : goal.float_from_bits-result
float_from_bits-result c = no_nan_bits c.args.bits (omega arith)
