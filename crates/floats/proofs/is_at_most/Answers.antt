-- Float comparison is that of the bits without the sign.
use Rattle.std.proofs.Common.{sym, subst}
use lib.Dec.{T}
use Rattle.floats.proofs.Measurable.{le_bits}
use Rattle.sheet.proofs.Measurable.{no_nan}
use Rattle.floats.proofs.is_at_most.Goals as goal

pub float_to_bits-result : goal.float_to_bits-result
float_to_bits-result c = no_nan _ c.requires.0

pub float_to_bits-result-2 : goal.float_to_bits-result-2
float_to_bits-result-2 c = no_nan _ c.requires.1

-- that the format holds both is what owning an `f32` tells
pub returns : goal.returns
returns c =
    sym
    (le_bits c.args.x c.args.y (subst T (sym c.well_formed.0.1) tt) (subst T (sym c.well_formed.1.0.1) tt) c.requires.0 c.requires.1)
