-- Of limits that are not NaN, infinite or below zero, that no low exceeds its high is that low is at most high.
use mathlib.Core.Path.{◌≡◌}
use mathlib.Core.Bool.{true}
use lib.Ieee.{Float, le}
use Rattle.sheet.specs.declared.Gate.TheVariants.{Between}
use Rattle.sheet.specs.Sheet.{measurable, ordered}
use Rattle.sheet.proofs.Measurable.{measurable_exactly}
use Rattle.sheet.proofs.Order.{le_is}
use Rattle.sheet.proofs.Limits.{both_measurable}

pub low_at_most : (low high : Float) → measurable low ≡ true → measurable high ≡ true → le low high ≡ ordered (Between low high)
unfolding ordered
low_at_most low high l h = le_is low high ((measurable_exactly low).0 l).is_finite ((measurable_exactly high).0 h).is_finite

-- what the two functions on gates need of limits, under one name
pub ruleset limits = (both_measurable, low_at_most)
