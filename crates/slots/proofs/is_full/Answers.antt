-- The slot holds something exactly when its presence byte is 1.
use Rattle.slots.proofs.Slots.{full_is}
use Rattle.slots.proofs.is_full.Goals as goal

pub returns : goal.returns
returns c = full_is _ _
