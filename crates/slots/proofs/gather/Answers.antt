-- What is gathered with a slot that is not full stays clear exactly when its three numbers are zero, which is its one form.
use Rattle.std.proofs.Common.{arith}
use Rattle.slots.proofs.Gathered.{empty_gathered}
use Rattle.slots.proofs.gather.Goals as goal

pub returns : goal.returns
returns c =
    empty_gathered _ _ _ c.requires (λ i. (c.type_inv.b i).fits) (λ e. omega arith) _ _ _ c.eight_at.ensures c.eight_at-2.ensures
    c.eight_at-3.ensures
