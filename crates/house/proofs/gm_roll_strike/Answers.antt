-- Striking a lot is the change that is asked by it.
use Rattle.std.proofs.Common.{ap, ◌∙◌}
use Rattle.roll.specs.Roll.{outcome, changed}
use Rattle.house.proofs.gm_roll_strike.Goals as goal

pub returns : goal.returns
unfolding changed
returns c = ap (λ n. outcome n c.change.new.roll c.change.new.totals) c.answer_of.ensures ∙ c.change.ensures
