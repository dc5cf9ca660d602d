-- Moving the lines and laying the line down is what the definition has.
use Rattle.std.proofs.Common.{List, ◌-◌, ap, ◌∙◌, set}
use Rattle.roll.specs.declared.Line.{Line}
use Rattle.sweep.proofs.Carrying.{carries_up, carries_down}
use Rattle.sweep.proofs.carry.Goals as goal

pub returns-in-Up : goal.returns-in-Up
returns-in-Up c =
    let plan = c.args.plan.now in
    ap (λ (ls : List Line). set ls plan.places.start plan.line) c.copy_within.ensures.after
    ∙ carries_up plan c.args.roll.now c.in-Up.is c.requires.0 c.requires.1

pub returns-in-Down : goal.returns-in-Down
returns-in-Down c =
    let plan = c.args.plan.now in
    ap (λ (ls : List Line). set ls (plan.places.end - 1) plan.line) c.copy_within-in-Down.ensures.after
    ∙ carries_down plan c.args.roll.now c.in-Down.is c.requires.0 c.requires.1
