-- The presence byte is stored, and then the 20 bytes after it.
use Rattle.std.proofs.Common.{rules, ◌∙◌, arith, length-set}
use Rattle.slots.proofs.Slots.{put_done}
use Rattle.slots.proofs.put_slot.Goals as goal

pub returns : goal.returns
returns c = c.lay_at.ensures ∙ put_done _ _ _ (search rules) (search rules)
