-- The entry of a legal book begins where its first slot stands.
use Rattle.std.proofs.Common.{arith}
use Rattle.meaning.proofs.Room.{head_room}
use Rattle.layout.proofs.Begins.{opens}
use Rattle.layout.proofs.entry_at.Goals as goal

pub shape_of-requires : goal.shape_of-requires
shape_of-requires c = let h = head_room _ c.requires.head in omega arith

pub returns : goal.returns
returns c =
    opens _ _ _ _ _ _ c.requires c.shape_of.ensures.0 c.shape_of.ensures.1 c.entry.ensures.1 c.entry.ensures.0 (omega arith)
