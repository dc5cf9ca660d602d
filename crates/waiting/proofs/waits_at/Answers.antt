-- The slots of the SEND and of the delivery lie within the book.
use Rattle.std.proofs.Common.{arith}
use Rattle.layout.proofs.Begins.{lies, send_room, delivered_room}
use Rattle.waiting.proofs.waits_at.Goals as goal

pub is_full-requires : goal.is_full-requires
is_full-requires c =
    let e = c.entry_at-entry.ensures in
    omega (arith, send_room _ _ (lies _ _ e.n e.begins.within), c.send.ensures)

pub is_full-requires-then-is_full : goal.is_full-requires-then-is_full
is_full-requires-then-is_full c =
    let e = c.entry_at-entry.ensures in
    let room = delivered_room _ _ (lies _ _ e.n e.begins.within) in
    omega arith
