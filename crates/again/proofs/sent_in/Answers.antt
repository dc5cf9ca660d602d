-- A full slot is sent with its declaration.
use Rattle.again.proofs.Sent.{sent_full}
use Rattle.message.specs.Message.{number_of}
use Rattle.again.proofs.sent_in.Goals as goal

pub returns : goal.returns
returns c =
    let a = c.args in
    sent_full a.book.now a.at (number_of a.kind) a.sender a.number c.requires.0 _ c.is_full.ensures c.if-not-is_full.false _
    c.declaration_at.ensures _ c.bytes_of-d.ensures _ c.season_of-season.ensures _ c.number_of.ensures _ c.lay_message.ensures
