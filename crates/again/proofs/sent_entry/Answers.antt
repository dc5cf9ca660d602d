-- What was sent on an entry: the SEND that was published, the ECHO of the SEND recorded, the READY marked; each in its slot.
use Rattle.std.proofs.Common.{ℕ, ap, refl, arith}
use Rattle.message.specs.Message.{number_of}
use Rattle.meaning.specs.Layout.{slot_place, published_slot}
use Rattle.meaning.proofs.Room.{head_room, published_room}
use Rattle.layout.proofs.Begins.{lies, send_room, ready_sent_room}
use Rattle.calls.specs.Again.{sending}
use Rattle.again.proofs.Sent.{sent_send, sent_other, sent_echo, sent_ready}
use Rattle.again.proofs.sent_entry.Goals as goal

pub returns-then-sender-own_of : goal.returns-then-sender-own_of
returns-then-sender-own_of c =
    let a = c.args in
    sent_other a.book.now _ a.sender a.number c.requires _ (ap number_of c.in-Send.is) _ c.own_of.ensures c.if-sender-own_of.true refl

pub sent_in-requires : goal.sent_in-requires
sent_in-requires c =
    let a = c.args in
    let h = head_room _ c.requires.head in
    let room = published_room a.book.now a.number c.requires.head c.requires.number in (
      omega (arith, c.published-at.ensures, ap (λ (x : ℕ). slot_place x (published_slot a.number)) c.shape_of.ensures.0),
      omega arith,
    )

pub returns-else-sender-own_of : goal.returns-else-sender-own_of
returns-else-sender-own_of c =
    let a = c.args in
    sent_send a.book.now _ a.sender a.number c.requires _ (ap number_of c.in-Send.is) _ _ _ c.own_of.ensures c.if-sender-own_of.false
    c.shape_of.ensures.0 c.published-at.ensures (ap (sending 0) c.sent_in.ensures)

pub sent_in-requires-in-Echo : goal.sent_in-requires-in-Echo
sent_in-requires-in-Echo c =
    let h = head_room _ c.requires.head in
    let e = c.entry_at-entry.ensures in (
      omega (arith, send_room _ _ (lies _ _ e.n e.begins.within), c.send.ensures),
      omega arith,
    )

pub returns-in-Echo : goal.returns-in-Echo
returns-in-Echo c =
    let a = c.args in
    sent_echo a.book.now _ a.sender a.number c.requires _ _ c.entry_at-entry.ensures.begins (ap number_of c.in-Echo.is) _ c.send.ensures
    (ap (sending 0) c.sent_in-in-Echo.ensures)

pub sent_in-requires-in-Ready : goal.sent_in-requires-in-Ready
sent_in-requires-in-Ready c =
    let h = head_room _ c.requires.head in
    let e = c.entry_at-entry.ensures in (
      omega (arith, ready_sent_room _ _ (lies _ _ e.n e.begins.within), c.ready_sent.ensures),
      omega arith,
    )

pub returns-in-Ready : goal.returns-in-Ready
returns-in-Ready c =
    let a = c.args in
    sent_ready a.book.now _ a.sender a.number c.requires _ _ c.entry_at-entry.ensures.begins (ap number_of c.in-Ready.is) _ _
    c.entry_at-entry.ensures.n c.ready_sent.ensures (ap (sending 0) c.sent_in-in-Ready.ensures)
