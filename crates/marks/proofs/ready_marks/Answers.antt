-- The marks that the code finds are those that the READYs of d now make.
use Rattle.std.proofs.Common.{refl, ap, ◌∙◌, arith}
use Rattle.layout.proofs.Begins.{ready_sent_room, delivered_room, readies_room}
use Rattle.marks.specs.Marks.{ready_marks}
use Rattle.marks.proofs.Marking.{ready_found}
use Rattle.marks.proofs.ready_marks.Goals as goal

pub tally-votes-requires : goal.tally-votes-requires
tally-votes-requires c =
    let l = c.in_book-entry.ensures.0 in (l, omega (arith, readies_room _ _ l, c.ready.ensures))

pub is_reached-requires : goal.is_reached-requires
is_reached-requires c = omega (arith, ready_sent_room _ _ c.in_book-entry.ensures.0, c.ready_sent.ensures)

pub is_reached-requires-2 : goal.is_reached-requires-2
is_reached-requires-2 c = omega (arith, delivered_room _ _ c.in_book-entry.ensures.0, c.delivered.ensures)

pub returns : goal.returns
returns c =
    let a = c.args in
    let e = c.in_book-entry in
    ready_found a.book.now e.result.base a.d _ _ _ e.ensures.0.n refl c.tally-votes.ensures.0 _ c.ready.ensures _
    c.tally-votes.ensures.1 _ c.ready_sent.ensures _ c.delivered.ensures _ c.is_reached.ensures _ c.is_reached-2.ensures
    ∙ ap (λ base. ready_marks a.book.now base a.d) e.ensures.1
