-- The mark that the code finds is the one that the ECHOes of d now make.
use Rattle.std.proofs.Common.{refl, ap, ◌∙◌, arith}
use Rattle.layout.proofs.Begins.{ready_sent_room, echoes_room}
use Rattle.marks.specs.Marks.{echo_mark}
use Rattle.marks.proofs.Marking.{echo_found}
use Rattle.marks.proofs.echo_mark.Goals as goal

pub tally-votes-requires : goal.tally-votes-requires
tally-votes-requires c =
    let l = c.in_book-here.ensures.0 in (l, omega (arith, echoes_room _ _ l, c.echo.ensures))

pub is_reached-requires : goal.is_reached-requires
is_reached-requires c = omega (arith, ready_sent_room _ _ c.in_book-here.ensures.0, c.ready_sent.ensures)

pub returns : goal.returns
returns c =
    let a = c.args in
    let e = c.in_book-here in
    echo_found a.book.now e.result.base a.d _ _ _ e.ensures.0.n refl c.tally-votes.ensures.0 _ c.echo.ensures _
    c.tally-votes.ensures.1 _ c.ready_sent.ensures _ c.is_reached.ensures
    ∙ ap (λ base. echo_mark a.book.now base a.d) e.ensures.1
