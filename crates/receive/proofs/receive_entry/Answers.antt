-- Past 1 the book's head is legal.
use Rattle.receive.proofs.Heard.{head_refused, head_heard}
use Rattle.receive.proofs.receive_entry.Goals as goal

pub returns-then-not-is_head_legal : goal.returns-then-not-is_head_legal
returns-then-not-is_head_legal c =
    let a = c.args in
    head_refused a.book.now a.message.now a.house _ c.is_head_legal.ensures c.if-not-is_head_legal.true _
    (rw c.into.ensures at c.refuse.ensures)

pub returns : goal.returns
returns c =
    let a = c.args in
    head_heard a.book.now a.message.now a.house _ c.is_head_legal.ensures c.if-not-is_head_legal.false _ c.answer.ensures
