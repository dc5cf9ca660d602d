-- Past 1 the book is legal, and its bytes are bytes.
use Rattle.std.proofs.Common.{rules, ℕ, Fits, w8, get_or, sym, ◌∙◌}
use Rattle.calls.proofs.Received.{received_no_book}
use Rattle.receive.proofs.Heard.{legal_heard}
use Rattle.receive.proofs.receive.Goals as goal

pub returns-then-not-is_legal : goal.returns-then-not-is_legal
returns-then-not-is_legal c =
    let a = c.args in
    received_no_book a.book.now a.house a.message.now (sym c.is_legal.ensures ∙ c.if-not-is_legal.true) _
    (rw c.into.ensures at c.refuse.ensures)

pub answer-requires : goal.answer-requires
answer-requires c = sym c.is_legal.ensures ∙ c.if-not-is_legal.false

pub returns : goal.returns
returns c =
    let a = c.args in
    let fits : (i : ℕ) → Fits w8 (get_or a.book.now i 0) = λ i. search rules in
    legal_heard a.book.now a.message.now a.house
    (record { legal = sym c.is_legal.ensures ∙ c.if-not-is_legal.false; bytes = λ i. (fits i).fits }) _ c.answer.ensures
