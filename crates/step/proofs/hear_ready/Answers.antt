-- A READY: the slots lie within the book, and what is recorded, marked and given is the protocol's step; what is refused is what recording
-- answers.
use Rattle.std.proofs.Common.{◌≡◌, rules, ℕ, ap, refl, ◌∙◌, arith, get_or, Fits, w8}
use Rattle.std.specs.Prelude.{Result, Err}
use Rattle.refusal.specs.declared.Refusal.{Refusal}
use Rattle.refusal.proofs.Numbers.{never_accepted}
use Rattle.calls.specs.Entered.{result_of}
use Rattle.reply.specs.declared.Step.{Step}
use Rattle.reply.specs.Handed.{outcome_of}
use Rattle.layout.proofs.Begins.{ready_room, ready_sent_room, delivered_room}
use Rattle.step.proofs.Heard.{carries_along, ready_refused, ready_lies, ready_heard}
use Rattle.step.proofs.hear_ready.Goals as goal

pub record_answer-requires : goal.record_answer-requires
record_answer-requires c =
    omega (arith, ready_room _ _ c.in_book-entry.ensures.0 _ c.requires.1, c.ready-at.ensures)

pub returns-in_err-record_answer : goal.returns-in_err-record_answer
returns-in_err-record_answer c =
    let a = c.args in
    let b = a.book.now in
    let m = a.message.now in
    let e = c.in_book-entry in
    let C = carries_along b m _ _ e.ensures.1 c.requires.0 in
    let r : c.from_residual.result ≡ Err c.in_err-record_answer.field-0.0 = search rules in
    ap (λ (o : Result Step Refusal). result_of (outcome_of o m) b) r
    ∙ ready_refused b m e.result.base C a.house c.requires.1 _ _ _ _ e.ensures.0.n c.lot_of.ensures c.in_err-record_answer.ensures
    c.ready-at.ensures (never_accepted _)

pub put_slot-requires : goal.put_slot-requires
put_slot-requires c =
    omega (arith, ready_room _ _ c.in_book-entry.ensures.0 _ c.requires.1, c.ready-at.ensures)

pub ready_marks-m-requires : goal.ready_marks-m-requires
ready_marks-m-requires c =
    let a = c.args in
    let b = a.book.now in
    let m = a.message.now in
    let e = c.in_book-entry in
    let C = carries_along b m _ _ e.ensures.1 c.requires.0 in
    let bytes : (i : ℕ) → Fits w8 (get_or b i 0) = λ i. search rules in
    (ready_lies b m e.result.base C a.house c.requires.1 _ _ _ _ e.ensures.0.n c.lot_of.ensures c.in_ok-record_answer.ensures
    (λ i. (bytes i).fits) _ c.lot_of-2.ensures _ c.put_slot.ensures c.ready-at.ensures e.result refl e.ensures.0.n).within

pub mark-requires : goal.mark-requires
mark-requires c =
    omega (
      arith,
      ready_sent_room _ _ c.in_book-entry.ensures.0,
      c.ready_sent.ensures,
      c.put_slot.auto.b,
    )

pub mark-requires-2 : goal.mark-requires-2
mark-requires-2 c =
    omega (
      arith,
      delivered_room _ _ c.in_book-entry.ensures.0,
      c.delivered.ensures,
      c.put_slot.auto.b,
      c.mark.auto.book,
    )

pub returns : goal.returns
returns c =
    let a = c.args in
    let b = a.book.now in
    let m = a.message.now in
    let e = c.in_book-entry in
    let C = carries_along b m _ _ e.ensures.1 c.requires.0 in
    let bytes : (i : ℕ) → Fits w8 (get_or b i 0) = λ i. search rules in
    ready_heard b m e.result.base C a.house c.requires.1 _ _ _ _ e.ensures.0.n c.lot_of.ensures c.in_ok-record_answer.ensures
    (λ i. (bytes i).fits) _ c.lot_of-2.ensures _ c.put_slot.ensures _ c.ready_sent.ensures _ _ c.lot_of-3.ensures c.lot_of-4.ensures _ refl
    c.ready-at.ensures _ c.ready_marks-m.ensures c.mark.ensures _ c.delivered.ensures _ c.lot_of-5.ensures _ c.mark-2.ensures _
    c.then_some.ensures
