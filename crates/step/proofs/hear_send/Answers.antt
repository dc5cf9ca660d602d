-- A SEND: the slot lies within the book, and what is left and given is the protocol's step; what is refused is what recording answers.
use Rattle.std.proofs.Common.{◌≡◌, rules, ℕ, ap, refl, ◌∙◌, arith, get_or, Fits, w8}
use Rattle.std.specs.Prelude.{Result, Err}
use Rattle.refusal.specs.declared.Refusal.{Refusal}
use Rattle.refusal.proofs.Numbers.{never_accepted}
use Rattle.calls.specs.Entered.{result_of}
use Rattle.reply.specs.declared.Step.{Step}
use Rattle.reply.specs.Handed.{outcome_of}
use Rattle.meaning.specs.Book.{n_of}
use Rattle.meaning.proofs.Places.{send_below}
use Rattle.layout.proofs.Begins.{slot_room}
use Rattle.step.proofs.Heard.{send_refused, send_heard}
use Rattle.step.proofs.hear_send.Goals as goal

pub record_answer-requires : goal.record_answer-requires
record_answer-requires c =
    omega (arith, slot_room _ _ _ c.requires.begins.within (send_below (n_of c.args.book.now)), c.send-at.ensures)

pub returns-in_err-record_answer : goal.returns-in_err-record_answer
returns-in_err-record_answer c =
    let a = c.args in
    let b = a.book.now in
    let m = a.message.now in
    let e : c.from_residual.result ≡ Err c.in_err-record_answer.field-0.0 = search rules in
    ap (λ (o : Result Step Refusal). result_of (outcome_of o m) b) e
    ∙ send_refused b m a.entry.base c.requires _ _ _ c.send-at.ensures c.lot_of.ensures c.in_err-record_answer.ensures (never_accepted _)

pub put_slot-requires : goal.put_slot-requires
put_slot-requires c = omega (arith, slot_room _ _ _ c.requires.begins.within (send_below (n_of c.args.book.now)), c.send-at.ensures)

pub returns : goal.returns
returns c =
    let a = c.args in
    let b = a.book.now in
    let m = a.message.now in
    let bytes : (i : ℕ) → Fits w8 (get_or b i 0) = λ i. search rules in
    send_heard b m a.entry.base c.requires _ _ _ c.send-at.ensures c.lot_of.ensures c.in_ok-record_answer.ensures
    (λ i. (bytes i).fits) refl _ c.lot_of-2.ensures _ c.put_slot.ensures
