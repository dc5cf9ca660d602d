-- A request, bytes that are malformed, and a message that is well formed, whose five things are those that were read.
use Rattle.std.proofs.Common.{ap, ◌∙◌, arith}
use Rattle.calls.specs.declared.Outcome.{Outcome}
use Rattle.calls.specs.Entered.{result_of}
use Rattle.admit.proofs.Heard.{shown_head}
use Rattle.receive.proofs.Heard.{read_formed, asks_long, formed_long, asked_any, malformed_any, message_any}
use Rattle.receive.proofs.answer.Goals as goal

pub word_at-requires : goal.word_at-requires
word_at-requires c = omega (arith, asks_long c.args.bytes.now _ c.is_request.ensures c.if-is_request.true)

pub ask-requires : goal.ask-requires
ask-requires c = shown_head _ _ c.requires

pub returns-in-Ok : goal.returns-in-Ok
returns-in-Ok c =
    let a = c.args in
    let given = ap (λ (o : Outcome). result_of o c.ask.new.book) c.help.ensures in
    asked_any a.bytes.now a.book.now a.house _ c.is_request.ensures c.if-is_request.true _ c.word_at.ensures _ (given ∙ c.in-Ok.ensures)

pub returns-in-Err : goal.returns-in-Err
returns-in-Err c =
    let a = c.args in
    let given = ap (λ (o : Outcome). result_of o c.ask.new.book) (rw c.into.ensures at c.refuse.ensures) in
    asked_any a.bytes.now a.book.now a.house _ c.is_request.ensures c.if-is_request.true _ c.word_at.ensures _ (given ∙ c.in-Err.ensures)

pub returns-in_default : goal.returns-in_default
returns-in_default c =
    let a = c.args in
    malformed_any a.bytes.now a.book.now a.house _ c.is_request.ensures c.if-is_request.false c.in_default.ensures _
    (rw c.into-in_default.ensures at c.refuse-in_default.ensures)

pub invariant_of-letter : goal.invariant_of-letter
invariant_of-letter c =
    let F = read_formed c.args.bytes.now _ c.in-Some.ensures in
    record {
      formed = F.formed;
      of_kind = F.kind;
      of_season = F.season;
      of_sender = F.sender;
      of_number = F.number;
      of_declaration = F.declaration;
    }

pub hand_step-requires : goal.hand_step-requires
hand_step-requires c = formed_long c.args.bytes.now _ (read_formed c.args.bytes.now _ c.in-Some.ensures)

pub returns : goal.returns
returns c =
    let a = c.args in
    let m = a.bytes.now in
    let F = read_formed m _ c.in-Some.ensures in
    message_any m a.book.now a.house _ c.is_request.ensures c.if-is_request.false _ F c.hear.result _ c.hear.ensures _
    c.hand_step.ensures
