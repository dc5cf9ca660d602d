-- 1 where the bytes are no legal book, 2 for a kind that is none, 4 for an entry outside the book, and past them what was sent.
use Rattle.std.proofs.Common.{sym, ap, refl, ◌∙◌, ◌≡◌, ℕ, arith, rules}
use Rattle.std.specs.Prelude.{Err}
use Rattle.refusal.specs.declared.Refusal.TheVariants.{Malformed}
use Rattle.calls.specs.Again.{sent_as}
use Rattle.calls.specs.Entered.{kind_of}
use Rattle.again.specs.Letter.{given}
use Rattle.meaning.proofs.Legality.{legal_head}
use Rattle.meaning.proofs.Room.{header_room}
use Rattle.again.proofs.Sent.{sent_no_book, sent_no_kind, sent_no_sender, sent_no_number, sent_there, kind_is}
use Rattle.again.proofs.find_sent.Goals as goal

pub returns-then-not-is_legal : goal.returns-then-not-is_legal
returns-then-not-is_legal c =
    let a = c.args in
    sent_no_book a.book.now a.kind a.sender a.number _ (sym c.is_legal.ensures ∙ c.if-not-is_legal.true) refl

pub returns-in_err-kind : goal.returns-in_err-kind
returns-in_err-kind c =
    let a = c.args in
    let e : c.from_residual.result ≡ Err Malformed = search rules in
    sent_no_kind a.book.now a.kind a.sender a.number _ (sym c.is_legal.ensures ∙ c.if-not-is_legal.false) c.in_err-kind.ensures.0
    (ap given e)

pub n_of-requires : goal.n_of-requires
n_of-requires c = let h = header_room _ (sym c.is_legal.ensures ∙ c.if-not-is_legal.false) in omega arith

pub returns-then-sender-from : goal.returns-then-sender-from
returns-then-sender-from c =
    let a = c.args in
    sent_no_sender a.book.now a.kind a.sender a.number _ (sym c.is_legal.ensures ∙ c.if-not-is_legal.false)
    (kind_is _ _ c.in_ok-kind.ensures) (omega arith) refl

pub numbers_of-requires : goal.numbers_of-requires
numbers_of-requires c = let h = header_room _ (sym c.is_legal.ensures ∙ c.if-not-is_legal.false) in omega arith

pub returns-then-number-from : goal.returns-then-number-from
returns-then-number-from c =
    let a = c.args in
    sent_no_number a.book.now a.kind a.sender a.number _ (sym c.is_legal.ensures ∙ c.if-not-is_legal.false)
    (kind_is _ _ c.in_ok-kind.ensures) (omega arith) (omega arith) refl

pub sent_entry-requires : goal.sent_entry-requires
sent_entry-requires c =
    record {
      head = legal_head _ (sym c.is_legal.ensures ∙ c.if-not-is_legal.false);
      sender = omega arith;
      number = omega arith;
    }

pub returns : goal.returns
returns c =
    let a = c.args in
    sent_there a.book.now a.kind a.sender a.number _ (sym c.is_legal.ensures ∙ c.if-not-is_legal.false)
    (c.sent_entry.ensures ∙ ap (λ (x : ℕ). sent_as a.book.now (kind_of x) a.sender a.number) c.in_ok-kind.ensures)
