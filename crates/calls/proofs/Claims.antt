-- What this crate promises holds.
use Prim.Native.Nat.{ℕ}
use mathlib.Core.Path.{◌≡◌, sym, ap, ◌∙◌}
use mathlib.Core.List.{List}
use borrow.Author.Tests.{eq-eqb}
use Rattle.meaning.specs.Book.{help_of, more_help, with_help, meant}
use Rattle.meaning.specs.Legal.{Lent}
use Rattle.calls.specs.Entered.{Result}
use Rattle.calls.specs.Call.{request_answer, requested}
use Rattle.calls.specs.Claims.{Claims}
use Rattle.calls.proofs.Accepted.{accepted}
use Rattle.calls.proofs.Keeps as keeps
use Rattle.calls.proofs.Full as full
use Rattle.calls.proofs.Earliest as search
use Rattle.calls.proofs.Ordered.{publishing_ordered, receiving_ordered}
use Rattle.calls.proofs.Conflict.{conflict_only}
use Rattle.calls.proofs.Silent.{silent}
use Rattle.calls.proofs.Between.{between}
use Rattle.calls.proofs.Named.{by_entry}

requested_meant : (b : List ℕ) → Lent b → (p season : ℕ) → request_answer b p season ≡ 0
    → meant (requested b p season).book ≡ with_help (meant b) (more_help (help_of b) p)
unfolding requested
requested_meant b L p season z = rw (eq-eqb (request_answer b p season) 0 z) (keeps.helped_meant b L.legal L.bytes p season z)

pub claims : Claims
claims =
    record {
      called_given = λ b L. keeps.called_given b L.legal L.bytes;
      called_meant = λ b L. keeps.called_meant b L.legal L.bytes;
      accepted = accepted;
      requested_meant = requested_meant;
      publishing = publishing_ordered;
      receiving = receiving_ordered;
      conflict_only = conflict_only;
      silent = silent;
      kept = λ b L. keeps.answered_keeps b L.legal L.bytes;
      full = λ b L. full.answered_full b L.legal L.bytes;
      earliest_exactly = search.earliest_exactly;
      none_exactly = search.none_exactly;
      between = between;
      by_entry = by_entry;
      settled = record {
        publish_settled = λ b number v r r' after after' p q.
            let e = p ∙ sym q in
            (ap (λ (x : Result). x.given) e, ap (λ (x : Result). x.book) e);
        receive_settled = λ b house message r r' after after' p q.
            let e = p ∙ sym q in
            (ap (λ (x : Result). x.given) e, ap (λ (x : Result). x.book) e);
        receive_entry_settled = λ b house message r r' after after' p q.
            let e = p ∙ sym q in
            (ap (λ (x : Result). x.given) e, ap (λ (x : Result). x.book) e);
        waiting_settled = λ b r r' p q. p ∙ sym q;
        return_settled = λ b r r' p q. p ∙ sym q;
        sent_settled = λ b kind sender number r r' p q. p ∙ sym q;
      };
    }
