-- What is promised of an accepted call's counts and message holds.
use Prim.Native.Nat.{ℕ}
use mathlib.Core.Path.{◌≡◌, refl}
use Rattle.card.specs.Card.{counts_of}
use Rattle.lot.specs.Declaration.{declaration_at}
use Rattle.lot.proofs.Declared.{bytes_of_numbers}
use Rattle.message.specs.Message.{read_as, read_of}
use Rattle.message.proofs.RoundTrip.{read_of_wire}
use Rattle.entry.specs.Entry.{Decl, Kind}
use Rattle.protocol.specs.Steps.{say}
use Rattle.protocol.specs.Thresholds.{rules_of}
use Rattle.calls.specs.Entered.{kind_number, five_of, letter, rules_by}
use Rattle.calls.proofs.KindNumber.{kind_is, is_known}
use Rattle.meaning.specs.Book.{Header}
use Rattle.calls.specs.Accepted.{counts_by, Accepted}

quorum_by : (h : Header) → (rules_by h).quorum ≡ (counts_by h).quorum
unfolding rules_by rules_of counts_of
quorum_by h = refl

amplify_by : (h : Header) → (rules_by h).amplify ≡ (counts_by h).amplify
unfolding rules_by rules_of counts_of
amplify_by h = refl

deliver_by : (h : Header) → (rules_by h).deliver ≡ (counts_by h).deliver
unfolding rules_by rules_of counts_of
deliver_by h = refl

letter_read : (season sender number : ℕ) (k : Kind) (v : Decl)
    → read_of (letter season sender number (say k v)) ≡ read_as (five_of (kind_number k) season sender number (declaration_at v 0))
unfolding letter
letter_read season j c k v = read_of_wire (five_of (kind_number k) season j c (declaration_at v 0)) (is_known k)

pub accepted : Accepted
accepted =
    record {
      quorum_by = quorum_by;
      amplify_by = amplify_by;
      deliver_by = deliver_by;
      letter_read = letter_read;
      kind_read = kind_is;
      declaration_read = λ v d. bytes_of_numbers v d.long d.bytes;
    }
