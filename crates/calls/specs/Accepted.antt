-- What is promised of an accepted call's counts and message. That it is one step of the protocol, specs/Claims.antt promises of all calls.
use Rattle.std.specs.Prelude.{ℕ, ◌≡◌}
use Rattle.card.specs.declared.Counts.{Counts}
use Rattle.card.specs.Card.{counts_of}
use Rattle.lot.specs.Declaration.{declaration_at, bytes_of}
use Rattle.message.specs.Message.{read_as, read_of}
use Rattle.entry.specs.Entry.{Decl, Kind}
use Rattle.protocol.specs.Steps.{say}
use Rattle.meaning.specs.Book.{Header}
use Rattle.meaning.specs.Legal.{IsDecl}
use Rattle.calls.specs.Entered.{kind_number, kind_of, five_of, letter, rules_by}
use Rattle.std.proofs.Math.Option.{some}

-- the counts that a book's steps compare with
abbrev pub counts_by : Header → Counts
counts_by h = counts_of h.n h.down

pub record Accepted : Type 0 where
  -- The counts that a book's steps compare with are the wall card's, at its n and f.
  pub quorum_by : (h : Header) → (rules_by h).quorum ≡ (counts_by h).quorum
  pub amplify_by : (h : Header) → (rules_by h).amplify ≡ (counts_by h).amplify
  pub deliver_by : (h : Header) → (rules_by h).deliver ≡ (counts_by h).deliver
  -- Each message given on an entry reads as its kind, with the book's season and that entry's sender and number,
  pub letter_read : (season sender number : ℕ) (k : Kind) (v : Decl)
      → read_of (letter season sender number (say k v)) ≡ read_as (five_of (kind_number k) season sender number (declaration_at v 0))
  pub kind_read : (k : Kind) → kind_of (kind_number k) ≡ some k
  -- and carries the declaration itself.
  pub declaration_read : (v : Decl) → IsDecl v → bytes_of (declaration_at v 0) ≡ v
