-- What this crate promises, in document 01's order.
use Rattle.std.specs.Prelude.{ℕ, ◌≡◌, true, List, ◌↔◌, Option}
use Rattle.std.proofs.Math.Option.{some}
use Rattle.words.specs.Words.{Bytes, word_at}
use Rattle.words.specs.Settled.{Settled}
use Rattle.lot.specs.declared.Declaration.{Declaration}
use Rattle.message.specs.declared.Message.{Message}
use Rattle.message.specs.declared.Written.{Written}
use Rattle.message.specs.Message.{Five, is_kind, wire, read_as, malformed, read_of, told, written_of, request_wire, is_request, request_of}

-- Two outcomes that meet the contract of the reader, or of the writer, are equal.
pub record Settles : Type 0 where
  pub read_settled : (bytes : List ℕ) → Settled (λ (r : Option Message). told r ≡ read_of bytes)
  pub write_settled : (kind season sender number : ℕ) (d : Declaration)
      → Settled (λ (r : Written). r ≡ written_of kind season sender number d)

pub record Claims : Type 0 where
  -- Reading undoes writing,
  pub read_of_wire : (m : Five) → is_kind m.kind ≡ true → read_of (wire m) ≡ read_as m
  -- bytes that read are the bytes that writing gives,
  pub wire_of_read : (bytes : List ℕ) → Bytes bytes → (m : Five) → read_of bytes ≡ read_as m → (bytes ≡ wire m) × (is_kind m.kind ≡ true)
  -- so a message has exactly one written form,
  pub one_form : (bytes others : List ℕ) (m : Five) → Bytes bytes → Bytes others → read_of bytes ≡ read_as m → read_of others ≡ read_as m
      → bytes ≡ others
  -- and anything else is malformed.
  pub malformed_exactly : (bytes : List ℕ) → Bytes bytes
      → (read_of bytes ≡ malformed) ↔ ((m : Five) → is_kind m.kind ≡ true → bytes ≡ wire m → ⊥)
  -- A request reads as what was written, is written as it reads, and is no message of another kind.
  pub request_of_wire : (season : ℕ) → request_of (request_wire season) ≡ some season
  pub wire_of_request : (bytes : List ℕ) → is_request bytes ≡ true → Bytes bytes → bytes ≡ request_wire (word_at bytes 7)
  pub request_alone : (bytes : List ℕ) → is_request bytes ≡ true → read_of bytes ≡ malformed
  -- The answer and the five things settle what the reader found, and five things that are no message's too: the same is told of no others,
  pub told_injective : (a b : Option Message) → told a ≡ told b → a ≡ b
  pub read_as_injective : (a b : Five) → read_as a ≡ read_as b → a ≡ b
  -- nor of what is malformed.
  pub read_as_something : (a : Five) → read_as a ≡ malformed → ⊥
  -- The reader's contract and the writer's settle their outcome.
  pub settled : Settles
