-- Both round trips of the very bytes that the exported writer and reader exchange, and of a request's.
use Rattle.std.specs.Prelude.{ℕ, ◌≡◌, true, List, length, replicate}
use Rattle.words.specs.Words.{Bytes}
use Rattle.lot.specs.Declaration.{declaration_at}
use Rattle.message.specs.declared.Written.{Written}
use Rattle.message.specs.declared.ReadAnswer.{ReadAnswer}
use Rattle.message.specs.Message.{is_kind, read_of, request_wire, request_of, written_of}
use Rattle.message.specs.Read.{read_answer}

-- what `gm_write` hands back, the declaration lent as its 20 bytes
abbrev pub writes : (kind season sender number : ℕ) → List ℕ → Written
writes kind season sender number d = written_of kind season sender number (declaration_at d 0)

-- what `gm_read` hands back
abbrev pub reads : List ℕ → ReadAnswer
reads bytes = read_answer (request_of bytes) (read_of bytes)

-- writing what was read
abbrev pub writes_back : ReadAnswer → Written
writes_back a = writes a.kind a.season a.sender a.number a.declaration

-- Both round trips of the very bytes that `gm_write` and `gm_read` exchange.
pub record Trips : Type 0 where
  -- what writing gives reads as what was written
  pub read_undoes_write : (kind season sender number : ℕ) (d : List ℕ) → is_kind kind ≡ true → length d ≡ 20 → Bytes d
      → reads (writes kind season sender number d).message
      ≡ record { answer = 0; kind = kind; season = season; sender = sender; number = number; declaration = d }
  -- bytes that read as a message are those that writing what was read gives
  pub write_undoes_read : (bytes : List ℕ) → Bytes bytes → is_kind (reads bytes).kind ≡ true
      → writes_back (reads bytes) ≡ record { answer = 0; message = bytes }
  -- a request's 11 bytes read as kind 9 and the season alone
  pub read_undoes_request : (season : ℕ) → reads (request_wire season)
      ≡ record { answer = 0; kind = 9; season = season; sender = 0; number = 0; declaration = replicate 20 0 }
  -- bytes that read as kind 9 are a request of the season that was read
  pub request_undoes_read : (bytes : List ℕ) → Bytes bytes → (reads bytes).kind ≡ 9 → bytes ≡ request_wire (reads bytes).season
