-- Receiving by entry, for a house that knows its book: the head is tested, and the slots of the entry that the message names; no other slot
-- is read or written. What it gives, in the order of its answers, and what is promised of it.
use Rattle.std.specs.Prelude.{ℕ, ◌≤◌, ◌<◌, ◌≡◌, true, false, cond, ◌&&◌, List, ◌⊎◌, eqb, ltb, length, get_or}
use Rattle.std.proofs.Math.Option.{Option, none, some}
use Rattle.words.specs.Words.{Bytes}
use Rattle.lot.specs.Declaration.{bytes_of}
use Rattle.message.specs.Message.{Five, read_as, malformed, read_of, request_of, is_request}
use Rattle.entry.specs.Entry.{Kind}
use Rattle.protocol.specs.Steps.{Out}
use Rattle.protocol.specs.Book.{Call, receiving, sender_of, number_of}
use Rattle.meaning.specs.Layout.{per_entry, helped_place}
use Rattle.meaning.specs.Book.{n_of, numbers_of, own_of, season_of, header_of, limit_of, look, place_in, with_row}
use Rattle.meaning.specs.Legal.{head_legal, entry_legal, Lent, Fits}
use Rattle.calls.specs.Entered.{Result, handed, letters, kind_of}
use Rattle.calls.specs.Call.{refusal, step_of, asked, requested, received}
use Rattle.calls.specs.Silent.{Refuses}

-- an accepted message: what the step gives, and the bytes with the named entry's row as the step leaves it
unfoldable pub entered_in : List ℕ → (sender number : ℕ) → Out → Result
entered_in b j c o =
    record {
      given = handed o.answer (letters (season_of b) j c o.message) o.delivery;
      book = with_row b j c o.entry;
    }

-- the step on what the named entry means: 4 to 7, or 13
unfoldable pub called_in : List ℕ → Call → Result
unfolding entered_in
called_in b a =
    let o : Out = step_of b a in
    cond (eqb o.answer 0) (entered_in b (sender_of (own_of b) a) (number_of a) o) (refusal o.answer b)

-- 2 for a number that is no kind's, which is never given here, as in receiving
abbrev pub answering_in : List ℕ → Option Call → Result
answering_in b none = refusal 2 b
answering_in b (some a) = called_in b a

-- of the book's season: 4 unless the book has the entry, 1 unless each of its slots has one byte form per meaning
unfoldable pub heard_on : List ℕ → (house : ℕ) → Five → Result
unfolding called_in
heard_on b p m =
    cond (ltb m.sender (n_of b) && ltb m.number (numbers_of b))
    (cond (entry_legal b m.sender m.number) (answering_in b (asked p m)) (refusal 1 b)) (refusal 4 b)

-- 2 unless the message is well formed, 3 unless it is of the book's season
unfoldable pub heard_in : List ℕ → (house : ℕ) → Option Five → Result
unfolding heard_on
heard_in b p none = refusal 2 b
heard_in b p (some m) = cond (eqb m.season (season_of b)) (heard_on b p m) (refusal 3 b)

-- past the head: a request, which no slot is tested for, or a message
abbrev pub any_in : List ℕ → (house : ℕ) → Option ℕ → Option Five → Result
any_in b p (some season) m = requested b p season
any_in b p none m = heard_in b p m

-- Receiving by entry: 1 for the head; 2, 3; 4 for sender or number; 1 for the entry; 4 for the house, 5, 6, then 7 or 13. A request: 1 for
-- the head, 3, 4, 14.
unfoldable pub received_entry : List ℕ → (house : ℕ) → List ℕ → Result
unfolding requested heard_in
received_entry b p message = cond (head_legal b) (any_in b p (request_of message) (read_of message).five) (refusal 1 b)

-- byte i is outside the slots of the entry of sender j and number c
abbrev pub Outside : List ℕ → (sender number i : ℕ) → Type 0
Outside b j c i = (i < place_in b j c 0) ⊎ (place_in b j c (per_entry (n_of b)) ≤ i)

-- the step's answer, message and delivery, a message being the writer's bytes; and the entry as the step leaves it
pub record Stepped (b : List ℕ) (j c : ℕ) (o : Out) (r : Result) : Type 0 where
  pub given : r.given ≡ handed o.answer (letters (season_of b) j c o.message) o.delivery
  pub entry : Bytes b → look r.book j c ≡ o.entry

-- When each answer is given. Past the tests of head and entry the call is one step of the protocol on what the entry means, whose answers
-- are receiving's, in their order.
pub record Answers (b : List ℕ) (p : ℕ) (message : List ℕ) : Type 0 where
  pub no_head : head_legal b ≡ false → (received_entry b p message).given.answer ≡ 1
  pub asking : head_legal b ≡ true → (season : ℕ) → request_of message ≡ some season → received_entry b p message ≡ requested b p season
  pub malformed : head_legal b ≡ true → request_of message ≡ none → read_of message ≡ malformed
      → (received_entry b p message).given.answer ≡ 2
  pub other_season : head_legal b ≡ true → (m : Five) → read_of message ≡ read_as m → (m.season ≡ season_of b → ⊥)
      → (received_entry b p message).given.answer ≡ 3
  pub no_entry : head_legal b ≡ true → (m : Five) → read_of message ≡ read_as m → m.season ≡ season_of b
      → (n_of b ≤ m.sender) ⊎ (numbers_of b ≤ m.number) → (received_entry b p message).given.answer ≡ 4
  pub bad_entry : head_legal b ≡ true → (m : Five) → read_of message ≡ read_as m → m.season ≡ season_of b
      → m.sender < n_of b → m.number < numbers_of b → entry_legal b m.sender m.number ≡ false
      → (received_entry b p message).given.answer ≡ 1
  pub stepped : (m : Five) → read_of message ≡ read_as m → m.season ≡ season_of b → Fits b m.sender m.number
      → (k : Kind) → kind_of m.kind ≡ some k → (o : Out) → o ≡ step_of b (receiving p k m.sender m.number (bytes_of m.declaration))
      → Stepped b m.sender m.number o (received_entry b p message)

pub record ByEntry : Type 0 where
  -- On every legal book it gives the same answer, message, delivery and bytes as receiving.
  pub same_as_receiving : (b : List ℕ) → Lent b → (house : ℕ) (message : List ℕ) → received_entry b house message ≡ received b house message
  -- Each answer is given exactly when the order says.
  pub answers : (b : List ℕ) (house : ℕ) (message : List ℕ) → Answers b house message
  -- Every refusal leaves the lent buffer byte for byte and carries no message and no delivery.
  pub silent : (b : List ℕ) (house : ℕ) (message : List ℕ) → ((received_entry b house message).given.answer ≡ 0 → ⊥)
      → Refuses b (received_entry b house message)
  -- On any bytes it leaves every byte outside the named entry as it was; a request, every byte but the asker's count.
  pub elsewhere : (b : List ℕ) → Bytes b → (house : ℕ) (message : List ℕ) (i : ℕ)
      → ((m : Five) → (read_of message).five ≡ some m → Outside b m.sender m.number i)
      → (is_request message ≡ true → i ≡ helped_place house → ⊥)
      → get_or (received_entry b house message).book i 0 ≡ get_or b i 0
  pub long : (b : List ℕ) → Bytes b → (house : ℕ) (message : List ℕ) → length (received_entry b house message).book ≡ length b
  -- It keeps what it tests: the head, with n, S, own number, season, sheet, f and d, and each entry that was legal.
  pub keeps_head : (b : List ℕ) → Bytes b → (house : ℕ) (message : List ℕ) → head_legal b ≡ true
      → head_legal (received_entry b house message).book ≡ true
  pub keeps_header : (b : List ℕ) → Bytes b → (house : ℕ) (message : List ℕ) → header_of (received_entry b house message).book ≡ header_of b
  pub keeps_limit : (b : List ℕ) → Bytes b → (house : ℕ) (message : List ℕ) → limit_of (received_entry b house message).book ≡ limit_of b
  pub keeps_entry : (b : List ℕ) → Bytes b → (house : ℕ) (message : List ℕ) (j c : ℕ)
      → entry_legal b j c ≡ true → entry_legal (received_entry b house message).book j c ≡ true
