-- When each answer of publishing and receiving is given: where several apply, the first in the call's order.
use Rattle.std.specs.Prelude.{ℕ, ◌≤◌, ◌<◌, ◌≡◌, Bool, true, false, List, ◌⊎◌}
use Rattle.std.proofs.Math.Option.{none, some}
use Rattle.lot.specs.Declaration.{bytes_of}
use Rattle.message.specs.Message.{Five, read_as, malformed, read_of, request_of}
use Rattle.entry.specs.Entry.{Decl, heard, Kind}
use Rattle.meaning.specs.Book.{n_of, numbers_of, own_of, season_of, limit_of, helped_of, look, sheet_of}
use Rattle.meaning.specs.Legal.{legal}
use Rattle.calls.specs.Entered.{ok_by, kind_of}
use Rattle.calls.specs.Call.{published, received}

-- plausible by the book's sheet
abbrev ok : List ℕ → Decl → Bool
ok b v = ok_by (sheet_of b) v

-- Publishing v at number c: 1, 4, 5, 8.
pub record Publishing (b : List ℕ) (c : ℕ) (v : Decl) : Type 0 where
  pub no_book : legal b ≡ false → (published b c v).given.answer ≡ 1
  pub no_number : legal b ≡ true → numbers_of b ≤ c → (published b c v).given.answer ≡ 4
  pub not_plausible : legal b ≡ true → c < numbers_of b → ok b v ≡ false → (published b c v).given.answer ≡ 5
  pub already : legal b ≡ true → c < numbers_of b → ok b v ≡ true → (w : Decl) → (look b (own_of b) c).published ≡ some w
      → (published b c v).given.answer ≡ 8
  pub accepted : legal b ≡ true → c < numbers_of b → ok b v ≡ true → (look b (own_of b) c).published ≡ none
      → (published b c v).given.answer ≡ 0

-- bytes from house p on a legal book, which read as m, of the book's season
pub record Reads (b message : List ℕ) (m : Five) : Type 0 where
  pub legal : legal b ≡ true
  pub reads : read_of message ≡ read_as m
  pub season : m.season ≡ season_of b

-- sender, entry number and house number are in the book
pub record Inside (b : List ℕ) (p : ℕ) (m : Five) : Type 0 where
  pub sender : m.sender < n_of b
  pub number : m.number < numbers_of b
  pub house : p < n_of b

-- and the declaration is plausible
pub record Plausible (b : List ℕ) (p : ℕ) (m : Five) : Type 0 where
  pub inside : Inside b p m
  pub plausible : ok b (bytes_of m.declaration) ≡ true

-- and house p may say it; of its kind, from house p, stands another declaration
pub record Conflict (b : List ℕ) (p : ℕ) (m : Five) : Type 0 where
  pub plausible : Plausible b p m
  pub from : m.kind ≡ 1 → p ≡ m.sender
  pub kind : Kind
  pub kind_is : kind_of m.kind ≡ some kind
  pub stands : Decl
  pub heard : heard kind p (look b m.sender m.number) ≡ some stands
  pub other : stands ≡ bytes_of m.declaration → ⊥

-- Receiving from house p: 1 to 6 in order, then 7 or 13; a request 1 to 4, then 14.
pub record Receiving (b : List ℕ) (p : ℕ) (message : List ℕ) : Type 0 where
  pub no_book : legal b ≡ false → (received b p message).given.answer ≡ 1
  pub malformed : legal b ≡ true → request_of message ≡ none → read_of message ≡ malformed → (received b p message).given.answer ≡ 2
  pub other_season : legal b ≡ true → (m : Five) → read_of message ≡ read_as m → (m.season ≡ season_of b → ⊥)
      → (received b p message).given.answer ≡ 3
  pub missing : (m : Five) → Reads b message m → (n_of b ≤ m.sender) ⊎ ((numbers_of b ≤ m.number) ⊎ (n_of b ≤ p))
      → (received b p message).given.answer ≡ 4
  pub not_plausible : (m : Five) → Reads b message m → Inside b p m → ok b (bytes_of m.declaration) ≡ false
      → (received b p message).given.answer ≡ 5
  pub not_sender : (m : Five) → Reads b message m → Plausible b p m → m.kind ≡ 1 → (p ≡ m.sender → ⊥)
      → (received b p message).given.answer ≡ 6
  pub repeat : (m : Five) → Reads b message m → Plausible b p m → (m.kind ≡ 1 → p ≡ m.sender)
      → (k : Kind) → kind_of m.kind ≡ some k → heard k p (look b m.sender m.number) ≡ some (bytes_of m.declaration)
      → (received b p message).given.answer ≡ 7
  pub conflict : (m : Five) → Reads b message m → Conflict b p m → (received b p message).given.answer ≡ 13
  pub accepted : (m : Five) → Reads b message m → Plausible b p m → (m.kind ≡ 1 → p ≡ m.sender)
      → (k : Kind) → kind_of m.kind ≡ some k → heard k p (look b m.sender m.number) ≡ none
      → (received b p message).given.answer ≡ 0
  -- a request
  pub request_other_season : legal b ≡ true → (season : ℕ) → request_of message ≡ some season → (season ≡ season_of b → ⊥)
      → (received b p message).given.answer ≡ 3
  pub request_missing : legal b ≡ true → request_of message ≡ some (season_of b) → n_of b ≤ p → (received b p message).given.answer ≡ 4
  pub request_enough : legal b ≡ true → request_of message ≡ some (season_of b) → p < n_of b → limit_of b ≤ helped_of b p
      → (received b p message).given.answer ≡ 14
  pub request_accepted : legal b ≡ true → request_of message ≡ some (season_of b) → p < n_of b → helped_of b p < limit_of b
      → (received b p message).given.answer ≡ 0
