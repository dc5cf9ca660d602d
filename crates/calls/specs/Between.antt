-- The rule between entries, of publishing and receiving at the bytes. The waiting search reads all entries and is the one exception; a
-- return or a request names no entry and is left out.
use Rattle.std.specs.Prelude.{ℕ, ◌≡◌, true, false, List}
use Rattle.std.proofs.Math.Option.{some}
use Rattle.message.specs.Message.{Five, read_of, is_request}
use Rattle.entry.specs.Entry.{Decl}
use Rattle.meaning.specs.Book.{own_of, header_of, help_of, look}
use Rattle.meaning.specs.Legal.{Lent}
use Rattle.calls.specs.Entered.{Result}
use Rattle.calls.specs.Call.{published, received}

-- an entry other than that of sender j and number c
abbrev pub Other : (j c j₂ c₂ : ℕ) → Type 0
Other j c j₂ c₂ = (j₂ ≡ j) × (c₂ ≡ c) → ⊥

-- two results give the same answer, message and delivery, and end agreeing on the entry of sender j and number c
pub record Alike (r r' : Result) (j c : ℕ) : Type 0 where
  pub given : r.given ≡ r'.given
  pub entry : look r.book j c ≡ look r'.book j c

pub record Between : Type 0 where
  -- An accepted publication or message changes the named entry alone; the entry that a message names is what reading its bytes gives.
  pub published_others : (b : List ℕ) → Lent b → (number : ℕ) (v : Decl) (j c : ℕ) → Other (own_of b) number j c
      → look (published b number v).book j c ≡ look b j c
  pub received_others : (b : List ℕ) → Lent b → (house : ℕ) (message : List ℕ) (j c : ℕ)
      → ((m : Five) → (read_of message).five ≡ some m → Other m.sender m.number j c)
      → look (received b house message).book j c ≡ look b j c
  -- n, S, own number, season, sheet, f, d and how often each asker was helped stay as they are.
  pub published_header : (b : List ℕ) → Lent b → (number : ℕ) (v : Decl)
      → (header_of (published b number v).book ≡ header_of b) × (help_of (published b number v).book ≡ help_of b)
  pub received_header : (b : List ℕ) → Lent b → (house : ℕ) (message : List ℕ) → is_request message ≡ false
      → (header_of (received b house message).book ≡ header_of b) × (help_of (received b house message).book ≡ help_of b)
  -- Two legal books that agree on n, S, own number, season, sheet, f and one entry give the same answer, message and delivery to any
  -- publishing or receiving that names that entry, and end agreeing on it, whatever the other entries hold.
  pub published_same : (b d : List ℕ) → Lent b → Lent d → header_of b ≡ header_of d → (number : ℕ) (v : Decl)
      → look b (own_of b) number ≡ look d (own_of b) number → Alike (published b number v) (published d number v) (own_of b) number
  pub received_same : (b d : List ℕ) → Lent b → Lent d → header_of b ≡ header_of d → (house : ℕ) (message : List ℕ) (j c : ℕ)
      → is_request message ≡ false → ((m : Five) → (read_of message).five ≡ some m → (m.sender ≡ j) × (m.number ≡ c))
      → look b j c ≡ look d j c → Alike (received b house message) (received d house message) j c
  -- A request changes no entry.
  pub request_others : (b : List ℕ) → Lent b → (house : ℕ) (message : List ℕ) → is_request message ≡ true
      → look (received b house message).book ≡ look b
