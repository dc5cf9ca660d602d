-- Every refusal leaves the lent buffer byte for byte and carries no message and no delivery: what it does not carry is zeros.
use Rattle.std.specs.Prelude.{ℕ, ◌≡◌, false, List, replicate}
use Rattle.entry.specs.Entry.{Decl}
use Rattle.calls.specs.Entered.{Result}
use Rattle.calls.specs.Call.{published, received}
use Rattle.calls.specs.Search.{waiting}
use Rattle.calls.specs.Again.{returned, sent_of}

-- of publishing and receiving on bytes b
pub record Refuses (b : List ℕ) (r : Result) : Type 0 where
  pub book : r.book ≡ b
  pub gives : r.given.gives ≡ false
  pub message : r.given.message ≡ replicate 36 0
  pub delivers : r.given.delivers ≡ false
  pub declaration : r.given.declaration ≡ replicate 20 0
  pub helps : r.given.helps ≡ false

-- on any bytes, legal book or not
pub record Silent : Type 0 where
  pub published_silent : (b : List ℕ) (number : ℕ) (v : Decl) → ((published b number v).given.answer ≡ 0 → ⊥)
      → Refuses b (published b number v)
  pub received_silent : (b : List ℕ) (house : ℕ) (message : List ℕ) → ((received b house message).given.answer ≡ 0 → ⊥)
      → Refuses b (received b house message)
  -- the waiting search, a return and what was sent leave the book as it is, refused or not
  pub waiting_silent : (b : List ℕ) → ((waiting b).answer ≡ 0 → ⊥) → (waiting b).waits ≡ false
  pub returned_silent : (b : List ℕ) → ((returned b).answer ≡ 0 → ⊥) → (returned b).request ≡ replicate 11 0
  pub sent_silent : (b : List ℕ) (kind sender number : ℕ) → ((sent_of b kind sender number).answer ≡ 0 → ⊥)
      → ((sent_of b kind sender number).gives ≡ false) × ((sent_of b kind sender number).message ≡ replicate 36 0)
