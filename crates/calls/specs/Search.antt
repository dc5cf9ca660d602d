-- The earliest waiting entry.
use Rattle.std.specs.Prelude.{ℕ, zero, suc, ◌<◌, ◌≡◌, Bool, true, false, cond, ◌&&◌, List}
use Rattle.std.proofs.Math.Option.{Option, none, some}
use Rattle.entry.specs.Entry.{is_none, is_some}
use Rattle.meaning.specs.Book.{n_of, numbers_of, look}
use Rattle.meaning.specs.Legal.{legal}
use Rattle.calls.specs.declared.Waiting.{Waiting}

-- with a SEND heard and nothing delivered
unfoldable pub waits : List ℕ → (sender number : ℕ) → Bool
waits b j c = is_some (look b j c).send && is_none (look b j c).delivered

-- a number and a sender
pub record Place : Type 0 where
  pub number : ℕ
  pub sender : ℕ

abbrev pub or_else : Option Place → Option Place → Option Place
or_else (some x) other = some x
or_else none other = other

-- what f gives at the lowest number below m at which it gives something
unfoldable pub first_below : (ℕ → Option Place) → ℕ → Option Place
first_below f zero = none
first_below f (suc m) = or_else (first_below f m) (f m)

-- the entry of number c and sender j, if it waits
unfoldable pub waiting_at : List ℕ → (number sender : ℕ) → Option Place
unfolding waits
waiting_at b c j = cond (waits b j c) (some (record { number = c; sender = j })) none

-- lowest number first and then lowest sender
unfoldable pub earliest : List ℕ → Option Place
unfolding first_below waiting_at
earliest b = first_below (λ c. first_below (waiting_at b c) (n_of b)) (numbers_of b)

-- x waits, and no earlier entry does
pub record Earliest (b : List ℕ) (x : Place) : Type 0 where
  pub in_numbers : x.number < numbers_of b
  pub in_senders : x.sender < n_of b
  pub waiting : waits b x.sender x.number ≡ true
  pub lower_number : (j c : ℕ) → j < n_of b → c < x.number → waits b j c ≡ false
  pub lower_sender : (j : ℕ) → j < x.sender → waits b j x.number ≡ false

-- an entry, or a plain none
abbrev pub found : Option Place → Waiting
found (some x) = record { answer = 0; waits = true; number = x.number; sender = x.sender }
found none = record { answer = 0; waits = false; number = 0; sender = 0 }

-- the earliest waiting entry, or a plain none, or answer 1
unfoldable pub waiting : List ℕ → Waiting
unfolding earliest
waiting b = cond (legal b) (found (earliest b)) (record { answer = 1; waits = false; number = 0; sender = 0 })
