-- Receiving, answer by answer, from what the code found.
use Prim.Native.Nat.{ℕ}
use mathlib.Core.Path.{◌≡◌, ap}
use mathlib.Core.Bool.{false}
use mathlib.Core.List.{List}
use mathlib.Core.Option.{none}
use Rattle.meaning.specs.Legal.{legal}
use Rattle.calls.specs.declared.Outcome.{Outcome}
use Rattle.calls.specs.Entered.{result_of, handed}
use Rattle.calls.specs.Call.{received}

-- 1, 2, or past them
module _ (b : List ℕ) (p : ℕ) (message : List ℕ) where
  pub received_no_book : legal b ≡ false → (r : Outcome) → r ≡ handed 1 none none → result_of r b ≡ received b p message
  unfolding received
  received_no_book h r q = rw h (ap (λ (x : Outcome). result_of x b) q)
