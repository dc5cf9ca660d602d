-- When each answer of a call on an entry is given: where several apply, the first in the call's order. And an accepted call is its step.
use Rattle.std.specs.Prelude.{ℕ, ◌≤◌, ◌<◌, ◌≡◌, true, false, ◌⊎◌}
use Rattle.std.proofs.Math.Option.{none, some}
use Rattle.entry.specs.Entry.{Decl, Kind, heard}
use Rattle.protocol.specs.Steps.{Rules, refused, may, takes, publishes}
use Rattle.protocol.specs.Book.{Book, publishing, receiving, outcome}

-- Receiving: 4, 5, 6, then 7 or 13.
pub record ReceivingOrder (R : Rules) (S own p : ℕ) (k : Kind) (j c : ℕ) (v : Decl) (E : Book) : Type 0 where
  pub missing : (R.n ≤ j) ⊎ ((S ≤ c) ⊎ (R.n ≤ p)) → (outcome R S own (receiving p k j c v) E).answer ≡ 4
  pub not_plausible : j < R.n → c < S → p < R.n → R.ok v ≡ false → (outcome R S own (receiving p k j c v) E).answer ≡ 5
  pub not_sender : j < R.n → c < S → p < R.n → R.ok v ≡ true → may j k p ≡ false → (outcome R S own (receiving p k j c v) E).answer ≡ 6
  pub repeat : j < R.n → c < S → p < R.n → R.ok v ≡ true → may j k p ≡ true → heard k p (E j c) ≡ some v
      → outcome R S own (receiving p k j c v) E ≡ refused 7 (E j c)
  pub conflict : j < R.n → c < S → p < R.n → R.ok v ≡ true → may j k p ≡ true → (w : Decl) → heard k p (E j c) ≡ some w → (w ≡ v → ⊥)
      → outcome R S own (receiving p k j c v) E ≡ refused 13 (E j c)
  pub accepted : j < R.n → c < S → p < R.n → R.ok v ≡ true → may j k p ≡ true → heard k p (E j c) ≡ none
      → outcome R S own (receiving p k j c v) E ≡ takes R k p v (E j c)

-- Publishing: 4, 5, 8.
pub record PublishingOrder (R : Rules) (S own c : ℕ) (v : Decl) (E : Book) : Type 0 where
  pub missing : S ≤ c → (outcome R S own (publishing c v) E).answer ≡ 4
  pub not_plausible : c < S → R.ok v ≡ false → (outcome R S own (publishing c v) E).answer ≡ 5
  pub already : c < S → R.ok v ≡ true → (w : Decl) → (E own c).published ≡ some w → (outcome R S own (publishing c v) E).answer ≡ 8
  pub accepted : c < S → R.ok v ≡ true → (E own c).published ≡ none → outcome R S own (publishing c v) E ≡ publishes v (E own c)
