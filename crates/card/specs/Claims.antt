-- What this crate promises, in document 01's order.
use Rattle.std.specs.Prelude.{ℕ, ◌+◌, ◌*◌, ◌-◌, ◌≤◌, ◌<◌, ◌≡◌, Bool, true, not, ◌&&◌, T}
use Rattle.card.specs.Card.{houses_ok, down_ok, fitting, Largest, quorum, amplify, deliver}
use Rattle.card.specs.Count.{count}

pub record Claims : Type 0 where
  -- The wall card is read at n - 2f, which has a column,
  pub rest_houses : (n f : ℕ) → houses_ok n ≡ true → down_ok n f ≡ true → houses_ok (n - 2 * f) ≡ true
  -- and its quorum raised by f.
  pub quorum_down : (n t f : ℕ) → 2 * f < n → quorum n t ≡ quorum (n - 2 * f) t + f
  -- t is the largest with n > 3t + 2f.
  pub fitting_largest : (n f : ℕ) → 2 * f < n → Largest n f (fitting n f)
  -- n - t - f houses are a quorum and enough to deliver, n - 2t are enough for a READY.
  pub rest_quorum : (n t f : ℕ) → 3 * t + 2 * f < n → quorum n t ≤ n - t - f
  pub rest_deliver : (n t f : ℕ) → 3 * t + 2 * f < n → deliver t f ≤ n - t - f
  pub rest_amplify : (n t f : ℕ) → 3 * t + 2 * f < n → amplify t ≤ n - 2 * t
  -- Two quorums of n houses share an honest one when at most t are wrong, for all n and t.
  pub overlap : (n t : ℕ) (wrong P Q : ℕ → Bool) → count wrong n ≤ t → quorum n t ≤ count P n → quorum n t ≤ count Q n
      → (i : ℕ) × (i < n) × T (P i && Q i) × T (not (wrong i))
