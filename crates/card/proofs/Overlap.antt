-- The overlap of two quorums, once for all n and t, and what n > 3t + 2f gives the counts.
use mathlib.Core.Path.{◌≡◌}
use Prim.Native.Nat.{ℕ, ◌+◌, ◌*◌, ◌-◌, ◌≤◌, ◌<◌}
use mathlib.Core.Bool.{Bool, not, ◌&&◌}
use native.Mathlib.Omega.{arith}
use lib.Dec.{T}
use Rattle.card.specs.Card.{tolerated, Largest, fitting, quorum, amplify, deliver}
use Rattle.card.specs.Count.{count}
use Rattle.card.proofs.Counting.{count_and, count_find}

-- Two sets of at least q houses, more than half of n and t, share one that is not wrong when at most t are wrong.
pub share : (n t q : ℕ) (wrong P Q : ℕ → Bool) → n + t < q + q → count wrong n ≤ t → q ≤ count P n → q ≤ count Q n
    → (i : ℕ) × (i < n) × T (P i && Q i) × T (not (wrong i))
share n t q wrong P Q more w p r = count_find (λ i. P i && Q i) wrong n (omega (arith, count_and P Q n))

-- the quorum is such a number
pub quorum_more : (n t : ℕ) → n + t < quorum n t + quorum n t
unfolding quorum
quorum_more n t = omega arith

-- Two quorums of n houses share an honest one when at most t are wrong.
pub overlap : (n t : ℕ) (wrong P Q : ℕ → Bool) → count wrong n ≤ t → quorum n t ≤ count P n → quorum n t ≤ count Q n
    → (i : ℕ) × (i < n) × T (P i && Q i) × T (not (wrong i))
overlap n t wrong P Q = share n t (quorum n t) wrong P Q (quorum_more n t)

module _ (n t f : ℕ) (third : 3 * t + 2 * f < n) where
  -- n - t - f houses are a quorum, and enough to deliver
  pub rest_quorum : quorum n t ≤ n - t - f
  unfolding quorum
  rest_quorum = omega arith

  pub rest_deliver : deliver t f ≤ n - t - f
  unfolding deliver
  rest_deliver = omega arith

  -- n - 2t are enough for a READY
  pub rest_amplify : amplify t ≤ n - 2 * t
  unfolding amplify
  rest_amplify = omega arith

-- t fits, and no larger one does
pub fitting_largest : (n f : ℕ) → 2 * f < n → Largest n f (fitting n f)
unfolding fitting tolerated
fitting_largest n f h = record { fits = omega arith; most = λ u l. omega arith }

-- two houses more for each that may be down: the quorum grows by one
pub quorum_down : (n t f : ℕ) → 2 * f < n → quorum n t ≡ quorum (n - 2 * f) t + f
unfolding quorum
quorum_down n t f h = omega arith
