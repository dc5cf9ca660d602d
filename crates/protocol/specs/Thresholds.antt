-- The inequalities that the proofs take from the thresholds, and the rules that the wall card gives.
use Rattle.std.specs.Prelude.{Bool, not, ◌&&◌, ℕ, ◌+◌, ◌≤◌, ◌<◌}
use Rattle.card.specs.Card.{quorum, amplify, deliver}
use Rattle.card.specs.Count.{count}
use Rattle.entry.specs.Entry.{Decl}
use Rattle.protocol.specs.Steps.{Rules}
use Rattle.protocol.specs.Run.{n, Wall, State, is_honest, is_wrong}

-- the rules for n houses of which t may be wrong and f down: delivery at 2t+f+1 READYs, the other counts as they are
unfoldable pub rules_of : (n t f : ℕ) → (Decl → Bool) → Rules
rules_of n t f ok = record { n = n; quorum = quorum n t; amplify = amplify t; deliver = deliver t f; ok = ok }

-- the wall of n houses of which t may be wrong and f down, with recovery limit d
unfoldable pub wall_of : (n t f d numbers : ℕ) → (Decl → Bool) → (honest : ℕ → Bool) → Wall
unfolding rules_of
wall_of n t f d numbers ok honest = record { rules = rules_of n t f ok; numbers = numbers; honest = honest; limit = d }

-- at most t are wrong
pub record Thresholds (R : Rules) (t : ℕ) : Type 0 where
  -- two quorums share more than t houses
  pub overlapping : R.n + t < R.quorum + R.quorum
  -- an honest house is in each quorum
  pub quorate : t < R.quorum
  -- the wrong houses alone make no READY, and no delivery
  pub amplified : t < R.amplify
  pub delivered : t < R.deliver

-- `out` houses are wrong or down, and `up` honest ones take part
pub record Enough (R : Rules) (out up : ℕ) : Type 0 where
  -- of the READYs that deliver, those of houses that take part make a READY at every house
  pub delivered : R.amplify + out ≤ R.deliver
  -- those that take part are a quorum, and enough to deliver
  pub echoed : R.quorum ≤ up
  pub vouched : R.deliver ≤ up

-- at most t of them wrong
abbrev pub AtMost : Wall → ℕ → Type 0
AtMost B t = count (is_wrong B) (n B) ≤ t

-- at most t are wrong
pub record Tolerated (B : Wall) (t : ℕ) : Type 0 where
  pub few : AtMost B t
  pub thresholds : Thresholds B.rules t

-- the honest houses that are down
abbrev pub downs : Wall → State → ℕ
downs B s = count (λ p. is_honest B p && s.power.down p) (n B)

-- those that pass `up` take part
abbrev pub TakePart : Wall → (ℕ → Bool) → Type 0
TakePart B up = Enough B.rules (count (λ p. not (up p)) (n B)) (count up (n B))
