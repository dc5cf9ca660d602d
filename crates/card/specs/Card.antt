-- Numbers on the wall: how many houses there may be, the tolerated t, the echo quorum, and the counts that the steps compare with.
use Rattle.std.specs.Prelude.{ℕ, ◌+◌, ◌*◌, ◌-◌, ◌/◌, ◌≤◌, ◌<◌, Bool, ◌&&◌, leb, ltb}
use Rattle.card.specs.declared.Column.{Column}
use Rattle.card.specs.declared.Counts.{Counts}

-- houses n: 1 to 31
unfoldable pub largest : ℕ
largest = 31

unfoldable pub houses_ok : ℕ → Bool
unfolding largest
houses_ok n = leb 1 n && leb n largest

-- t is (n-1)/3 rounded down
unfoldable pub tolerated : ℕ → ℕ
tolerated n = (n - 1) / 3

-- a half, rounded up
abbrev pub half_up : ℕ → ℕ
half_up m = (m + 1) / 2

-- the quorum is (n+t+1)/2 rounded up
unfoldable pub quorum : ℕ → ℕ → ℕ
quorum n t = half_up (n + t + 1)

-- the card's column for n houses
unfoldable pub column_of : ℕ → Column
unfolding tolerated quorum
column_of n = record { t = tolerated n; quorum = quorum n (tolerated n) }

-- READYs that make a READY: at least t+1
unfoldable pub amplify : ℕ → ℕ
amplify t = t + 1

-- READYs that deliver: at least 2t+f+1
unfoldable pub deliver : (t f : ℕ) → ℕ
deliver t f = 2 * t + f + 1

-- the largest number of honest houses that may be down
unfoldable pub most_down : ℕ
most_down = 4

-- f: 0 to 4, and some t fits
unfoldable pub down_ok : (n f : ℕ) → Bool
unfolding most_down
down_ok n f = leb f most_down && ltb (2 * f) n

-- t is the largest with n > 3t + 2f
pub record Largest (n f t : ℕ) : Type 0 where
  pub fits : 3 * t + 2 * f < n
  pub most : (u : ℕ) → 3 * u + 2 * f < n → u ≤ t

-- the card's t for n - 2f houses, which is the largest that fits (Claims)
unfoldable pub fitting : (n f : ℕ) → ℕ
unfolding tolerated
fitting n f = tolerated (n - 2 * f)

-- the counts for n houses of which f may be down
unfoldable pub counts_of : (n f : ℕ) → Counts
unfolding fitting quorum amplify deliver
counts_of n f =
    record {
      t = fitting n f;
      quorum = quorum n (fitting n f);
      amplify = amplify (fitting n f);
      deliver = deliver (fitting n f) f;
    }
