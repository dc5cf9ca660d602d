-- Two runs of three honest houses, f = 1, that show what the drained claims ask for: a house that returned once more than d times, and a
-- sender that is down at the end.
use Rattle.std.specs.Prelude.{◌≡◌, true, [], ◌∷◌, ◌++◌, ℕ}
use Rattle.protocol.specs.Run.{Wall, State, publish, consume, crash, comeback, help, start, run, Drained}
use Rattle.protocol.specs.Thresholds.{wall_of, AtMost, downs}
use Rattle.protocol.specs.Claims.{Delivered, Published}
use Rattle.protocol.specs.Example.{lot, consume_from}

-- n = 3, t = 0, f = 1, recovery limit d, all honest
unfoldable pub three : ℕ → Wall
unfolding wall_of
three d = wall_of 3 0 1 d 1 (λ v. true) (λ p. true)

-- House 1 is down while all copies come, returns once with d = 0, and is refused help.
unfoldable pub late : State
unfolding three consume_from
late = run (three 0) (crash 1 ∷ publish 0 0 lot ∷ consume_from 0 15 ++ (comeback 1 ∷ help 0 ∷ help 1 ∷ help 2 ∷ [])) start

-- The sender goes down for good after its publication; each other house is down when the SEND comes, and returns. d = 1.
unfoldable pub gone : State
unfolding three consume_from
gone =
    run (three 1) (publish 0 0 lot ∷ crash 0 ∷ crash 1 ∷ consume 1 ∷ comeback 1 ∷ crash 2 ∷ consume 2 ∷ comeback 2
    ∷ help 0 ∷ help 1 ∷ help 2 ∷ help 3 ∷ help 4 ∷ help 5 ∷ []) start

pub record Needed : Type 0 where
  -- all premises but that on returns are met: house 1 is up, and delivered nothing of what all others delivered
  pub late_few : AtMost (three 0) 0
  pub late_down : downs (three 0) late ≡ 0
  pub late_drained : Drained (three 0) 0 0 late
  pub late_published : Published (three 0) 0 0 late lot
  pub late_delivered : Delivered (three 0) 0 0 late 0 lot
  pub late_returned : late.power.returned 1 ≡ 1
  pub late_nothing : late.gave.deliveries 1 0 0 ≡ []
  -- all premises are met, but the sender is down: what it published is delivered nowhere
  pub gone_few : AtMost (three 1) 0
  pub gone_down : downs (three 1) gone ≡ 1
  pub gone_returned : (gone.power.returned 1 ≡ 1) × (gone.power.returned 2 ≡ 1)
  pub gone_drained : Drained (three 1) 0 0 gone
  pub gone_published : Published (three 1) 0 0 gone lot
  pub gone_nothing : (gone.gave.deliveries 1 0 0 ≡ []) × (gone.gave.deliveries 2 0 0 ≡ [])
