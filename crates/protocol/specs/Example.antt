-- One run with f = 1 and d = 1: six houses, house 0 publishing, house 1 down when the SEND comes and back later, house 4 down at the end,
-- house 5 a liar that asks for help twice.
use Rattle.std.specs.Prelude.{◌≡◌, true, List, [], ◌∷◌, ◌++◌, ℕ, zero, suc, ◌+◌, ◌≤◌, ltb}
use Rattle.std.proofs.Math.Option.{none, some}
use Rattle.entry.specs.Entry.{Decl, ECHO, READY, Entry}
use Rattle.protocol.specs.Run.{Wall, State, Step, publish, consume, wrong, crash, comeback, help, plead, start, run, copies, Drained}
use Rattle.protocol.specs.Run.{Limited}
use Rattle.protocol.specs.Thresholds.{wall_of, AtMost, downs}
use Rattle.protocol.specs.Claims.{Delivered, Published}

-- n = 6, t = 1, f = 1, d = 1, one entry number, houses 0 to 4 honest
unfoldable pub wall : Wall
unfolding wall_of
wall = wall_of 6 1 1 1 1 (λ v. true) (λ p. ltb p 5)

abbrev pub lot : Decl
lot = 7 ∷ []

abbrev pub lie : Decl
lie = 8 ∷ []

-- the copies from the first on, each consumed in its turn
unfoldable pub consume_from : (first count : ℕ) → List Step
consume_from i zero = []
consume_from i (suc k) = consume i ∷ consume_from (suc i) k

-- House 1 is down as the SEND and two ECHOes come. It returns with nothing to send again, and asks all; the requests to houses 0, 2, 3
-- and itself are consumed, that to house 4 while it is down. The liar lies to house 2 and asks house 0 for help twice.
unfoldable pub before : List Step
unfolding consume_from
before =
    crash 1 ∷ publish 0 0 lot ∷ consume_from 0 6 ++ (consume_from 6 12
    ++ (wrong 5 2 ECHO 0 0 lie ∷ wrong 5 2 READY 0 0 lie ∷ plead 5 0 ∷ plead 5 0 ∷ crash 4 ∷ comeback 1
    ∷ help 0 ∷ help 1 ∷ help 2 ∷ help 3 ∷ help 4 ∷ []))

unfoldable pub middle : State
unfolding wall before
middle = run wall before start

-- then every copy comes
unfoldable pub steps : List Step
unfolding before consume_from
steps = before ++ consume_from 18 48

unfoldable pub end : State
unfolding wall steps
end = run wall steps start

abbrev pub entry_at : ℕ → Entry
entry_at r = end.gave.books r 0 0

-- the premises of the claims are met, by a run in which houses crash and the liar is heard and helped
pub record Met : Type 0 where
  pub few : AtMost wall 1
  pub limited : Limited wall end.power
  pub low : downs wall end ≤ 1
  pub published : Published wall 0 0 end lot
  pub drained : Drained wall 0 0 end
  -- 6 of the SEND, 6 of each of five ECHOes and four READYs, 2 to the liar that asked, 4 to the house that returned
  pub cost : copies 0 0 end ≡ 66
  pub delivered : Delivered wall 0 0 end 2 lot
  -- house 1 heard the SEND after it returned
  pub back : (entry_at 1).send ≡ some lot
  -- the liar's first, and no more
  pub forged : (entry_at 2).ready 5 ≡ some lie
  pub once : end.power.helped 0 5 ≡ 1
  -- house 4 is down with what it heard, and delivered nothing
  pub down : end.power.down 4 ≡ true
  pub nothing : (entry_at 4).delivered ≡ none
