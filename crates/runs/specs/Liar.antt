-- One run at the bytes with a liar and d = 1: four houses, house 0 publishing, house 1 down when the SEND comes and back later, house 3 a
-- liar that is heard and asks for help twice.
use Rattle.std.specs.Prelude.{ℕ, ◌≤◌, ◌≡◌, cond, List, [], ◌∷◌, ◌++◌, eqb, ltb}
use Rattle.std.proofs.Math.Option.{Option, some}
use Rattle.message.specs.Message.{request_wire}
use Rattle.meaning.specs.Layout.{echo_slot}
use Rattle.meaning.specs.Book.{slot_in, helped_of}
use Rattle.season.specs.Run.{Houses, State, Step, publish, consume, wrong, crash, comeback, help, start, run, Open}
use Rattle.season.specs.Run.{Drained, Limited, downs}
use Rattle.season.specs.Claims.{Few}
use Rattle.runs.specs.Sample.{sample, lot, lie, says, consume_from}
use Rattle.runs.specs.Counts.{Counts, counts, drained}

-- n = 4, f = 0, d = 1, houses 0 to 2 honest
unfoldable pub houses : Houses
unfolding sample
houses = sample 4 0 1 (λ p. ltb p 3)

-- House 1 is down as the SEND and an ECHO come. The liar sends house 2 an ECHO of the lie and asks house 0 twice: it is helped once.
-- House 1 returns and is helped; the ECHO of house 2 comes to it twice.
unfoldable pub before : List Step
unfolding request_wire
before =
    crash 1 ∷ publish 0 0 lot ∷ consume 0 ∷ consume 1 ∷ consume 2 ∷ consume 5
    ∷ wrong 3 2 (says 2 lie) ∷ wrong 3 0 (request_wire 2026) ∷ wrong 3 0 (request_wire 2026) ∷ comeback 1 ∷ []

unfoldable pub steps : List Step
unfolding before consume_from
steps = before ++ (help 0 ∷ help 1 ∷ help 2 ∷ consume_from 4 29)

unfoldable pub end : State
unfolding houses steps
end = run houses steps (start houses)

-- the same, where the requests do not come
unfoldable pub unasked : List Step
unfolding before consume_from
unasked = before ++ consume_from 4 29

unfoldable pub unhelped : State
unfolding houses unasked
unhelped = run houses unasked (start houses)

abbrev pub delivered : State → List (List (List ℕ))
delivered s = s.gave.deliveries 0 0 0 ∷ s.gave.deliveries 1 0 0 ∷ s.gave.deliveries 2 0 0 ∷ []

-- what is read off a state
pub record Seen : Type 0 where
  -- at houses 0, 1 and 2; house 1 was down
  pub deliveries : List (List (List ℕ))
  pub counts : Counts
  -- the liar's ECHO in house 2's book
  pub heard : Option (List ℕ)
  -- how often house 0 helped the liar, and house 1
  pub liar : ℕ
  pub back : ℕ

unfoldable pub seen : State → Seen
unfolding houses
seen s =
    record {
      deliveries = delivered s;
      counts = counts houses s;
      heard = slot_in (s.gave.books 2) 0 0 (echo_slot 3);
      liar = helped_of (s.gave.books 0) 3;
      back = helped_of (s.gave.books 0) 1;
    }

-- 4 of the SEND, 4 of each of three ECHOes and three READYs, 2 to the liar that asked, 3 to the house that returned
abbrev pub met : Seen
met =
    record {
      deliveries = (lot ∷ []) ∷ (lot ∷ []) ∷ (lot ∷ []) ∷ [];
      counts = drained 33 0 (λ r. cond (eqb r 1) 1 0);
      heard = some lie;
      liar = 1;
      back = 1;
    }

-- the premises of the claims are met, and it is the help that brings the delivery
pub record Met : Type 0 where
  pub computed : seen end ≡ met
  pub opened : Open houses
  pub few : Few houses
  pub limited : Limited houses end
  pub low : downs houses end ≤ houses.down
  pub drained : Drained houses 0 0 end
  pub alone : delivered unhelped ≡ [] ∷ [] ∷ [] ∷ []
