-- One run at the bytes with a lying sender, d = 0: four houses, house 0 sending two declarations on its entry and vouching for both, the
-- others honest. One of the two is delivered at all, at the house that heard the other too.
use Rattle.std.specs.Prelude.{ℕ, ◌≤◌, ◌≡◌, List, [], ◌∷◌, ltb}
use Rattle.std.proofs.Math.Option.{Option, some}
use Rattle.meaning.specs.Layout.{send_slot}
use Rattle.meaning.specs.Book.{slot_in}
use Rattle.season.specs.Run.{Houses, Open, State, Step, wrong, start, run, readies, Drained, Limited, downs}
use Rattle.season.specs.Claims.{Few, Delivered}
use Rattle.runs.specs.Sample.{sample, lot, lie, says, consume_from}
use Rattle.runs.specs.Counts.{Counts, counts, drained}

-- n = 4, f = 0, d = 0, houses 1 to 3 honest
unfoldable pub houses : Houses
unfolding sample
houses = sample 4 0 0 (λ p. ltb 0 p)

-- Houses 1 and 2 hear a SEND of the lot, house 3 one of the lie. The liar sends house 1 an ECHO of the lot, house 2 a READY of it, and
-- house 3 both of the lie. Every copy comes.
unfoldable pub steps : List Step
unfolding consume_from
steps =
    wrong 0 1 (says 1 lot) ∷ wrong 0 2 (says 1 lot) ∷ wrong 0 3 (says 1 lie) ∷ wrong 0 1 (says 2 lot) ∷ wrong 0 2 (says 3 lot)
    ∷ wrong 0 3 (says 2 lie) ∷ wrong 0 3 (says 3 lie) ∷ consume_from 0 24

unfoldable pub end : State
unfolding houses steps
end = run houses steps (start houses)

-- what is read off a state
pub record Seen : Type 0 where
  -- the SENDs that houses 1, 2 and 3 heard, and what they delivered
  pub heard : List (Option (List ℕ))
  pub deliveries : List (List (List ℕ))
  pub readies : ℕ
  pub counts : Counts

unfoldable pub seen : State → Seen
unfolding houses
seen s =
    record {
      heard = slot_in (s.gave.books 1) 0 0 send_slot ∷ slot_in (s.gave.books 2) 0 0 send_slot
          ∷ slot_in (s.gave.books 3) 0 0 send_slot ∷ [];
      deliveries = s.gave.deliveries 1 0 0 ∷ s.gave.deliveries 2 0 0 ∷ s.gave.deliveries 3 0 0 ∷ [];
      readies = readies 0 0 s;
      counts = counts houses s;
    }

-- 4 of each of three ECHOes and three READYs
abbrev pub met : Seen
met =
    record {
      heard = some lot ∷ some lot ∷ some lie ∷ [];
      deliveries = (lot ∷ []) ∷ (lot ∷ []) ∷ (lot ∷ []) ∷ [];
      readies = 12;
      counts = drained 24 0 (λ r. 0);
    }

-- the premises of the claims are met
pub record Met : Type 0 where
  pub computed : seen end ≡ met
  pub opened : Open houses
  pub few : Few houses
  pub limited : Limited houses end
  pub low : downs houses end ≤ houses.down
  pub drained : Drained houses 0 0 end
  pub delivered : Delivered houses 0 0 end 1 lot
