-- One run at the bytes with f = 1 and d = 1: three honest houses, one number, house 0 publishing, house 2 down when the SEND comes and
-- back later, house 1 down at the end; and bytes under a number not below n, a request among them.
use Rattle.std.specs.Prelude.{ℕ, ◌≤◌, ◌≡◌, true, cond, List, [], ◌∷◌, eqb}
use Rattle.message.specs.Message.{request_wire}
use Rattle.meaning.specs.Book.{helped_of}
use Rattle.season.specs.Run.{Houses, Open, State, Step, publish, consume, wrong, crash, comeback, help, start, run}
use Rattle.season.specs.Run.{Drained, Limited, downs}
use Rattle.season.specs.Claims.{Few, Delivered, Published}
use Rattle.runs.specs.Sample.{sample, lot, consume_from}
use Rattle.runs.specs.Counts.{Counts, counts, drained}

-- n = 3, f = 1, d = 1, all honest
unfoldable pub houses : Houses
unfolding sample
houses = sample 3 1 1 (λ p. true)

-- House 2 is down as the SEND and an ECHO come. It returns with nothing to send again, and asks all: house 0 sends it its SEND and its
-- ECHO again, house 1 is down when the request comes, and house 2 itself has sent nothing. Then every copy comes.
unfoldable pub steps : List Step
unfolding consume_from request_wire
steps =
    crash 2 ∷ publish 0 0 lot ∷ consume 0 ∷ consume 1 ∷ consume 2 ∷ consume 5 ∷ comeback 2 ∷ wrong 9 0 (request_wire 2026)
    ∷ wrong 9 2 (1 ∷ 0 ∷ []) ∷ help 0 ∷ crash 1 ∷ help 1 ∷ help 2 ∷ consume_from 3 17

unfoldable pub end : State
unfolding houses steps
end = run houses steps (start houses)

-- what is read off a state
pub record Seen : Type 0 where
  pub publications : List (List ℕ)
  -- at house 2, which was down, and at house 1, which is
  pub deliveries : List (List ℕ)
  pub nothing : List (List ℕ)
  pub counts : Counts
  -- how often house 0 helped house 2
  pub helped : ℕ

unfoldable pub seen : State → Seen
unfolding houses
seen s =
    record {
      publications = s.gave.publications 0 0 0;
      deliveries = s.gave.deliveries 2 0 0;
      nothing = s.gave.deliveries 1 0 0;
      counts = counts houses s;
      helped = helped_of (s.gave.books 0) 2;
    }

-- 3 of the SEND, 3 of each of three ECHOes and two READYs, 2 to the house that returned
abbrev pub met : Seen
met =
    record {
      publications = lot ∷ [];
      deliveries = lot ∷ [];
      nothing = [];
      counts = drained 20 1 (λ r. cond (eqb r 2) 1 0);
      helped = 1;
    }

-- the premises of the claims are met, by a run in which houses crash and one returns
pub record Met : Type 0 where
  pub computed : seen end ≡ met
  pub opened : Open houses
  pub few : Few houses
  pub limited : Limited houses end
  pub low : downs houses end ≤ houses.down
  pub published : Published houses 0 0 end lot
  pub drained : Drained houses 0 0 end
  pub delivered : Delivered houses 0 0 end 2 lot
