-- That t can't be raised: a run at the bytes of four houses, two of them wrong, in which the two honest ones deliver different declarations
-- on one entry. Its sender is honest, so that one house delivers what the sender never published.
use Rattle.std.specs.Prelude.{ℕ, suc, ◌≤◌, ◌<◌, ◌≡◌, Bool, List, [], ◌∷◌, T, ltb}
use Rattle.card.specs.Card.{fitting}
use Rattle.card.specs.Count.{count}
use Rattle.season.specs.Run.{Houses, is_honest, is_wrong, Open, State, Step, publish, consume, wrong, start, run}
use Rattle.season.specs.Run.{consumed_between, Drained, Limited, downs}
use Rattle.season.specs.Claims.{Few, Delivered, Published, Agreed, Complete, Deliverable, Exact}
use Rattle.runs.specs.Sample.{sample, lot, lie, says}
use Rattle.runs.specs.Counts.{Counts, counts, drained}

-- houses 0 and 1 are honest
abbrev pub honest : ℕ → Bool
honest p = ltb p 2

-- n = 4, f = 0, d = 0
unfoldable pub houses : Houses
unfolding sample
houses = sample 4 0 0 honest

-- House 0 publishes the lot. Both liars send it a READY of the lot, and two make it give its own; its SEND, READY and ECHO come to it. Both
-- send house 1 a READY of the lie; its own READY of it comes, then house 0's SEND and its own ECHO. Then the copies that the two sent each
-- other come.
unfoldable pub steps : List Step
steps =
    publish 0 0 lot ∷ wrong 2 0 (says 3 lot) ∷ wrong 3 0 (says 3 lot) ∷ consume 0 ∷ consume 4 ∷ consume 8
    ∷ wrong 2 1 (says 3 lie) ∷ wrong 3 1 (says 3 lie) ∷ consume 13 ∷ consume 1 ∷ consume 17
    ∷ consume 5 ∷ consume 9 ∷ consume 12 ∷ consume 16 ∷ []

unfoldable pub end : State
unfolding houses steps
end = run houses steps (start houses)

-- what is read off a state
pub record Seen : Type 0 where
  pub publications : List (List ℕ)
  -- at house 0, and at house 1
  pub first : List (List ℕ)
  pub second : List (List ℕ)
  -- between honest houses
  pub consumed : ℕ
  pub counts : Counts

unfoldable pub seen : State → Seen
unfolding houses
seen s =
    record {
      publications = s.gave.publications 0 0 0;
      first = s.gave.deliveries 0 0 0;
      second = s.gave.deliveries 1 0 0;
      consumed = consumed_between houses 0 0 s;
      counts = counts houses s;
    }

-- 4 of the SEND, 4 of each of two ECHOes and two READYs
abbrev pub met : Seen
met =
    record {
      publications = lot ∷ [];
      first = lot ∷ [];
      second = lie ∷ [];
      consumed = 10;
      counts = drained 20 0 (λ r. 0);
    }

pub record Raised : Type 0 where
  pub computed : seen end ≡ met
  -- all that the claims ask for is met, but that at most t are wrong: one more is
  pub opened : Open houses
  pub one_more : count (is_wrong houses) houses.n ≡ suc (fitting houses.n houses.down)
  pub still : houses.limit ≡ 0
  pub limited : Limited houses end
  pub high : downs houses end ≡ 0
  pub drained : Drained houses 0 0 end
  -- the sender and the other house are honest; each delivers, and not the same
  pub first_honest : T (is_honest houses 0)
  pub second_honest : T (is_honest houses 1)
  pub published : Published houses 0 0 end lot
  pub first : Delivered houses 0 0 end 0 lot
  pub second : Delivered houses 0 0 end 1 lie
  pub different : lot ≡ lie → ⊥
  -- and so it stays, whatever comes
  pub first_stays : (next : List Step) → Delivered houses 0 0 (run houses next end) 0 lot
  pub second_stays : (next : List Step) → Delivered houses 0 0 (run houses next end) 1 lie
  -- so each claim that asks for at most t wrong is false of it
  pub not_agreed : Agreed houses 0 0 end → ⊥
  pub not_complete : Complete houses 0 0 end → ⊥
  pub not_deliverable : Deliverable houses 0 0 end lot → ⊥
  pub not_exact : Exact houses 0 0 end → ⊥

-- ---- the premise can't be weakened by one

-- at most t + 1 of them wrong
abbrev pub OneMore : Houses → Type 0
OneMore H = count (is_wrong H) H.n ≤ suc (fitting H.n H.down)

-- agreement in every run and on every entry, where the houses meet a premise
abbrev pub AgreedWhere : (Houses → Type 0) → Type 0
AgreedWhere premise =
    (H : Houses) → Open H → (l : List Step) (j c : ℕ) → j < H.n → c < H.numbers → premise H → Agreed H j c (run H l (start H))

-- with at most t it is claimed, and with at most t + 1 it is false
pub record NoMore : Type 0 where
  pub at_most_t : AgreedWhere Few
  pub one_more : AgreedWhere OneMore → ⊥
