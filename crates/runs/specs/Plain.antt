-- One run at the bytes with d = 0 and no house down, as in document 01: four houses, one number, house 0 honest and publishing, house 3 a
-- liar that sends two declarations, forges a READY and hands in bytes that are no message.
use Rattle.std.specs.Prelude.{ℕ, ◌≡◌, not, ◌&&◌, List, [], ◌∷◌, ltb}
use Rattle.std.proofs.Math.Option.{Option, some}
use Rattle.meaning.specs.Layout.{echo_slot, ready_slot}
use Rattle.meaning.specs.Book.{slot_in}
use Rattle.calls.specs.Call.{received}
use Rattle.season.specs.Run.{Houses, Open, State, Step, publish, consume, wrong, start, run, copies_of, between, is_between, Limited}
use Rattle.season.specs.Run.{downs}
use Rattle.season.specs.Claims.{Few, Delivered, Published}
use Rattle.runs.specs.Sample.{sample, lot, lie, says, consume_from}
use Rattle.runs.specs.Counts.{Counts, counts, drained}

-- n = 4, f = 0, d = 0, houses 0 to 2 honest
unfoldable pub houses : Houses
unfolding sample
houses = sample 4 0 0 (λ p. ltb p 3)

-- The liar sends house 1 a SEND on house 0's entry, house 2 an ECHO before the SEND is heard, and two bytes under a number not below n.
-- When house 1 has two ECHOes of the lot, the liar sends it an ECHO of the lie and then of the lot, and house 2 a READY of the lie. A READY
-- under an honest house's number, and a copy consumed again, are no steps of a run.
unfoldable pub steps : List Step
unfolding consume_from
steps =
    wrong 3 1 (says 1 lie) ∷ wrong 3 2 (says 2 lot) ∷ wrong 9 2 (1 ∷ 0 ∷ []) ∷ publish 0 0 lot
    ∷ consume 0 ∷ consume 1 ∷ consume 2 ∷ consume 5 ∷ consume 9 ∷ wrong 3 1 (says 2 lie) ∷ wrong 3 1 (says 2 lot)
    ∷ wrong 3 2 (says 3 lie) ∷ wrong 1 2 (says 3 lie) ∷ consume_from 0 28

unfoldable pub end : State
unfolding houses steps
end = run houses steps (start houses)

-- what is read off a state
pub record Seen : Type 0 where
  pub publications : List (List ℕ)
  -- at house 2
  pub deliveries : List (List ℕ)
  pub between : ℕ
  -- of these not consumed
  pub left : ℕ
  pub counts : Counts
  -- in house 1's book and in house 2's, the liar's ECHO; in house 2's its READY, and house 1's
  pub first_echo : Option (List ℕ)
  pub other_echo : Option (List ℕ)
  pub forged : Option (List ℕ)
  pub honest : Option (List ℕ)
  -- what house 1 answers to the liar's first ECHO once more, to its second, and to house 0's once more
  pub again : ℕ
  pub otherwise : ℕ
  pub carried : ℕ

unfoldable pub seen : State → Seen
unfolding houses
seen s =
    record {
      publications = s.gave.publications 0 0 0;
      deliveries = s.gave.deliveries 2 0 0;
      between = between houses 0 0 s;
      left = copies_of 0 0 (λ m. is_between houses m && not m.consumed) s;
      counts = counts houses s;
      first_echo = slot_in (s.gave.books 1) 0 0 (echo_slot 3);
      other_echo = slot_in (s.gave.books 2) 0 0 (echo_slot 3);
      forged = slot_in (s.gave.books 2) 0 0 (ready_slot 4 3);
      honest = slot_in (s.gave.books 2) 0 0 (ready_slot 4 1);
      again = (received (s.gave.books 1) 3 (says 2 lie)).given.answer;
      otherwise = (received (s.gave.books 1) 3 (says 2 lot)).given.answer;
      carried = (received (s.gave.books 1) 0 (says 2 lot)).given.answer;
    }

-- three honest, honest sender, 28 copies; the first ECHO that the liar sent house 1, and not its second, which is a conflict
abbrev pub met : Seen
met =
    record {
      publications = lot ∷ [];
      deliveries = lot ∷ [];
      between = 21;
      left = 0;
      counts = drained 28 0 (λ r. 0);
      first_echo = some lie;
      other_echo = some lot;
      forged = some lie;
      honest = some lot;
      again = 7;
      otherwise = 13;
      carried = 7;
    }

-- the premises of 01's exact counts are met, by a run in which the liar is heard
pub record Met : Type 0 where
  pub computed : seen end ≡ met
  pub opened : Open houses
  pub few : Few houses
  pub still : houses.limit ≡ 0
  pub limited : Limited houses end
  pub high : downs houses end ≡ 0
  pub published : Published houses 0 0 end lot
  pub consumed : copies_of 0 0 (λ m. is_between houses m && not m.consumed) end ≡ 0
  pub delivered : Delivered houses 0 0 end 2 lot
