-- One run of four houses with a lying sender, d = 0: houses 0 to 2 honest, house 3 sending two declarations on each of its two entries. The
-- first entry stays undelivered; the second is delivered at all, at the house that heard the other declaration too.
use Rattle.std.specs.Prelude.{◌≡◌, List, [], ◌∷◌, ◌++◌, true, ℕ, ltb}
use Rattle.std.proofs.Math.Option.{Option, some}
use Rattle.entry.specs.Entry.{Decl, SEND, ECHO, READY}
use Rattle.protocol.specs.Run.{Wall, State, Step, wrong, start, run, copies, readies, Drained, Limited}
use Rattle.protocol.specs.Thresholds.{wall_of, AtMost, downs}
use Rattle.protocol.specs.Example.{lot, lie, consume_from}

-- n = 4, t = 1, f = 0, d = 0, two entry numbers, houses 0 to 2 honest
unfoldable pub four : Wall
unfolding wall_of
four = wall_of 4 1 0 0 2 (λ v. true) (λ p. ltb p 3)

-- two SENDs of the lot and one of the lie
abbrev split : ℕ → List Step
split c = wrong 3 0 SEND 3 c lot ∷ wrong 3 1 SEND 3 c lot ∷ wrong 3 2 SEND 3 c lie ∷ []

-- On its first entry the liar sends all an ECHO of the lie, so that each house has two of both, short of three; house 0 a READY of the lot,
-- and house 2 one of the lie. On its second it sends house 0 an ECHO of the lot, house 1 a READY of it, and house 2 both of the lie. Every
-- copy comes.
unfoldable pub steps : List Step
unfolding consume_from
steps =
    split 0 ++ (wrong 3 0 ECHO 3 0 lie ∷ wrong 3 1 ECHO 3 0 lie ∷ wrong 3 2 ECHO 3 0 lie ∷ wrong 3 0 READY 3 0 lot
    ∷ wrong 3 2 READY 3 0 lie ∷ consume_from 0 12)
    ++ (split 1 ++ (wrong 3 0 ECHO 3 1 lot ∷ wrong 3 2 ECHO 3 1 lie ∷ wrong 3 1 READY 3 1 lot ∷ wrong 3 2 READY 3 1 lie
    ∷ consume_from 12 24))

unfoldable pub end : State
unfolding four steps
end = run four steps start

-- at houses 0, 1 and 2, on the liar's entry
abbrev pub delivered : ℕ → List (List Decl)
delivered c = end.gave.deliveries 0 3 c ∷ end.gave.deliveries 1 3 c ∷ end.gave.deliveries 2 3 c ∷ []

-- the SENDs that houses 0, 1 and 2 heard
abbrev pub heard : ℕ → List (Option Decl)
heard c = (end.gave.books 0 3 c).send ∷ (end.gave.books 1 3 c).send ∷ (end.gave.books 2 3 c).send ∷ []

-- the premises of the claims are met
pub record Split : Type 0 where
  pub few : AtMost four 1
  pub limited : Limited four end.power
  pub high : downs four end ≡ 0
  -- the first entry: two ECHOes of each, no READY, no delivery
  pub first_heard : heard 0 ≡ some lot ∷ some lot ∷ some lie ∷ []
  pub first_drained : Drained four 3 0 end
  pub first_cost : (copies 3 0 end ≡ 12) × (readies 3 0 end ≡ 0)
  pub nowhere : delivered 0 ≡ [] ∷ [] ∷ [] ∷ []
  -- the second: one declaration at all three
  pub second_heard : heard 1 ≡ some lot ∷ some lot ∷ some lie ∷ []
  pub second_drained : Drained four 3 1 end
  pub second_cost : (copies 3 1 end ≡ 24) × (readies 3 1 end ≡ 12)
  pub everywhere : delivered 1 ≡ (lot ∷ []) ∷ (lot ∷ []) ∷ (lot ∷ []) ∷ []
