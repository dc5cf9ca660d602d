-- The two computed runs are alike; what they publish and deliver the claims of the season say.
use Prim.Native.Nat.{ℕ}
use mathlib.Core.Path.{refl, sym, ap, ◌∙◌}
use mathlib.Core.List.{List, [], ◌∷◌}
use lib.Dec.{lit<}
use native.Mathlib.Omega.{arith}
use Rattle.season.specs.Run.{Drained}
use Rattle.season.specs.Claims.{Published, Exact}
use Rattle.season.proofs.Season.{claims}
use Rattle.runs.specs.Sample.{sample, lot}
use Rattle.runs.specs.Plain as plain
use Rattle.runs.specs.Liar as liar
use Rattle.runs.proofs.Plain.{plain}
use Rattle.runs.proofs.Liar.{liar}
use Rattle.liar.specs.Unmoved.{end, Under}
use Rattle.liar.specs.Twins.{first, second, Twins}
use Rattle.liar.proofs.Unmoved.{up, equal}

first_under : Under first
unfolding plain.end
first_under =
    record { opened = (plain).opened; few = (plain).few; limited = (plain).limited; low = omega (arith, (plain).high) }

second_under : Under second
unfolding liar.end
second_under = record { opened = (liar).opened; few = (liar).few; limited = (liar).limited; low = (liar).low }

first_exact : Exact plain.houses 0 0 plain.end
unfolding plain.end plain.houses sample
first_exact =
    (claims plain.houses (plain).opened plain.steps 0 0 (lit< tt) (lit< tt)
    ).exact (plain).few (plain).still (plain).limited (plain).high

first_drained : Drained first.houses 0 0 (end first)
unfolding plain.end
first_drained = first_exact.drained (plain).consumed

second_drained : Drained second.houses 0 0 (end second)
unfolding liar.end
second_drained = (liar).drained

published : Published first.houses 0 0 (end first) lot
unfolding plain.end
published = (plain).published

abbrev head : List (List (List ℕ)) → List (List ℕ)
head [] = []
head (x ∷ l) = x

-- house 0 delivers the lot in the second run, and so published it there
second_published : Published second.houses 0 0 (end second) lot
unfolding liar.end liar.seen liar.houses sample
second_published =
    sym (equal second second_under 0 0 0 (lit< tt) second_drained (up liar.houses liar.end (liar).low 0 tt)
    (up liar.houses liar.end (liar).low 0 tt))
    ∙ ap (λ (x : liar.Seen). head x.deliveries) (liar).computed

pub twins : Twins
unfolding plain.houses liar.houses sample
twins =
    record {
      first_under = first_under;
      second_under = second_under;
      no_f_first = refl;
      no_f_second = refl;
      same_honest = λ p. refl;
      alike = record {
        first_number = lit< tt;
        second_number = lit< tt;
        published = published ∙ sym second_published;
        first_drained = first_drained;
        second_drained = second_drained;
      };
      published = published;
      delivered = λ r g. equal first first_under 0 0 r (lit< tt) first_drained (up plain.houses (end first) first_under.low 0 tt)
          (up plain.houses (end first) first_under.low r g) ∙ published;
    }
