-- Two of the computed runs are alike: in `plain` the liar sends two declarations and forges a READY; in `liar` d is 1, house 1 crashes and
-- returns, and the liar asks for help. The honest houses deliver the lot in both, and so what is said of such runs is said of something.
use Rattle.std.specs.Prelude.{◌≡◌, ℕ, T}
use Rattle.season.specs.Run.{is_honest}
use Rattle.season.specs.Claims.{Delivered, Published}
use Rattle.runs.specs.Sample.{lot}
use Rattle.runs.specs.Plain as plain
use Rattle.runs.specs.Liar as liar
use Rattle.liar.specs.Unmoved.{Run, end, Under, SameHonest, Alike}

abbrev pub first : Run
first = record { houses = plain.houses; steps = plain.steps }

abbrev pub second : Run
second = record { houses = liar.houses; steps = liar.steps }

pub record Twins : Type 0 where
  pub first_under : Under first
  pub second_under : Under second
  pub no_f_first : first.houses.down ≡ 0
  pub no_f_second : second.houses.down ≡ 0
  pub same_honest : SameHonest first second
  pub alike : Alike first second 0 0
  pub published : Published first.houses 0 0 (end first) lot
  pub delivered : (r : ℕ) → T (is_honest first.houses r) → Delivered first.houses 0 0 (end first) r lot
