-- What the four computed runs show: each meets the premises of the season's claims, and this comes of them.
use Rattle.std.specs.Prelude.{◌≡◌}
use Rattle.season.specs.Run.{copies, readies}
use Rattle.season.specs.Claims.{Everywhere}
use Rattle.runs.specs.Sample.{lot}
use Rattle.runs.specs.PowerCut as power-cut
use Rattle.runs.specs.Liar as liar
use Rattle.runs.specs.Plain as plain
use Rattle.runs.specs.Split as split

pub record Claims : Type 0 where
  -- houses crash and one returns: what one house delivered, all that are up delivered
  pub power_cut_met : power-cut.Met
  pub power_cut_everywhere : Everywhere power-cut.houses 0 0 power-cut.end lot
  -- a liar is heard and helped once, and it is the help that brings the delivery
  pub liar_met : liar.Met
  -- d = 0 and none down: n + 2hn copies and hn READYs, h being 3
  pub plain_met : plain.Met
  pub plain_cost : copies 0 0 plain.end ≡ 28
  pub plain_readies : readies 0 0 plain.end ≡ 12
  -- a lying sender: what one house delivered, all delivered, the house that heard the other declaration too
  pub split_met : split.Met
  pub split_everywhere : Everywhere split.houses 0 0 split.end lot
