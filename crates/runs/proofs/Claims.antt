-- What the four computed runs show, proved.
use Rattle.runs.specs.Claims.{Claims}
use Rattle.runs.proofs.PowerCut as power_cut
use Rattle.runs.proofs.Liar as liar
use Rattle.runs.proofs.Plain as plain
use Rattle.runs.proofs.Split as split

pub claims : Claims
claims =
    record {
      power_cut_met = power_cut.example;
      power_cut_everywhere = power_cut.everywhere;
      liar_met = liar.liar;
      plain_met = plain.plain;
      plain_cost = plain.cost_is;
      plain_readies = plain.readies_are;
      split_met = split.split;
      split_everywhere = split.followed;
    }
