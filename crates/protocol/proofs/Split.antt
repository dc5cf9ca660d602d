-- The run with a lying sender, computed; and what the claims say of it: where one honest house delivered, all did.
use mathlib.Core.Path.{refl, ap}
use mathlib.Core.List.{List, [], ◌∷◌}
use mathlib.Core.Bool.{true}
use lib.Dec.{ltb, lit<, lit≤}
use Rattle.card.specs.Card.{quorum, amplify, deliver}
use Rattle.entry.specs.Entry.{Decl, same}
use Rattle.protocol.specs.Steps.{publishes, takes_send, takes_echo, takes_ready, recording, receive, publish}
use Rattle.protocol.specs.Book.{outcome, after}
use Rattle.protocol.specs.Run.{called, arrives, consumes, comes, help_answer, helps, asked, step, run}
use Rattle.protocol.specs.Thresholds.{rules_of, wall_of}
use Rattle.protocol.specs.Claims.{Everywhere}
use Rattle.protocol.specs.Example.{lot, consume_from}
use Rattle.protocol.specs.Split.{four, steps, end, Split}
use Rattle.protocol.proofs.Season.{season, carded, parted}

abbrev first : List (List Decl) → List Decl
first [] = []
first (x ∷ l) = x

pub split : Split
unfolding wall_of rules_of quorum amplify deliver four consume_from steps end run step arrives consumes comes help_answer helps
    asked called after outcome publish receive recording publishes takes_send takes_echo takes_ready same
split =
    record {
      few = lit≤ tt;
      limited = λ r g. lit≤ tt;
      high = refl;
      first_heard = refl;
      first_drained = record { copies = refl; requests = refl };
      first_cost = (refl, refl);
      nowhere = refl;
      second_heard = refl;
      second_drained = record { copies = refl; requests = refl };
      second_cost = (refl, refl);
      everywhere = refl;
    }

-- house 2 heard the lie and delivers the lot, by the claims too: house 0 did
pub followed : Everywhere four 3 1 end lot
unfolding four end
followed =
    ((season four 1 steps 3 1).complete (carded 4 1 0 0 2 _ _ (lit< tt) split.few) split.limited
    (parted 4 1 0 0 2 (λ v. true) (λ p. ltb p 3) (lit< tt) split.few end (rw split.high (lit≤ tt))) split.second_drained
    ).all 0 lot (ap first split.everywhere)
