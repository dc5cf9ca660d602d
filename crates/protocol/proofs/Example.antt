-- The run of six houses, computed: the premises of the claims can be met, and so what they claim comes of it.
use mathlib.Core.Path.{refl}
use mathlib.Core.Bool.{Bool, true, false, cond}
use Prim.Native.Nat.{◌≤◌}
use native.Mathlib.Omega.{arith}
use lib.Dec.{eqb, ltb, lit<, lit≤}
use Rattle.card.specs.Card.{quorum, amplify, deliver}
use Rattle.entry.specs.Entry.{same}
use Rattle.protocol.specs.Steps.{publishes, takes_send, takes_echo, takes_ready, recording, receive, publish}
use Rattle.protocol.specs.Book.{outcome, after}
use Rattle.protocol.specs.Run.{called, arrives, consumes, comes, help_answer, helps, asked, step, run, copies}
use Rattle.protocol.specs.Thresholds.{rules_of, wall_of}
use Rattle.protocol.specs.Claims.{Everywhere}
use Rattle.protocol.specs.Example.{wall, lot, consume_from, before, steps, end, Met}
use Rattle.protocol.proofs.Season.{season, carded, parted}

at_one : (b : Bool) → cond b 1 0 ≤ 1
at_one true = omega arith
at_one false = omega arith

pub example : Met
unfolding wall_of rules_of quorum amplify deliver wall consume_from before steps end run step arrives consumes comes help_answer helps
    asked called after outcome publish receive recording publishes takes_send takes_echo takes_ready same
example =
    record {
      few = lit≤ tt;
      limited = λ r g. at_one (eqb r 1);
      low = lit≤ tt;
      published = refl;
      drained = record { copies = refl; requests = refl };
      cost = refl;
      delivered = refl;
      back = refl;
      forged = refl;
      once = refl;
      down = refl;
      nothing = refl;
    }

pub everywhere : Everywhere wall 0 0 end lot
unfolding wall end
everywhere =
    ((season wall 1 steps 0 0).complete (carded 6 1 1 1 1 _ _ (lit< tt) example.few) example.limited
    (parted 6 1 1 1 1 (λ v. true) (λ p. ltb p 5) (lit< tt) example.few end example.low) example.drained
    ).all 2 lot example.delivered
