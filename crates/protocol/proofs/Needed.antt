-- The two runs, computed.
use mathlib.Core.Path.{refl}
use lib.Dec.{lit≤}
use Rattle.card.specs.Card.{quorum, amplify, deliver}
use Rattle.entry.specs.Entry.{same}
use Rattle.protocol.specs.Steps.{publishes, takes_send, takes_echo, takes_ready, recording, receive, publish}
use Rattle.protocol.specs.Book.{outcome, after}
use Rattle.protocol.specs.Run.{called, arrives, consumes, comes, help_answer, helps, asked, step, run}
use Rattle.protocol.specs.Thresholds.{rules_of, wall_of}
use Rattle.protocol.specs.Example.{consume_from}
use Rattle.protocol.specs.Needed.{three, late, gone, Needed}

pub needed : Needed
unfolding wall_of rules_of quorum amplify deliver three consume_from late gone run step arrives consumes comes help_answer helps asked
    called after outcome publish receive recording publishes takes_send takes_echo takes_ready same
needed =
    record {
      late_few = lit≤ tt;
      late_down = refl;
      late_drained = record { copies = refl; requests = refl };
      late_published = refl;
      late_delivered = refl;
      late_returned = refl;
      late_nothing = refl;
      gone_few = lit≤ tt;
      gone_down = refl;
      gone_returned = (refl, refl);
      gone_drained = record { copies = refl; requests = refl };
      gone_published = refl;
      gone_nothing = (refl, refl);
    }
