-- A sender and a number passed; the first entry that waits, or none.
use Rattle.std.proofs.Common.{rules, arith, refl}
use Rattle.waiting.proofs.Searching.{none_yet, sender_passed, number_passed, stops_at, stops_nowhere}
use Rattle.waiting.proofs.search.Goals as goal

pub search-init : goal.search-init
search-init c = (search rules, refl, none_yet _)

pub loop-sender-init : goal.loop-sender-init
loop-sender-init c = (search rules, search rules, none_yet _)

pub waits_at-requires : goal.waits_at-requires
waits_at-requires c =
    record {
      head = c.requires.0;
      sender = omega (arith, c.requires.1, c.loop-sender-test.true);
      number = omega (arith, c.requires.2, c.search-test.true);
    }

pub loop-sender-preserved : goal.loop-sender-preserved
loop-sender-preserved c = (search rules, search rules, search sender_passed)

pub search-preserved : goal.search-preserved
search-preserved c = (search rules, search rules, search number_passed)

pub returns-after-search : goal.returns-after-search
returns-after-search c = search stops_nowhere

pub returns-then-waits_at : goal.returns-then-waits_at
returns-then-waits_at c = search stops_at
