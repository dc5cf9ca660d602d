-- The contract that `calls` settles is that of the source, as Rattle reads it.
use mathlib.Core.Path.{◌≡◌}
use contract.Lifetimes.{Lfts}
use borrow.Fn.World.{ArgsD, ResD}
use borrow.Fn.Kinds.{ended_of}
use denote.Triple.Clauses.{AtExit}
use Rattle.calls.proofs.Claims.{claims}
use Rattle.publish.specs.contracts.publish
use Rattle.publish.proofs.publish.Reads as publish_reads
use Rattle.publish.proofs.publish.Kinds as publish_kinds

pub publish_settled : (κs : Lfts 2) (a : ArgsD publish.signature κs) (r r' : ResD publish.signature κs)
    (s s' : AtExit (ended_of 2 publish_kinds.ps publish_kinds.r) κs) → publish_reads.Post κs a r s → publish_reads.Post κs a r' s'
    → (r ≡ r') × (s.0.now ≡ s'.0.now)
publish_settled κs a r r' s s' p q = claims.settled.publish_settled _ _ _ r r' _ _ p q
