-- The contracts that `calls` settles are those of the source, as Rattle reads them.
use mathlib.Core.Path.{◌≡◌}
use contract.Lifetimes.{Lfts}
use borrow.Fn.World.{ArgsD, ResD}
use borrow.Fn.Kinds.{ended_of}
use denote.Triple.Clauses.{AtExit}
use Rattle.calls.proofs.Claims.{claims}
use Rattle.waiting.specs.contracts.earliest_waiting
use Rattle.waiting.proofs.earliest_waiting.Reads as waiting_reads
use Rattle.waiting.proofs.earliest_waiting.Kinds as waiting_kinds

pub waiting_settled : (κs : Lfts 1) (a : ArgsD earliest_waiting.signature κs) (r r' : ResD earliest_waiting.signature κs)
    (s s' : AtExit (ended_of 1 waiting_kinds.ps waiting_kinds.r) κs) → waiting_reads.Post κs a r s → waiting_reads.Post κs a r' s' → r ≡ r'
waiting_settled κs a r r' s s' p q = claims.settled.waiting_settled _ r r' p q
