-- The contracts that `calls` settles are those of the source, as Rattle reads them.
use mathlib.Core.Path.{◌≡◌}
use contract.Lifetimes.{Lfts}
use borrow.Fn.World.{ArgsD, ResD}
use borrow.Fn.Kinds.{ended_of}
use denote.Triple.Clauses.{AtExit}
use Rattle.calls.proofs.Claims.{claims}
use Rattle.again.specs.contracts.come_back
use Rattle.again.proofs.come_back.Reads as return_reads
use Rattle.again.proofs.come_back.Kinds as return_kinds
use Rattle.again.specs.contracts.sent_on
use Rattle.again.proofs.sent_on.Reads as sent_reads
use Rattle.again.proofs.sent_on.Kinds as sent_kinds

pub return_settled : (κs : Lfts 1) (a : ArgsD come_back.signature κs) (r r' : ResD come_back.signature κs)
    (s s' : AtExit (ended_of 1 return_kinds.ps return_kinds.r) κs) → return_reads.Post κs a r s → return_reads.Post κs a r' s' → r ≡ r'
return_settled κs a r r' s s' p q = claims.settled.return_settled _ r r' p q

pub sent_settled : (κs : Lfts 1) (a : ArgsD sent_on.signature κs) (r r' : ResD sent_on.signature κs)
    (s s' : AtExit (ended_of 1 sent_kinds.ps sent_kinds.r) κs) → sent_reads.Post κs a r s → sent_reads.Post κs a r' s' → r ≡ r'
sent_settled κs a r r' s s' p q = claims.settled.sent_settled _ _ _ _ r r' p q
