-- The contracts that `calls` settles are those of the source, as Rattle reads them.
use mathlib.Core.Path.{◌≡◌}
use contract.Lifetimes.{Lfts}
use borrow.Fn.World.{ArgsD, ResD}
use borrow.Fn.Kinds.{ended_of}
use denote.Triple.Clauses.{AtExit}
use Rattle.calls.proofs.Claims.{claims}
use Rattle.receive.specs.contracts.receive
use Rattle.receive.proofs.receive.Reads as receive_reads
use Rattle.receive.proofs.receive.Kinds as receive_kinds
use Rattle.receive.specs.contracts.receive_entry
use Rattle.receive.proofs.receive_entry.Reads as receive_entry_reads
use Rattle.receive.proofs.receive_entry.Kinds as receive_entry_kinds

pub receive_settled : (κs : Lfts 2) (a : ArgsD receive.signature κs) (r r' : ResD receive.signature κs)
    (s s' : AtExit (ended_of 2 receive_kinds.ps receive_kinds.r) κs) → receive_reads.Post κs a r s → receive_reads.Post κs a r' s'
    → (r ≡ r') × (s.0.now ≡ s'.0.now)
receive_settled κs a r r' s s' p q = claims.settled.receive_settled _ _ _ r r' _ _ p q

pub receive_entry_settled : (κs : Lfts 2) (a : ArgsD receive_entry.signature κs) (r r' : ResD receive_entry.signature κs)
    (s s' : AtExit (ended_of 2 receive_entry_kinds.ps receive_entry_kinds.r) κs)
    → receive_entry_reads.Post κs a r s → receive_entry_reads.Post κs a r' s' → (r ≡ r') × (s.0.now ≡ s'.0.now)
receive_entry_settled κs a r r' s s' p q = claims.settled.receive_entry_settled _ _ _ r r' _ _ p q
