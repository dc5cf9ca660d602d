-- The contract that `message` settles is that of the source, as Rattle reads it.
use mathlib.Core.Path.{◌≡◌}
use contract.Lifetimes.{Lfts}
use borrow.Fn.World.{ArgsD, ResD}
use borrow.Fn.Kinds.{ended_of}
use denote.Triple.Clauses.{AtExit}
use Rattle.message.proofs.Claims.{claims}
use Rattle.writer.specs.contracts.write_message
use Rattle.writer.proofs.write_message.Reads as write_reads
use Rattle.writer.proofs.write_message.Kinds as write_kinds

pub write_settled : (κs : Lfts 0) (a : ArgsD write_message.signature κs) (r r' : ResD write_message.signature κs)
    (s s' : AtExit (ended_of 0 write_kinds.ps write_kinds.r) κs) → write_reads.Post κs a r s → write_reads.Post κs a r' s' → r ≡ r'
write_settled κs a r r' s s' p q = claims.settled.write_settled _ _ _ _ _ r r' p q
