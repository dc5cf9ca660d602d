-- The contract that `message` settles is that of the source, as Rattle reads it.
use mathlib.Core.Path.{◌≡◌}
use contract.Lifetimes.{Lfts}
use borrow.Fn.World.{ArgsD, ResD}
use borrow.Fn.Kinds.{ended_of}
use denote.Triple.Clauses.{AtExit}
use Rattle.message.proofs.Claims.{claims}
use Rattle.reader.specs.contracts.read_message
use Rattle.reader.proofs.read_message.Reads as read_reads
use Rattle.reader.proofs.read_message.Kinds as read_kinds

pub read_settled : (κs : Lfts 1) (a : ArgsD read_message.signature κs) (r r' : ResD read_message.signature κs)
    (s s' : AtExit (ended_of 1 read_kinds.ps read_kinds.r) κs) → read_reads.Post κs a r s → read_reads.Post κs a r' s' → r ≡ r'
read_settled κs a r r' s s' p q = claims.settled.read_settled _ r r' p q
