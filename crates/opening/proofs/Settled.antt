-- The contract that `Claims` settles is that of the source, as Rattle reads it.
use mathlib.Core.Path.{◌≡◌}
use contract.Lifetimes.{Lfts}
use borrow.Fn.World.{ArgsD, ResD}
use borrow.Fn.Kinds.{ended_of}
use denote.Triple.Clauses.{AtExit}
use Rattle.opening.proofs.Claims.{claims}
use Rattle.refusal.proofs.Numbers.{answer_injective}
use Rattle.opening.specs.contracts.open_book
use Rattle.opening.proofs.open_book.Reads as open_reads
use Rattle.opening.proofs.open_book.Kinds as open_kinds

pub open_settled : (κs : Lfts 2) (a : ArgsD open_book.signature κs) (r r' : ResD open_book.signature κs)
    (s s' : AtExit (ended_of 2 open_kinds.ps open_kinds.r) κs) → open_reads.Post κs a r s → open_reads.Post κs a r' s'
    → (r ≡ r') × (s.0.now ≡ s'.0.now)
open_settled κs a r r' s s' p q =
    let e = claims.open_settled _ _ _ _ _ _ _ _ _ _ _ _ p q in
    (answer_injective r r' e.0, e.1)
