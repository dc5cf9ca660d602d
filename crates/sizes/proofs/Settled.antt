-- The contract that `Claims` settles is that of the source, as Rattle reads it.
use mathlib.Core.Path.{◌≡◌, ap}
use contract.Lifetimes.{Lfts}
use borrow.Fn.World.{ArgsD, ResD}
use borrow.Fn.Kinds.{ended_of}
use denote.Triple.Clauses.{AtExit}
use Rattle.std.specs.Prelude.{ℕ, Result}
use Rattle.refusal.specs.declared.Refusal.{Refusal}
use Rattle.meaning.specs.Opening.{Length}
use Rattle.sizes.specs.Answer.{told}
use Rattle.sizes.specs.declared.LengthAnswer.{LengthAnswer}
use Rattle.sizes.proofs.Told.{told_injective}
use Rattle.sizes.proofs.Claims.{claims}
use Rattle.sizes.specs.contracts.length_of
use Rattle.sizes.proofs.length_of.Reads as length_reads
use Rattle.sizes.proofs.length_of.Kinds as length_kinds

-- an outcome as it is answered, and the length that an answer tells
abbrev given : Result ℕ Refusal → LengthAnswer
given r = record { answer = (told r).answer; length = (told r).length }

abbrev length_in : LengthAnswer → Length
length_in x = record { answer = x.answer; length = x.length }

pub length_settled : (κs : Lfts 0) (a : ArgsD length_of.signature κs) (r r' : ResD length_of.signature κs)
    (s s' : AtExit (ended_of 0 length_kinds.ps length_kinds.r) κs) → length_reads.Post κs a r s → length_reads.Post κs a r' s' → r ≡ r'
length_settled κs a r r' s s' p q = told_injective r r' (ap length_in (claims.length_settled _ _ (given r) (given r') p q))
