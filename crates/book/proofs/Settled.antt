-- The contracts that `Claims` settles are those of the source, as Rattle reads them.
use mathlib.Core.Path.{◌≡◌}
use contract.Lifetimes.{Lfts}
use borrow.Fn.World.{ArgsD, ResD}
use borrow.Fn.Kinds.{ended_of}
use denote.Triple.Clauses.{AtExit}
use Rattle.book.proofs.Claims.{claims}
use Rattle.book.specs.contracts.is_legal
use Rattle.book.proofs.is_legal.Reads as legal_reads
use Rattle.book.proofs.is_legal.Kinds as legal_kinds
use Rattle.book.specs.contracts.is_head_legal
use Rattle.book.proofs.is_head_legal.Reads as head_reads
use Rattle.book.proofs.is_head_legal.Kinds as head_kinds
use Rattle.book.specs.contracts.is_entry_ok
use Rattle.book.proofs.is_entry_ok.Reads as entry_reads
use Rattle.book.proofs.is_entry_ok.Kinds as entry_kinds

pub legal_settled : (κs : Lfts 1) (a : ArgsD is_legal.signature κs) (r r' : ResD is_legal.signature κs)
    (s s' : AtExit (ended_of 1 legal_kinds.ps legal_kinds.r) κs) → legal_reads.Post κs a r s → legal_reads.Post κs a r' s' → r ≡ r'
legal_settled κs a r r' s s' p q = claims.legal_settled _ r r' p q

pub head_settled : (κs : Lfts 1) (a : ArgsD is_head_legal.signature κs) (r r' : ResD is_head_legal.signature κs)
    (s s' : AtExit (ended_of 1 head_kinds.ps head_kinds.r) κs) → head_reads.Post κs a r s → head_reads.Post κs a r' s' → r ≡ r'
head_settled κs a r r' s s' p q = claims.head_settled _ r r' p q

pub entry_settled : (κs : Lfts 1) (a : ArgsD is_entry_ok.signature κs) (r r' : ResD is_entry_ok.signature κs)
    (s s' : AtExit (ended_of 1 entry_kinds.ps entry_kinds.r) κs) → entry_reads.Post κs a r s → entry_reads.Post κs a r' s' → r ≡ r'
entry_settled κs a r r' s s' p q = claims.entry_settled _ _ r r' p q
