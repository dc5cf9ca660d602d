-- Two outcomes that meet the contract of `judge`, as Rattle reads it from the source, are equal.
use mathlib.Core.Path.{◌≡◌, sym, ◌∙◌}
use contract.Lifetimes.{Lfts}
use borrow.Fn.World.{ArgsD, ResD}
use borrow.Fn.Kinds.{ended_of}
use denote.Triple.Clauses.{AtExit}
use Rattle.refusal.proofs.Numbers.{answer_injective}
use Rattle.judge.specs.contracts.judge
use Rattle.judge.proofs.judge.Reads as reads
use Rattle.judge.proofs.judge.Kinds as kinds

pub judge_settled : (κs : Lfts 2) (a : ArgsD judge.signature κs) (r r' : ResD judge.signature κs)
    (s s' : AtExit (ended_of 2 kinds.ps kinds.r) κs) → reads.Post κs a r s → reads.Post κs a r' s' → r ≡ r'
judge_settled κs a r r' s s' p q = answer_injective r r' (p ∙ sym q)
