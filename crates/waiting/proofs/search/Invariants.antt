-- Below each place of the loops nothing waits.
use Rattle.std.proofs.Common.{◌≡◌, ◌≤◌}
use Rattle.std.proofs.Math.Option.{none}
use Rattle.calls.specs.Search.{first_below, waiting_at}
use Rattle.std.specs.Prelude.{None}
use Rattle.waiting.proofs.Searching.{row}
use Rattle.waiting.proofs.search.Given as goal

abbrev pub invariant-search : goal.invariant-search
invariant-search l = (l.number ≤ l.shape.numbers) × (l.found ≡ None) × (first_below (row l.book l.shape.n) l.number ≡ none)

abbrev pub invariant-loop-sender : goal.invariant-loop-sender
invariant-loop-sender l = (l.sender ≤ l.shape.n) × (l.found ≡ None) × (first_below (waiting_at l.book l.number) l.sender ≡ none)
