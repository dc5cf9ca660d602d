-- What the waiting search finds, by the number and values of each of its cases.
use Rattle.std.specs.Prelude.{Option, Some, None}
use Rattle.std.proofs.Math.Option.{none, some}
use Rattle.calls.specs.declared.Waiting.{Waiting}
use Rattle.calls.specs.Search.{found}
use Rattle.waiting.specs.declared.Place.{Place}

-- the number and values of each of the search's cases
abbrev pub told : Option Place → Waiting
told (Some p) = found (some (record { number = p.number; sender = p.sender }))
told None = found none
