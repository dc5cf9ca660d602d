-- What publishing hands back: what was accepted, or a refusal's number alone.
use Rattle.std.specs.Prelude.{Result, Ok, Err}
use Rattle.std.proofs.Math.Option.{none}
use Rattle.refusal.specs.declared.Refusal.{Refusal}
use Rattle.refusal.specs.Answer.{number_of}
use Rattle.calls.specs.declared.Outcome.{Outcome}
use Rattle.calls.specs.Entered.{handed}

abbrev pub given : Result Outcome Refusal → Outcome
given (Ok outcome) = outcome
given (Err refusal) = handed (number_of refusal) none none
