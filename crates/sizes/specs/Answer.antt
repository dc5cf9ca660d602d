-- A length, or why there is none, as it is answered.
use Rattle.std.specs.Prelude.{ℕ, Result, Ok, Err}
use Rattle.refusal.specs.declared.Refusal.{Refusal}
use Rattle.refusal.specs.Answer.{number_of}
use Rattle.meaning.specs.Opening.{Length}

abbrev pub told : Result ℕ Refusal → Length
told (Ok l) = record { answer = 0; length = l }
told (Err refusal) = record { answer = number_of refusal; length = 0 }
