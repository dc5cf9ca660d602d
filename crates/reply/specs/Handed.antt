-- What is handed back of a step on the entry that a message names. A message given is the one that came, with another kind; what is
-- delivered is its declaration.
use Rattle.std.specs.Prelude.{ℕ, Bool, List, get_or, set, take, drop, Result, Ok, Err, Some, None}
use Rattle.std.specs.Prelude as std
use Rattle.std.proofs.Math.Option.{Option, none, some}
use Rattle.refusal.specs.declared.Refusal.{Refusal}
use Rattle.refusal.specs.Answer.{number_of}
use Rattle.message.specs.declared.Kind.{Kind}
use Rattle.message.specs.Message as kinds
use Rattle.entry.specs.Entry.{Decl}
use Rattle.protocol.specs.Steps.{only_if}
use Rattle.calls.specs.declared.Outcome.{Outcome}
use Rattle.calls.specs.Entered.{handed, helping}
use Rattle.reply.specs.declared.Step.{Step}

-- the sender, the number and the declaration's bytes that stand in a message
abbrev pub sender_in : List ℕ → ℕ
sender_in m = get_or m 11 0

abbrev pub number_in : List ℕ → ℕ
number_in m = get_or m 12 0

abbrev pub lot_in : List ℕ → Decl
lot_in m = take 20 (drop 16 m)

-- the bytes with another kind
abbrev pub with_kind : ℕ → List ℕ → List ℕ
with_kind kind m = set m 3 kind

-- the message with the kind that is given, or none
abbrev pub given_of : std.Option Kind → List ℕ → Option (List ℕ)
given_of None m = none
given_of (Some kind) m = some (with_kind (kinds.number_of kind) m)

-- the message with the kind of that number, or none
abbrev pub numbered_of : std.Option ℕ → List ℕ → Option (List ℕ)
numbered_of None m = none
numbered_of (Some kind) m = some (with_kind kind m)

-- any answer, the message with the kind of that number, if one is given, and its declaration where it is delivered
abbrev pub laid_of : ℕ → std.Option ℕ → (delivers : Bool) → List ℕ → Outcome
laid_of answer gives delivers m = handed answer (numbered_of gives m) (only_if delivers (lot_in m))

-- what the step gives and delivers, or the number of its refusal alone
abbrev pub outcome_of : Result Step Refusal → List ℕ → Outcome
outcome_of (Ok s) m = handed 0 (given_of s.gives m) (only_if s.delivers (lot_in m))
outcome_of (Err refusal) m = handed (number_of refusal) none none

-- a request that is accepted, or the number of its refusal alone
abbrev pub help_of : Result Unit Refusal → Outcome
help_of (Ok done) = helping
help_of (Err refusal) = handed (number_of refusal) none none
