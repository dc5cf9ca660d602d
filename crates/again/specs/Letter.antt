-- The message that says what a slot holds, by its kind's number, as the code writes it; and what is handed back of one.
use Rattle.std.specs.Prelude.{ℕ, List, Result, Ok, Err, Some, None}
use Rattle.std.specs.Prelude as std
use Rattle.std.proofs.Math.Option.{Option, none, some}
use Rattle.refusal.specs.declared.Refusal.{Refusal}
use Rattle.refusal.specs.Answer.{number_of}
use Rattle.lot.specs.Declaration.{declaration_at}
use Rattle.entry.specs.Entry.{Decl}
use Rattle.calls.specs.declared.Sent.{Sent}
use Rattle.calls.specs.Entered.{wired}
use Rattle.calls.specs.Again.{sending}

abbrev pub letter_of : (kind season sender number : ℕ) → Option Decl → Option (List ℕ)
letter_of kind season j c none = none
letter_of kind season j c (some v) = some (wired kind season j c (declaration_at v 0))

-- the message, if there is one
abbrev pub message_of : std.Option (List ℕ) → Option (List ℕ)
message_of (Some m) = some m
message_of None = none

-- a message or a plain none, or the number of a refusal
abbrev pub given : Result (std.Option (List ℕ)) Refusal → Sent
given (Ok m) = sending 0 (message_of m)
given (Err refusal) = sending (number_of refusal) none
