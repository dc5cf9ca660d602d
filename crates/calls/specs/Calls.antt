-- One type of call on a book, and one function from bytes and call to outcome, for whoever speaks of sequences of calls.
use Rattle.std.specs.Prelude.{ℕ, List}
use Rattle.entry.specs.Entry.{Decl}
use Rattle.calls.specs.declared.Outcome.{Outcome}
use Rattle.calls.specs.declared.Waiting.{Waiting}
use Rattle.calls.specs.declared.Returned.{Returned}
use Rattle.calls.specs.declared.Sent.{Sent}
use Rattle.calls.specs.Entered.{Result}
use Rattle.calls.specs.Call.{published, received}
use Rattle.calls.specs.Search.{waiting}
use Rattle.calls.specs.Again.{returned, sent_of}

pub data BookCall : Type 0 where
  publish : (number : ℕ) → Decl → BookCall
  receive : (house : ℕ) → (message : List ℕ) → BookCall
  search : BookCall
  comeback : BookCall
  sent : (kind sender number : ℕ) → BookCall

-- what publishing and receiving give, what the waiting search gives, what a return and what was sent
pub data Answer : Type 0 where
  gave : Outcome → Answer
  found : Waiting → Answer
  asks : Returned → Answer
  sends : Sent → Answer

-- an answer, and each byte of the book afterwards
pub record Answered : Type 0 where
  pub answer : Answer
  pub book : List ℕ

abbrev moved : Result → Answered
moved r = record { answer = gave r.given; book = r.book }

unfoldable pub answered : List ℕ → BookCall → Answered
answered b (publish c v) = moved (published b c v)
answered b (receive p message) = moved (received b p message)
answered b search = record { answer = found (waiting b); book = b }
answered b comeback = record { answer = asks (returned b); book = b }
answered b (sent kind j c) = record { answer = sends (sent_of b kind j c); book = b }
