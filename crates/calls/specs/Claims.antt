-- What this crate promises, in document 01's order.
use Rattle.std.specs.Prelude.{ℕ, ◌<◌, ◌≡◌, false, List, ◌↔◌}
use Rattle.std.proofs.Math.Option.{none, some}
use Rattle.words.specs.Settled.{Settled, SettledWith}
use Rattle.message.specs.Message.{Five}
use Rattle.entry.specs.Entry.{Decl, Stays}
use Rattle.protocol.specs.Book.{Call, sender_of, number_of}
use Rattle.meaning.specs.Layout.{slot_count}
use Rattle.meaning.specs.Book.{n_of, numbers_of, own_of, season_of, help_of, more_help, with_help, slot_of, meant}
use Rattle.meaning.specs.Legal.{Lent}
use Rattle.calls.specs.declared.Outcome.{Outcome}
use Rattle.calls.specs.Entered.{result_of, handed, letters, with_entry}
use Rattle.calls.specs.declared.Waiting.{Waiting}
use Rattle.calls.specs.declared.Returned.{Returned}
use Rattle.calls.specs.declared.Sent.{Sent}
use Rattle.calls.specs.Accepted.{Accepted}
use Rattle.calls.specs.Call.{step_of, called, request_answer, requested, published, received}
use Rattle.calls.specs.Search.{waits, Place, earliest, Earliest, waiting}
use Rattle.calls.specs.Again.{returned, sent_of}
use Rattle.calls.specs.Calls.{BookCall, answered}
use Rattle.calls.specs.Answers.{Publishing, Reads, Conflict, Receiving}
use Rattle.calls.specs.Between.{Between}
use Rattle.calls.specs.Keeps.{Keeps}
use Rattle.calls.specs.Silent.{Silent}
use Rattle.calls.specs.ByEntry.{received_entry, ByEntry}

-- Two outcomes that meet a call's contract are equal, in what is handed back and in each byte of the lent buffer.
pub record Settles : Type 0 where
  pub publish_settled : (b : List ℕ) (number : ℕ) (v : Decl) → SettledWith (λ (r : Outcome) after. result_of r after ≡ published b number v)
  pub receive_settled : (b : List ℕ) (house : ℕ) (message : List ℕ)
      → SettledWith (λ (r : Outcome) after. result_of r after ≡ received b house message)
  pub receive_entry_settled : (b : List ℕ) (house : ℕ) (message : List ℕ)
      → SettledWith (λ (r : Outcome) after. result_of r after ≡ received_entry b house message)
  pub waiting_settled : (b : List ℕ) → Settled (λ (r : Waiting). r ≡ waiting b)
  pub return_settled : (b : List ℕ) → Settled (λ (r : Returned). r ≡ returned b)
  pub sent_settled : (b : List ℕ) (kind sender number : ℕ) → Settled (λ (r : Sent). r ≡ sent_of b kind sender number)

pub record Claims : Type 0 where
  -- A call on an entry is one step of the protocol on what the book means: it gives what the step gives, a message being the writer's
  -- bytes with the book's season and that entry's sender and number, and its bytes mean the book with the entry as the step leaves it.
  pub called_given : (b : List ℕ) → Lent b → (a : Call) → (called b a).given
      ≡ handed (step_of b a).answer (letters (season_of b) (sender_of (own_of b) a) (number_of a) (step_of b a).message)
      (step_of b a).delivery
  pub called_meant : (b : List ℕ) → Lent b → (a : Call)
      → meant (called b a).book ≡ with_entry (meant b) (sender_of (own_of b) a) (number_of a) (step_of b a).entry
  -- What it compares with, and the message that it gives.
  pub accepted : Accepted
  -- An accepted request's bytes mean the book with one more help for the asker.
  pub requested_meant : (b : List ℕ) → Lent b → (house season : ℕ) → request_answer b house season ≡ 0
      → meant (requested b house season).book ≡ with_help (meant b) (more_help (help_of b) house)
  -- Each answer is given exactly when the rules say: where several apply, the first in the call's order.
  pub publishing : (b : List ℕ) (number : ℕ) (v : Decl) → Publishing b number v
  pub receiving : (b : List ℕ) (house : ℕ) (message : List ℕ) → Receiving b house message
  -- and what 13 tells of the book and the message is no less.
  pub conflict_only : (b : List ℕ) (house : ℕ) (message : List ℕ) → (received b house message).given.answer ≡ 13
      → (m : Five) × Reads b message m × Conflict b house m
  -- Every refusal leaves the lent buffer byte for byte and carries no message and no delivery.
  pub silent : Silent
  -- A legal book stays one, with n, S, own number, season, sheet, f and d; help is only ever counted.
  pub kept : (b : List ℕ) → Lent b → (a : BookCall) → Keeps b (answered b a).book
  -- No slot is reused: what slot k of the book holds, it holds still.
  pub full : (b : List ℕ) → Lent b → (a : BookCall) (k : ℕ) → k < slot_count (n_of b) (numbers_of b)
      → Stays (slot_of b k) (slot_of (answered b a).book k)
  -- The earliest waiting entry is the one, lowest number first and then lowest sender, with a SEND heard and nothing delivered; or none.
  pub earliest_exactly : (b : List ℕ) (x : Place) → (earliest b ≡ some x) ↔ Earliest b x
  pub none_exactly : (b : List ℕ)
      → (earliest b ≡ none) ↔ ((sender number : ℕ) → sender < n_of b → number < numbers_of b → waits b sender number ≡ false)
  -- The rule between entries.
  pub between : Between
  -- Receiving by entry.
  pub by_entry : ByEntry
  -- The contracts settle their outcome.
  pub settled : Settles
