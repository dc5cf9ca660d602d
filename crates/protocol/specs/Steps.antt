-- The steps on one entry and the answers of the counter, in document 01's order and words.
use Rattle.std.specs.Prelude.{Bool, true, false, cond, ◌&&◌, ℕ, zero, suc, eqb, leb, ltb}
use Rattle.std.proofs.Math.Option.{Option, none, some}
use Rattle.entry.specs.Entry.{Decl, Kind, SEND, ECHO, READY, Entry, same, heard, is_none, votes, recorded, marked, announced}

-- what the steps take from the wall: n, the quorum, the READYs that make a READY and that deliver, and what is plausible
pub record Rules : Type 0 where
  pub n : ℕ
  pub quorum : ℕ
  pub amplify : ℕ
  pub deliver : ℕ
  pub ok : Decl → Bool

-- what a message that a house gives says of the entry
pub data Say : Type 0 where
  say : Kind → Decl → Say

-- what a call gives: document 01's number, the entry afterwards, a message to all n houses or none, a delivery or none
pub record Out : Type 0 where
  pub answer : ℕ
  pub entry : Entry
  pub message : Option Say
  pub delivery : Option Decl

-- Every refusal leaves the entry and carries no message and no delivery.
abbrev pub refused : ℕ → Entry → Out
refused a e = record { answer = a; entry = e; message = none; delivery = none }

-- a call that is answered 0 takes its step; any other answer is a refusal
abbrev pub settle : ℕ → Out → Entry → Out
settle zero o e = o
settle (suc a) o e = refused (suc a) e

-- Where several apply, the first in the call's order is given.
abbrev pub must : Bool → ℕ → ℕ → ℕ
must true a rest = rest
must false a rest = a

abbrev pub only_if : {A : Type 0} → Bool → A → Option A
only_if true x = some x
only_if false x = none

-- nothing is marked yet, and the vouchers for v number at least m
abbrev pub reached : ℕ → Option Decl → (ℕ → Option Decl) → Decl → ℕ → Bool
reached m o f v n = is_none o && leb m (votes f v n)

-- Publishing marks the own entry and gives a SEND.
unfoldable pub publishes : Decl → Entry → Out
publishes v e =
    record {
      answer = 0;
      entry = announced v e;
      message = some (say SEND v);
      delivery = none;
    }

-- An accepted SEND is recorded and gives an ECHO of it.
unfoldable pub takes_send : ℕ → Decl → Entry → Out
takes_send p v e =
    record { answer = 0; entry = recorded SEND p v e; message = some (say ECHO v); delivery = none }

-- An accepted ECHO of v is recorded. If ECHOes of v now number at least the quorum and no READY was sent on this entry, mark and give
-- READY of v.
unfoldable pub takes_echo : Rules → ℕ → Decl → Entry → Out
takes_echo R p v e =
    let now : Entry = recorded ECHO p v e in
    let b : Bool = reached R.quorum now.ready_sent now.echo v R.n in
    record { answer = 0; entry = marked b false v now; message = only_if b (say READY v); delivery = none }

-- An accepted READY of v is recorded. If READYs of v now number at least t+1 and no READY was sent, mark and give READY of v. If they
-- number at least 2t+f+1 and nothing is delivered, mark and deliver v. Both may come of one call.
unfoldable pub takes_ready : Rules → ℕ → Decl → Entry → Out
takes_ready R p v e =
    let now : Entry = recorded READY p v e in
    let b : Bool = reached R.amplify now.ready_sent now.ready v R.n in
    let d : Bool = reached R.deliver now.delivered now.ready v R.n in
    record { answer = 0; entry = marked b d v now; message = only_if b (say READY v); delivery = only_if d v }

abbrev pub takes : Rules → Kind → ℕ → Decl → Entry → Out
takes R SEND p v e = takes_send p v e
takes R ECHO p v e = takes_echo R p v e
takes R READY p v e = takes_ready R p v e

-- 6: SEND not from the entry's sender
abbrev pub may : ℕ → Kind → ℕ → Bool
may sender SEND p = eqb p sender
may sender ECHO p = true
may sender READY p = true

-- This kind was already accepted from this house on this entry: 7, with the same declaration; 13, with a different one.
unfoldable pub recording : Option Decl → Decl → ℕ
unfolding same
recording none v = 0
recording (some w) v = cond (same w v) 7 13

-- Receiving, on an entry of the book: 4 to 6 in order, then 7 or 13.
unfoldable pub receive_answer : Rules → (sender house : ℕ) → Kind → Decl → Entry → ℕ
receive_answer R j p k v e = must (ltb p R.n) 4 (must (R.ok v) 5 (must (may j k p) 6 (recording (heard k p e) v)))

unfoldable pub receive : Rules → (sender house : ℕ) → Kind → Decl → Entry → Out
unfolding receive_answer
receive R j p k v e = settle (receive_answer R j p k v e) (takes R k p v e) e

-- Publishing, on an own entry of the book: 5, 8.
unfoldable pub publish_answer : Rules → Decl → Entry → ℕ
publish_answer R v e = must (R.ok v) 5 (must (is_none e.published) 8 0)

unfoldable pub publish : Rules → Decl → Entry → Out
unfolding publish_answer
publish R v e = settle (publish_answer R v e) (publishes v e) e
