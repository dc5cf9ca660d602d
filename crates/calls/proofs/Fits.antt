-- A step on an entry that a book may have leaves one that it may have; a refusal leaves the entry and gives nothing.
use Prim.Native.Nat.{ℕ, zero, suc, ◌≤◌, ◌<◌}
use mathlib.Core.Path.{◌≡◌, refl}
use mathlib.Core.Bool.{Bool, true, false, cond, and-eq-true_iff}
use mathlib.Core.List.{[], ◌∷◌}
use mathlib.Core.Option.{Option, none, some}
use native.Mathlib.Omega.{arith}
use lib.Dec.{T, eqb, ltb, ltb→lt}
use lib.ListN.{length}
use borrow.Author.Tests.{eqb-true, ltb-true}
use Rattle.words.specs.Words.{Bytes}
use Rattle.entry.specs.Entry.{Decl, Kind, SEND, ECHO, READY, Entry, mark, recorded, marked}
use Rattle.entry.specs.Lists.{upd}
use Rattle.protocol.specs.Steps.{Rules, Out, refused, settle, reached, publishes, takes_send, takes_echo, takes_ready, takes}
use Rattle.protocol.specs.Steps.{receive_answer}
use Rattle.protocol.specs.Steps.{receive, publish_answer, publish}
use Rattle.protocol.specs.Book.{Book, Call, publishing, receiving, in_book, sender_of, number_of, on_entry, outcome}
use Rattle.protocol.proofs.Basics.{must_zero}
use Rattle.entry.proofs.Basics.{upd_all, upd_other}
use Rattle.meaning.specs.Legal.{IsDecl, IsSlot, IsEntry}
use Rattle.calls.specs.Entered.{all_bytes, is_decl}

-- ---- 20 bytes

all_bytes_lem : (v : Decl) → all_bytes v ≡ true → Bytes v
all_bytes_lem [] h i = omega arith
all_bytes_lem (x ∷ v) h zero = ltb-true x 256 ((and-eq-true_iff (ltb x 256) (all_bytes v)).0 h).0
all_bytes_lem (x ∷ v) h (suc i) = all_bytes_lem v ((and-eq-true_iff (ltb x 256) (all_bytes v)).0 h).1 i

pub is_decl_lem : (v : Decl) → is_decl v ≡ true → IsDecl v
unfolding is_decl
is_decl_lem v h =
    let both = (and-eq-true_iff (eqb (length v) 20) (all_bytes v)).0 h in
    record { long = eqb-true (length v) 20 both.0; bytes = all_bytes_lem v both.1 }

-- ---- the steps

-- an entry of sender j in the book of house `own`: what it published stands at the own sender alone
pub record Fits (n own j : ℕ) (e : Entry) : Type 0 where
  pub entry : IsEntry n e
  pub others : (j ≡ own → ⊥) → e.published ≡ none

mark_slot : (b : Bool) (v : Decl) (o : Option Decl) → IsDecl v → IsSlot o → IsSlot (mark b v o)
mark_slot true v o d h = d
mark_slot false v o d h = h

module _ (n : ℕ) (v : Decl) (d : IsDecl v) where
  -- one more slot for a house below n
  module _ (f : ℕ → Option Decl) (p : ℕ) where
    upd_slots : ((i : ℕ) → IsSlot (f i)) → (i : ℕ) → IsSlot (upd f p (some v) i)
    upd_slots h i = upd_all (λ i x. IsSlot x) f p (some v) d h i

    upd_past : p < n → ((i : ℕ) → n ≤ i → f i ≡ none) → (i : ℕ) → n ≤ i → upd f p (some v) i ≡ none
    upd_past l h i m = rw (upd_other f p (some v) i (λ e. omega arith)) (h i m)

  recorded_is_entry : (k : Kind) (p : ℕ) (e : Entry) → p < n → IsEntry n e → IsEntry n (recorded k p v e)
  recorded_is_entry SEND p e l h =
      record {
        send = d;
        echo = h.echo;
        ready = h.ready;
        ready_sent = h.ready_sent;
        delivered = h.delivered;
        published = h.published;
        echo_past = h.echo_past;
        ready_past = h.ready_past;
      }
  recorded_is_entry ECHO p e l h =
      record {
        send = h.send;
        echo = upd_slots e.echo p h.echo;
        ready = h.ready;
        ready_sent = h.ready_sent;
        delivered = h.delivered;
        published = h.published;
        echo_past = upd_past e.echo p l h.echo_past;
        ready_past = h.ready_past;
      }
  recorded_is_entry READY p e l h =
      record {
        send = h.send;
        echo = h.echo;
        ready = upd_slots e.ready p h.ready;
        ready_sent = h.ready_sent;
        delivered = h.delivered;
        published = h.published;
        echo_past = h.echo_past;
        ready_past = upd_past e.ready p l h.ready_past;
      }

  marked_is_entry : (b t : Bool) (e : Entry) → IsEntry n e → IsEntry n (marked b t v e)
  marked_is_entry b t e h =
      record {
        send = h.send;
        echo = h.echo;
        ready = h.ready;
        ready_sent = mark_slot b v e.ready_sent d h.ready_sent;
        delivered = mark_slot t v e.delivered d h.delivered;
        published = h.published;
        echo_past = h.echo_past;
        ready_past = h.ready_past;
      }

  published_is_entry : (e : Entry) → IsEntry n e → IsEntry n (publishes v e).entry
  unfolding publishes
  published_is_entry e h =
      record {
        send = h.send;
        echo = h.echo;
        ready = h.ready;
        ready_sent = h.ready_sent;
        delivered = h.delivered;
        published = d;
        echo_past = h.echo_past;
        ready_past = h.ready_past;
      }

  module _ (R : Rules) (own j p : ℕ) (l : p < n) (e : Entry) (h : Fits n own j e) where
    -- neither recording nor marking touches what was published
    voucher_fits : (k : Kind) → (recorded k p v e).published ≡ e.published → (b t : Bool) → Fits n own j (marked b t v (recorded k p v e))
    voucher_fits k same b t =
        record {
          entry = marked_is_entry b t (recorded k p v e) (recorded_is_entry k p e l h.entry);
          others = λ f. rw same (h.others f);
        }

    takes_fits : (k : Kind) → Fits n own j (takes R k p v e).entry
    unfolding takes_send takes_echo takes_ready
    takes_fits SEND = record { entry = recorded_is_entry SEND p e l h.entry; others = h.others }
    takes_fits ECHO = voucher_fits ECHO refl (reached R.quorum e.ready_sent (upd e.echo p (some v)) v R.n) false
    takes_fits READY =
        let ready : ℕ → Option Decl = upd e.ready p (some v) in
        voucher_fits READY refl (reached R.amplify e.ready_sent ready v R.n) (reached R.deliver e.delivered ready v R.n)

-- ---- a call

settle_fits : (n own j a : ℕ) (o : Out) (e : Entry) → Fits n own j e → (a ≡ 0 → Fits n own j o.entry)
    → Fits n own j (settle a o e).entry
settle_fits n own j zero o e h f = f refl
settle_fits n own j (suc a) o e h f = h

-- an answer that is not 0 settles as a refusal
settle_refused : (a : ℕ) (o : Out) (e : Entry) → o.answer ≡ 0 → ((settle a o e).answer ≡ 0 → ⊥)
    → settle a o e ≡ refused (settle a o e).answer e
settle_refused zero o e z f = absurd (f z)
settle_refused (suc a) o e z f = refl

takes_zero : (R : Rules) (k : Kind) (p : ℕ) (v : Decl) (e : Entry) → (takes R k p v e).answer ≡ 0
unfolding takes_send takes_echo takes_ready
takes_zero R SEND p v e = refl
takes_zero R ECHO p v e = refl
takes_zero R READY p v e = refl

module _ (R : Rules) (S own : ℕ) (E : Book) where
  module _ (dec : (v : Decl) → T (R.ok v) → IsDecl v) where
    receive_fits : (j p : ℕ) (k : Kind) (v : Decl) (e : Entry) → Fits R.n own j e → Fits R.n own j (receive R j p k v e).entry
    unfolding receive receive_answer
    receive_fits j p k v e h =
        settle_fits R.n own j (receive_answer R j p k v e) (takes R k p v e) e h
        (λ z.
        let x = must_zero (ltb p R.n) 3 _ z in
        let y = must_zero (R.ok v) 4 _ x.1 in
        takes_fits R.n v (dec v y.0) R own j p (ltb→lt p R.n x.0) e h k)

    publish_fits : (v : Decl) (e : Entry) → Fits R.n own own e → Fits R.n own own (publish R v e).entry
    unfolding publish publish_answer
    publish_fits v e h =
        settle_fits R.n own own (publish_answer R v e) (publishes v e) e h
        (λ z.
        let x = must_zero (R.ok v) 4 _ z in
        record { entry = published_is_entry R.n v (dec v x.0) e h.entry; others = λ f. absurd (f refl) })

  module _ (a : Call) where
    abbrev e : Entry
    e = E (sender_of own a) (number_of a)

    abbrev tested : Bool → Out
    tested y = cond y (on_entry R a (sender_of own a) e) (refused 4 e)

    -- what is plausible is 20 bytes
    pub outcome_fits : ((v : Decl) → T (R.ok v) → IsDecl v) → Fits R.n own (sender_of own a) e
        → Fits R.n own (sender_of own a) (outcome R S own a E).entry
    unfolding outcome
    outcome_fits dec h = go (in_book R S (sender_of own a) (number_of a))
      where
        step : (a : Call) (e : Entry) → Fits R.n own (sender_of own a) e
            → Fits R.n own (sender_of own a) (on_entry R a (sender_of own a) e).entry
        step (publishing c v) e h = publish_fits dec v e h
        step (receiving p k j c v) e h = receive_fits dec j p k v e h

        go : (y : Bool) → Fits R.n own (sender_of own a) (tested y).entry
        go true = step a e h
        go false = h

    pub outcome_in_book : (outcome R S own a E).answer ≡ 0 → in_book R S (sender_of own a) (number_of a) ≡ true
    unfolding outcome
    outcome_in_book = go (in_book R S (sender_of own a) (number_of a))
      where
        go : (y : Bool) → (tested y).answer ≡ 0 → y ≡ true
        go true z = refl
        go false z = absurd (omega (arith, z))

    pub outcome_refused : ((outcome R S own a E).answer ≡ 0 → ⊥) → outcome R S own a E ≡ refused (outcome R S own a E).answer e
    unfolding outcome receive publish publishes
    outcome_refused = go (in_book R S (sender_of own a) (number_of a))
      where
        step : (a : Call) (e : Entry) → ((on_entry R a (sender_of own a) e).answer ≡ 0 → ⊥)
            → on_entry R a (sender_of own a) e ≡ refused (on_entry R a (sender_of own a) e).answer e
        step (publishing c v) e f = settle_refused (publish_answer R v e) (publishes v e) e refl f
        step (receiving p k j c v) e f = settle_refused (receive_answer R j p k v e) (takes R k p v e) e (takes_zero R k p v e) f

        go : (y : Bool) → ((tested y).answer ≡ 0 → ⊥) → tested y ≡ refused (tested y).answer e
        go true f = step a e f
        go false f = refl
