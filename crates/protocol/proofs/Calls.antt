-- What a call on a book does to the entry that it names, for publishing and receiving alike; and the rule between entries.
use mathlib.Core.Path.{◌≡◌, refl, sym, ap, ◌∙◌}
use mathlib.Core.Bool.{Bool, true, false, cond}
use mathlib.Core.Logic.{◌⊎◌, inl, inr, ⊎_elim}
use mathlib.Core.Option.{none, some}
use Prim.Native.Nat.{ℕ, zero, suc}
use lib.Dec.{T, eqb, ltb, eqb→eq, eqb_refl}
use Rattle.entry.specs.Entry.{Decl, Kind, SEND, ECHO, READY, Entry, heard, outgoing, is_none, same_entry}
use Rattle.protocol.specs.Steps.{Rules, receive_answer, receive, publish_answer, publish, Say, say, Out, refused, settle, may}
use Rattle.protocol.specs.Steps.{recording, publishes, takes_send, takes_echo, takes_ready, takes}
use Rattle.protocol.specs.Book.{Book, Call, publishing, receiving, in_book, sender_of, number_of, on_entry, outcome, after, publication}
use Rattle.protocol.specs.Claims.{Alone}
use Rattle.entry.proofs.Basics.{bcase, T_of, and_l, and_r, none_of, none_some, upd_same, upd_new}
use Rattle.protocol.proofs.Basics.{must_zero, must_pass}
use Rattle.protocol.proofs.Recording.{recording_none, recording_same, recording_free}
use Rattle.protocol.proofs.Moves.{Local, Moves, local_same, other_kind, no_message, takes_moves, takes_local, refused_moves}

-- what a call brings to be heard
abbrev pub Brings : Call → Kind → ℕ → Decl → Type 0
Brings (publishing c v) l q w = ⊥
Brings (receiving p k j c v) l q w = (l ≡ k) × (q ≡ p) × (v ≡ w)

-- a call at house r on the entry of sender j: it moves the entry, keeps what holds of it, and hears nothing but what it brings
pub record Done (R : Rules) (j r : ℕ) (a : Call) (e : Entry) (o : Out) : Type 0 where
  pub moves : Moves R j r e o (publication a o.answer)
  pub local : Local R e → Local R o.entry
  pub hears : (l : Kind) (q : ℕ) (w : Decl) → heard l q o.entry ≡ some w → T (may j l q) → (heard l q e ≡ some w) ⊎ Brings a l q w

module _ (R : Rules) (j : ℕ) where
  heard_new : (k : Kind) (p : ℕ) (v : Decl) (e : Entry) → T (may j k p) → (l : Kind) (q : ℕ) (w : Decl)
      → heard l q (takes R k p v e).entry ≡ some w
      → T (may j l q) → (heard l q e ≡ some w) ⊎ ((l ≡ k) × (q ≡ p) × (v ≡ w))
  unfolding takes_send takes_echo takes_ready
  heard_new SEND p v e a SEND q w x b = inr (refl, eqb→eq q j b ∙ sym (eqb→eq p j a), cc)
  heard_new SEND p v e a ECHO q w x b = inl x
  heard_new SEND p v e a READY q w x b = inl x
  heard_new ECHO p v e a SEND q w x b = inl x
  heard_new ECHO p v e a ECHO q w x b = ⊎_elim inl (λ y. inr (refl, y.0, y.1)) (upd_new e.echo p v q w x)
  heard_new ECHO p v e a READY q w x b = inl x
  heard_new READY p v e a SEND q w x b = inl x
  heard_new READY p v e a ECHO q w x b = inl x
  heard_new READY p v e a READY q w x b = ⊎_elim inl (λ y. inr (refl, y.0, y.1)) (upd_new e.ready p v q w x)

  takes_heard : (k : Kind) (p : ℕ) (v : Decl) (e : Entry) → ((takes R k p v e).answer ≡ 0) × (heard k p (takes R k p v e).entry ≡ some v)
  unfolding takes_send takes_echo takes_ready
  takes_heard SEND p v e = (refl, refl)
  takes_heard ECHO p v e = (refl, upd_same e.echo p (some v))
  takes_heard READY p v e = (refl, upd_same e.ready p (some v))

  refused_done : (r n : ℕ) (a : Call) (e : Entry) → publication a n ≡ none → Done R j r a e (refused n e)
  refused_done r n a e x = record { moves = rw x (refused_moves R j r n e); local = λ L. L; hears = λ l q w h m. inl h }

  -- what is answered 0 is plausible, from a house that may say it, and the first of its kind
  answer_zero : (p : ℕ) (k : Kind) (v : Decl) (e : Entry) → receive_answer R j p k v e ≡ 0
      → T (R.ok v) × T (may j k p) × (heard k p e ≡ none)
  unfolding receive_answer
  answer_zero p k v e x =
      let x₁ = must_zero (ltb p R.n) 3 _ x in
      let x₂ = must_zero (R.ok v) 4 _ x₁.1 in
      let x₃ = must_zero (may j k p) 5 _ x₂.1 in
      (x₂.0, x₃.0, recording_free (heard k p e) v x₃.1)

  -- and what is so, from a house of the book, is answered 0
  answer_passes : (p : ℕ) (k : Kind) (v : Decl) (e : Entry) → T (ltb p R.n) → T (R.ok v) → T (may j k p) → heard k p e ≡ none
      → receive_answer R j p k v e ≡ 0
  unfolding receive_answer
  answer_passes p k v e a b m h =
      must_pass (ltb p R.n) 4 _ a ∙ must_pass (R.ok v) 5 _ b ∙ must_pass (may j k p) 6 _ m
      ∙ ap (λ o. recording o v) h ∙ recording_none v

  answer_repeat : (p : ℕ) (k : Kind) (v : Decl) (e : Entry) → T (ltb p R.n) → T (R.ok v) → T (may j k p) → heard k p e ≡ some v
      → receive_answer R j p k v e ≡ 7
  unfolding receive_answer
  answer_repeat p k v e a b m h =
      must_pass (ltb p R.n) 4 _ a ∙ must_pass (R.ok v) 5 _ b ∙ must_pass (may j k p) 6 _ m
      ∙ ap (λ o. recording o v) h ∙ recording_same v

  receive_done : (r p : ℕ) (k : Kind) (j₂ c : ℕ) (v : Decl) (e : Entry) → Done R j r (receiving p k j₂ c v) e (receive R j p k v e)
  unfolding receive
  receive_done r p k j₂ c v e = go (receive_answer R j p k v e) refl
    where
      go : (n : ℕ) → receive_answer R j p k v e ≡ n → Done R j r (receiving p k j₂ c v) e (settle n (takes R k p v e) e)
      go zero x =
          let y = answer_zero p k v e x in
          record {
            moves = takes_moves R j r k p v e y.0 y.2;
            local = takes_local R j k p v e y.0 y.2;
            hears = heard_new k p v e y.1;
          }
      go (suc n) x = refused_done r (suc n) (receiving p k j₂ c v) e refl

  -- an accepted message is recorded
  pub receive_taken : (p : ℕ) (k : Kind) (v : Decl) (e : Entry) → T (ltb p R.n) → T (R.ok v) → T (may j k p) → heard k p e ≡ none
      → ((receive R j p k v e).answer ≡ 0) × (heard k p (receive R j p k v e).entry ≡ some v)
  unfolding receive
  receive_taken p k v e a b m h = rw (answer_passes p k v e a b m h) (takes_heard k p v e)

  -- a repeat of an accepted message is answered 7
  pub receive_repeat : (p : ℕ) (k : Kind) (v : Decl) (e : Entry) → T (ltb p R.n) → T (R.ok v) → T (may j k p) → heard k p e ≡ some v
      → ((receive R j p k v e).answer ≡ 7) × ((receive R j p k v e).entry ≡ e)
  unfolding receive
  receive_repeat p k v e a b m h = rw (answer_repeat p k v e a b m h) (refl, refl)

  publishes_hears : (v : Decl) (e : Entry) (l : Kind) (q : ℕ) → heard l q (publishes v e).entry ≡ heard l q e
  unfolding publishes
  publishes_hears v e SEND q = refl
  publishes_hears v e ECHO q = refl
  publishes_hears v e READY q = refl

  publishes_moves : (c : ℕ) (v : Decl) (e : Entry) → T (R.ok v) → e.published ≡ none → Moves R j j e (publishes v e) (some v)
  unfolding publishes
  publishes_moves c v e g h =
      record {
        filled = record {
          send = λ w x. x;
          echo = λ q w x. x;
          ready = λ q w x. x;
          ready_sent = λ w x. x;
          delivered = λ w x. x;
          published = λ w x. absurd (none_some e.published w h x);
        };
        new = new';
        says = says';
        delivers = refl;
        publishes = rw h;
      }
    where
      new' : (k : Kind) (w : Decl) → outgoing k (publishes v e).entry ≡ some w
          → (outgoing k e ≡ some w) ⊎ (some (say SEND v) ≡ some (say k w))
      new' SEND w x = inr (let z : v ≡ w = cc in cc)
      new' ECHO w x = inl x
      new' READY w x = inl x

      says' : (k : Kind) (w : Decl) → some (say SEND v) ≡ some (say k w)
          → (outgoing k e ≡ none) × (outgoing k (publishes v e).entry ≡ some w) × T (R.ok w) × T (may j k j)
      says' SEND w m = let z : v ≡ w = cc in (h, cc, rw z at g, eqb_refl j)
      says' ECHO w m = other_kind SEND ECHO v w refl m
      says' READY w m = other_kind SEND READY v w refl m

  publish_zero : (v : Decl) (e : Entry) → publish_answer R v e ≡ 0 → T (R.ok v) × (e.published ≡ none)
  unfolding publish_answer
  publish_zero v e x =
      let x₁ = must_zero (R.ok v) 4 _ x in
      let x₂ = must_zero (is_none e.published) 7 _ x₁.1 in
      (x₁.0, none_of e.published x₂.0)

  publish_done : (c : ℕ) (v : Decl) (e : Entry) → Done R j j (publishing c v) e (publish R v e)
  unfolding publish publishes
  publish_done c v e = go (publish_answer R v e) refl
    where
      go : (n : ℕ) → publish_answer R v e ≡ n → Done R j j (publishing c v) e (settle n (publishes v e) e)
      go zero x =
          let y = publish_zero v e x in
          record {
            moves = publishes_moves c v e y.0 y.1;
            local = local_same R e e.send (some v);
            hears = λ l q w h m. inl (sym (publishes_hears v e l q) ∙ h);
          }
      go (suc n) x = refused_done j (suc n) (publishing c v) e refl

module _ (R : Rules) (numbers own : ℕ) (a : Call) where
  -- the entry that the call names
  abbrev named : Book → Entry
  named b = b (sender_of own a) (number_of a)

  abbrev answered : Bool → Book → Out
  answered y b = cond y (on_entry R a (sender_of own a) (named b)) (refused 4 (named b))

  pub outcome_done : (b : Book) → Done R (sender_of own a) own a (named b) (outcome R numbers own a b)
  unfolding outcome
  outcome_done b = go (in_book R numbers (sender_of own a) (number_of a))
    where
      done : (a : Call) (e : Entry) → Done R (sender_of own a) own a e (on_entry R a (sender_of own a) e)
      done (publishing c v) e = publish_done R own c v e
      done (receiving p k j c v) e = receive_done R j own p k j c v e

      none_is : (a : Call) → publication a 4 ≡ none
      none_is (publishing c v) = refl
      none_is (receiving p k j c v) = refl

      go : (y : Bool) → Done R (sender_of own a) own a (named b) (answered y b)
      go true = done a (named b)
      go false = refused_done R (sender_of own a) own 4 a (named b) (none_is a)

  -- a message is given on an entry of the book only
  pub outcome_booked : (b : Book) (m : Say) → (outcome R numbers own a b).message ≡ some m
      → T (in_book R numbers (sender_of own a) (number_of a))
  unfolding outcome
  outcome_booked b m = go (in_book R numbers (sender_of own a) (number_of a))
    where
      go : (y : Bool) → (answered y b).message ≡ some m → T y
      go true e = tt
      go false e = no_message m e

  pub alone : Alone R numbers own a
  unfolding after outcome
  alone = record { others = others'; same = λ b b₂ e. rw e; agreeing = λ b b₂ e. rw e }
    where
      others' : (b : Book) (j c : ℕ) → ((j ≡ sender_of own a) × (c ≡ number_of a) → ⊥) → after R numbers own a b j c ≡ b j c
      others' b j c d =
          bcase (same_entry (sender_of own a) (number_of a) j c)
          (λ t. let x = eqb→eq j (sender_of own a) (and_l (eqb j (sender_of own a)) (eqb c (number_of a)) (T_of t)) in
          let y = eqb→eq c (number_of a) (and_r (eqb j (sender_of own a)) (eqb c (number_of a)) (T_of t)) in
          absurd (d (x, y)))
          (λ t. rw t)
