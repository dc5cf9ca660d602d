-- A call's outcome, answer by answer, from the tests in the call's order.
use mathlib.Core.Logic.{◌⊎◌, inl, inr}
use native.Mathlib.Decide.{dec_lt}
use native.Mathlib.Omega.{arith}
use mathlib.Core.Path.{ap, ◌≡◌, refl, ◌∙◌}
use Rattle.protocol.specs.Order.{ReceivingOrder, PublishingOrder}
use Prim.Native.Nat.{ℕ, zero, suc, ◌<◌, ◌≤◌}
use mathlib.Core.Bool.{true, false}
use mathlib.Core.Option.{none, some}
use borrow.Author.Tests.{lt-ltb, le-ltb}
use Rattle.entry.specs.Entry.{Decl, Kind, SEND, ECHO, READY, Entry, heard}
use Rattle.protocol.specs.Steps.{Rules, Out, refused, settle, takes_send, takes_echo, takes_ready, takes, publishes, may, recording}
use Rattle.protocol.specs.Steps.{receive_answer, receive, publish}
use Rattle.protocol.specs.Book.{Book, publishing, receiving, outcome}
use Rattle.protocol.proofs.Recording.{recording_none, recording_same, recording_other}

module _ (R : Rules) (S own p : ℕ) (k : Kind) (j c : ℕ) (v : Decl) (E : Book) where
  no_sender : R.n ≤ j → outcome R S own (receiving p k j c v) E ≡ refused 4 (E j c)
  unfolding outcome
  no_sender h = rw (le-ltb _ _ h)

  module _ (in_sender : j < R.n) where
    pub no_number : S ≤ c → outcome R S own (receiving p k j c v) E ≡ refused 4 (E j c)
    unfolding outcome
    no_number h = rw (lt-ltb _ _ in_sender, le-ltb _ _ h)

    module _ (in_number : c < S) where
      no_house : R.n ≤ p → outcome R S own (receiving p k j c v) E ≡ refused 4 (E j c)
      unfolding outcome receive
      no_house h = rw (lt-ltb _ _ in_sender, lt-ltb _ _ in_number, le-ltb _ _ h)

      module _ (in_house : p < R.n) where
        pub not_plausible : R.ok v ≡ false → outcome R S own (receiving p k j c v) E ≡ refused 5 (E j c)
        unfolding outcome receive
        not_plausible h = rw (lt-ltb _ _ in_sender, lt-ltb _ _ in_number, lt-ltb _ _ in_house, h)

        module _ (ok : R.ok v ≡ true) where
          pub not_sender : may j k p ≡ false → outcome R S own (receiving p k j c v) E ≡ refused 6 (E j c)
          unfolding outcome receive
          not_sender h = rw (lt-ltb _ _ in_sender, lt-ltb _ _ in_number, lt-ltb _ _ in_house, ok, h)

          module _ (from : may j k p ≡ true) where
            -- past these, what recording answers, 0 or a refusal
            recorded : (a : ℕ) → recording (heard k p (E j c)) v ≡ a
                → outcome R S own (receiving p k j c v) E ≡ settle a (takes R k p v (E j c)) (E j c)
            unfolding outcome receive
            recorded a e = rw (lt-ltb _ _ in_sender, lt-ltb _ _ in_number, lt-ltb _ _ in_house, ok, from, e)

            repeat : heard k p (E j c) ≡ some v → outcome R S own (receiving p k j c v) E ≡ refused 7 (E j c)
            repeat h = recorded 7 (ap (λ o. recording o v) h ∙ recording_same v)

            conflict : (w : Decl) → heard k p (E j c) ≡ some w → (w ≡ v → ⊥)
                → outcome R S own (receiving p k j c v) E ≡ refused 13 (E j c)
            conflict w h d = recorded 13 (ap (λ o. recording o v) h ∙ recording_other w v d)

            pub accepted : heard k p (E j c) ≡ none → outcome R S own (receiving p k j c v) E ≡ takes R k p v (E j c)
            accepted h = recorded 0 (ap (λ o. recording o v) h ∙ recording_none v)

module _ (R : Rules) (S own c : ℕ) (v : Decl) (E : Book) (in_sender : own < R.n) where
  no_own_number : S ≤ c → outcome R S own (publishing c v) E ≡ refused 4 (E own c)
  unfolding outcome
  no_own_number h = rw (lt-ltb _ _ in_sender, le-ltb _ _ h)

  module _ (in_number : c < S) where
    not_publishable : R.ok v ≡ false → outcome R S own (publishing c v) E ≡ refused 5 (E own c)
    unfolding outcome publish
    not_publishable h = rw (lt-ltb _ _ in_sender, lt-ltb _ _ in_number, h)

    module _ (ok : R.ok v ≡ true) where
      already_published : (w : Decl) → (E own c).published ≡ some w → outcome R S own (publishing c v) E ≡ refused 8 (E own c)
      unfolding outcome publish
      already_published w h = rw (lt-ltb _ _ in_sender, lt-ltb _ _ in_number, ok, h)

      publishes_it : (E own c).published ≡ none → outcome R S own (publishing c v) E ≡ publishes v (E own c)
      unfolding outcome publish
      publishes_it h = rw (lt-ltb _ _ in_sender, lt-ltb _ _ in_number, ok, h)

-- ---- the answer alone

takes_zero : (R : Rules) (k : Kind) (p : ℕ) (v : Decl) (e : Entry) → (takes R k p v e).answer ≡ 0
unfolding takes_send takes_echo takes_ready
takes_zero R SEND p v e = refl
takes_zero R ECHO p v e = refl
takes_zero R READY p v e = refl

settle_answer : (a : ℕ) (o : Out) (e : Entry) → o.answer ≡ 0 → (settle a o e).answer ≡ a
settle_answer zero o e z = z
settle_answer (suc a) o e z = refl

module _ (R : Rules) (S own p : ℕ) (k : Kind) (j c : ℕ) (v : Decl) (E : Book) (in_sender : j < R.n) (in_number : c < S) where
  pub answer_is : (outcome R S own (receiving p k j c v) E).answer ≡ receive_answer R j p k v (E j c)
  unfolding outcome receive
  answer_is =
      rw (lt-ltb _ _ in_sender, lt-ltb _ _ in_number)
      (settle_answer (receive_answer R j p k v (E j c)) (takes R k p v (E j c)) (E j c) (takes_zero R k p v (E j c)))

  pub accepted_is : receive_answer R j p k v (E j c) ≡ 0 → outcome R S own (receiving p k j c v) E ≡ takes R k p v (E j c)
  unfolding outcome receive
  accepted_is z = rw (lt-ltb _ _ in_sender, lt-ltb _ _ in_number, z)

-- ---- in the call's order

pub receiving_ordered : (R : Rules) (S own p : ℕ) (k : Kind) (j c : ℕ) (v : Decl) (E : Book) → ReceivingOrder R S own p k j c v E
receiving_ordered R S own p k j c v E =
    record {
      missing = missing;
      not_plausible = λ l m n f. ap answer (not_plausible R S own p k j c v E l m n f);
      not_sender = λ l m n t f. ap answer (not_sender R S own p k j c v E l m n t f);
      repeat = repeat R S own p k j c v E;
      conflict = conflict R S own p k j c v E;
      accepted = λ l m n t f e. accepted R S own p k j c v E l m n t f e;
    }
  where
    answer : Out → ℕ
    answer o = o.answer

    go : Dec (j < R.n) → Dec (c < S) → (R.n ≤ j) ⊎ ((S ≤ c) ⊎ (R.n ≤ p)) → (outcome R S own (receiving p k j c v) E).answer ≡ 4
    go (no l) d x = ap answer (no_sender R S own p k j c v E (omega arith))
    go (yes l) (no i) x = ap answer (no_number R S own p k j c v E l (omega arith))
    go (yes l) (yes i) (inl x) = absurd (omega arith)
    go (yes l) (yes i) (inr (inl x)) = absurd (omega arith)
    go (yes l) (yes i) (inr (inr x)) = ap answer (no_house R S own p k j c v E l i x)

    missing : (R.n ≤ j) ⊎ ((S ≤ c) ⊎ (R.n ≤ p)) → (outcome R S own (receiving p k j c v) E).answer ≡ 4
    missing = go (dec_lt j R.n) (dec_lt c S)

pub publishing_ordered : (R : Rules) (S own c : ℕ) (v : Decl) (E : Book) → own < R.n → PublishingOrder R S own c v E
publishing_ordered R S own c v E l =
    record {
      missing = λ h. ap (λ (o : Out). o.answer) (no_own_number R S own c v E l h);
      not_plausible = λ m f. ap (λ (o : Out). o.answer) (not_publishable R S own c v E l m f);
      already = λ m t w e. ap (λ (o : Out). o.answer) (already_published R S own c v E l m t w e);
      accepted = λ m t e. publishes_it R S own c v E l m t e;
    }
