-- Every step of a run keeps what holds of one entry.
use mathlib.Core.Path.{◌≡◌, refl, sym, ap, subst}
use mathlib.Core.Bool.{Bool, true, false, not, cond, ◌&&◌}
use mathlib.Core.Option.{Option, none, some}
use mathlib.Core.List.{List, [], ◌∷◌}
use Prim.Native.Nat.{ℕ}
use native.Mathlib.Omega.{arith}
use lib.Dec.{T, T_not, eqb, eqb→eq}
use Rattle.card.specs.Count.{bit, count}
use Rattle.card.proofs.Counting.{count_none}
use Rattle.entry.specs.Entry.{Decl, Kind, SEND, ECHO, READY, Entry, fresh, heard, outgoing, is_some, same_entry}
use Rattle.entry.specs.Lists.{upd, at}
use Rattle.protocol.specs.Steps.{Out}
use Rattle.protocol.specs.Book.{Call, publishing, receiving, sender_of, number_of}
use Rattle.protocol.specs.Run.{n, is_up, Wall, Copy, Request, State, Step, publish, consume, wrong, crash, comeback, help, plead}
use Rattle.protocol.specs.Run.{is_honest, start, consumed_copy, consume_at, posted, call_of, called, arrives, consumes, comes, help_answer}
use Rattle.protocol.specs.Run.{helps, request_taken, asked, under_wrong, step, run, on_it, copies_of}
use Rattle.entry.proofs.Basics.{bcase, T_of, false_of, and_l, and_r, and_false, none_some}
use Rattle.protocol.proofs.Basics.{Heeded}
use Rattle.protocol.proofs.Mail.{tally_append, tally_change}
use Rattle.protocol.proofs.Invariant.{View, Inv, Act, act_inv, else_inv}
use Rattle.protocol.proofs.Views.{view, out, Named, named, view_elsewhere, posted_elsewhere}
use Rattle.protocol.proofs.Consuming.{plain_act, consumption}
use Rattle.protocol.proofs.Powers.{Nearly, lost_inv, crash_inv, comes_inv, helps_inv, pleaded, taken_nearly, taken_inv}

-- a fact Ψ of one entry of every book that each call keeps is kept by every step, beside the invariant
module _ (B : Wall) (j c : ℕ) (Ψ : (ℕ → Entry) → Type 0)
    (keep : (s : View) → Inv B j c s → Ψ s.house → (r : ℕ) (a : Call) (o : Out) (mail : List Copy) → Act B j c s r a o mail
    → Ψ (upd s.house r o.entry)) where
  abbrev Kept : View → Type 0
  Kept u = Inv B j c u × Ψ u.house

  abbrev Holds : State → Type 0
  Holds s = Kept (view j c s)

  call_holds : (r : ℕ) (a : Call) (s : State) (mail : List Copy)
      → ((j c : ℕ) → Named B r a s j c → Inv B j c (view j c s) → Act B j c (view j c s) r a (out B r a s) mail)
      → (same_entry (sender_of r a) (number_of a) j c ≡ false → (P : Copy → Bool) → copies_of j c P mail ≡ copies_of j c P s.mail)
      → Holds s → Holds (called B r a s mail)
  call_holds r a s mail f f₂ H = bcase (same_entry j₁ c₁ j c) mine others
    where
      j₁ : ℕ
      j₁ = sender_of r a

      c₁ : ℕ
      c₁ = number_of a

      o : Out
      o = out B r a s

      mine : same_entry j₁ c₁ j c ≡ true → Holds (called B r a s mail)
      mine t =
          let N = named B r a s j c (sym (eqb→eq j j₁ (and_l (eqb j j₁) _ (T_of t)))) (sym (eqb→eq c c₁ (and_r (eqb j j₁) _ (T_of t)))) in
          let A = f j c N H.0 in
          subst Kept (sym (N.seen mail)) (act_inv B j c (view j c s) H.0 r a o mail A, keep (view j c s) H.0 H.1 r a o mail A)

      others : same_entry j₁ c₁ j c ≡ false → Holds (called B r a s mail)
      others t =
          subst Kept (sym (view_elsewhere B r a s mail j c t)) (
            else_inv B j c (view j c s) _ (λ P. omega (
              arith,
              tally_append (λ m. on_it j c m && P m) mail (posted j₁ c₁ r o.message (n B)),
              posted_elsewhere j₁ c₁ r o.message (n B) j c P t,
              f₂ t P,
            )) H.0,
            H.1,
          )

  -- a step may be none of a run's
  if_holds : (b : Bool) (s₂ s₃ : State) → (b ≡ true → Holds s₂) → (b ≡ false → Holds s₃) → Holds (cond b s₂ s₃)
  if_holds true s₂ s₃ f g = f refl
  if_holds false s₂ s₃ f g = g refl

  helps_holds : (r p : ℕ) (s s₂ : State) → T (is_honest B r) → Ψ (view j c s₂).house → Nearly B j c s₂ r p → Holds (helps B r p s₂)
  unfolding helps
  helps_holds r p s s₂ g z N =
      (helps_inv B j c s₂ r p g N, same (eqb (help_answer (n B) B.limit p (s₂.power.helped r p)) 0) _ s₂ z z)
    where
      same : (b : Bool) (x y : State) → Ψ (view j c x).house → Ψ (view j c y).house → Ψ (view j c (cond b x y)).house
      same true x y a d = a
      same false x y a d = d

  pub step_holds : (a : Step) (s : State) → Holds s → Holds (step B a s)
  unfolding step consumes arrives asked comes
  step_holds (publish r c₂ v) s H =
      if_holds (is_up B s r) _ s
      (λ t. call_holds r (publishing c₂ v) s s.mail (plain_act B r (publishing c₂ v) s (and_l (is_honest B r) _ (T_of t))
      (λ k p w b g. b))
      (λ t P. refl) H)
      (λ t. H)
  step_holds (consume i) s H = go (at s.mail i) refl
    where
      unused : (m : Copy) → at s.mail i ≡ some m → on_it j c m ≡ false → (P : Copy → Bool)
          → copies_of j c P (consume_at s.mail i) ≡ copies_of j c P s.mail
      unused m e t P =
          omega (arith, tally_change (λ m. on_it j c m && P m) consumed_copy s.mail i m e, no_copy (P m), no_copy (P (consumed_copy m)))
        where
          no_copy : (b : Bool) → bit (on_it j c m && b) ≡ 0
          no_copy b = rw t

      go : (x : Option Copy) → at s.mail i ≡ x → Holds (consumes B i x s)
      go none e = H
      go (some m) e =
          if_holds (is_honest B m.to && not m.consumed) _ s
          (λ t. if_holds (s.power.down m.to) _ _
          (λ d. (lost_inv B j c (view j c s) i m e d H.0, H.1))
          (λ d. call_holds m.to (call_of m) s (consume_at s.mail i)
          (consumption B s i m e (and_l (is_honest B m.to) _ (T_of t)))
          (unused m e) H))
          (λ t. H)
  step_holds (wrong p r k j₂ c₂ v) s H =
      if_holds (under_wrong B s p r) _ s
      (λ t. call_holds r (receiving p k j₂ c₂ v) s s.mail
      (plain_act B r (receiving p k j₂ c₂ v) s (and_l (is_honest B r) _ (and_l (is_up B s r) _ (T_of t)))
      (λ l q w b g. T_not (is_honest B p) (and_r (is_up B s r) _ (T_of t)) (rw b.1 at g)))
      (λ t P. refl) H)
      (λ t. H)
  step_holds (crash r) s H = if_holds (is_up B s r) _ s (λ t. (crash_inv B j c (view j c s) r H.0, H.1)) (λ t. H)
  step_holds (comeback r) s H =
      if_holds (is_honest B r && s.power.down r) _ s
      (λ t. (comes_inv B j c s r (and_l (is_honest B r) _ (T_of t)) H.0, H.1)) (λ t. H)
  step_holds (help i) s H = go (at s.power.requests i) refl
    where
      go : (x : Option Request) → at s.power.requests i ≡ x → Holds (asked B i x s)
      go none e = H
      go (some m) e =
          if_holds (is_honest B m.to && not m.consumed) _ s
          (λ t. if_holds (s.power.down m.to) _ _
          (λ d. (taken_inv B j c s i m e H.0 d, H.1))
          (λ d. helps_holds m.to m.from s (request_taken i s) (and_l (is_honest B m.to) _ (T_of t)) H.1
          (taken_nearly B j c s i m e H.0 (false_of m.consumed (and_r (is_honest B m.to) _ (T_of t))))))
          (λ t. H)
  step_holds (plead p r) s H =
      if_holds (under_wrong B s p r) _ s
      (λ t. helps_holds r p s s (and_l (is_honest B r) _ (and_l (is_up B s r) _ (T_of t))) H.1
      (pleaded B j c s r p (T_not (is_honest B p) (and_r (is_up B s r) _ (T_of t))) H.0))
      (λ t. H)

  run_holds : (l : List Step) (s : State) → Holds s → Holds (run B l s)
  unfolding run
  run_holds [] s H = H
  run_holds (a ∷ l) s H = run_holds l (step B a s) (step_holds a s H)

  pub holds_from_start : Ψ (λ r. fresh) → (l : List Step) → Holds (run B l start)
  holds_from_start z l = run_holds l start (start_inv, z)
    where
      fresh_own : (k : Kind) → outgoing k fresh ≡ none
      fresh_own SEND = refl
      fresh_own ECHO = refl
      fresh_own READY = refl

      fresh_heard : (k : Kind) (p : ℕ) → heard k p fresh ≡ none
      fresh_heard SEND p = refl
      fresh_heard ECHO p = refl
      fresh_heard READY p = refl

      unheeded : (m : ℕ) (o : Option Decl) → Heeded m (n B) (λ p. none) o
      unheeded m o v a = absurd (omega (arith, count_none (λ p. false) (n B) (λ i l. refl)))

      unsaid : (k : Kind) (F : ℕ → Bool) → count (λ p. F p && is_some (outgoing k fresh)) (n B) ≡ 0
      unsaid k F = count_none _ (n B) (λ i l. and_false (F i) _ (ap is_some (fresh_own k)))

      start_inv : Inv B j c (view j c start)
      start_inv =
          record {
            books = record {
              local = λ r. record {
                echoes_heeded = unheeded B.rules.quorum none;
                readies_heeded = unheeded B.rules.amplify none;
                delivery_heeded = unheeded B.rules.deliver none;
                ready_backed = λ v e. absurd (none_some none v refl e);
                delivery_backed = λ v e. absurd (none_some none v refl e);
                delivery_ok = λ v e. absurd (none_some none v refl e);
              };
              owner = λ p k v e. absurd (none_some (outgoing k fresh) v (fresh_own k) e);
              given = λ r k p v e m g. absurd (none_some (heard k p fresh) v (fresh_heard k p) e);
              delivered = λ r. refl;
              published = λ r. refl;
            };
            post = record {
              truthful = refl;
              at_least = λ k F Q. rw (unsaid k F) (omega arith);
              at_most = λ k F Q. omega arith;
              reaches = λ L k p q v e g. absurd (none_some (outgoing k fresh) v (fresh_own k) e);
              brought = λ k p q m g. rw (fresh_heard k p) (omega arith);
            };
            helping = record { limited = λ p q. omega arith; pending = λ p q g. omega arith };
          }
