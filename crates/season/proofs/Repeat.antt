-- Repeat or conflict at the bytes: a copy that an honest house sent is answered 0, and 7 once it was heard, however often it is brought;
-- so who is answered 13 is wrong.
use Prim.Native.Nat.{ℕ, zero, suc, ◌<◌}
use mathlib.Core.Path.{◌≡◌, refl, sym, ap, fun_ext, subst, ◌∙◌}
use mathlib.Core.List.{List, ◌∷◌, append-nil}
use mathlib.Core.Logic.{⊎_elim}
use mathlib.Core.Option.{Option, none, some}
use native.Mathlib.Omega.{arith}
use lib.Dec.{T, ltb, ltb→lt}
use Rattle.message.specs.Message.{Five, read_of}
use Rattle.entry.specs.Lists.{upd, at}
use Rattle.entry.proofs.Basics.{bcase, T_of, not_of, and_l, upd_all}
use Rattle.protocol.specs.Steps.{Out}
use Rattle.protocol.specs.Run as protocol
use Rattle.protocol.specs.Thresholds.{rules_of, wall_of}
use Rattle.protocol.proofs.Invariant.{Inv}
use Rattle.protocol.proofs.Views.{view}
use Rattle.protocol.proofs.Repeat.{heard_repeat, stays_heard}
use Rattle.calls.specs.Call.{received}
use Rattle.calls.specs.declared.Sent.{Sent}
use Rattle.calls.proofs.Silent.{silent}
use Rattle.calls.proofs.Conflict.{conflict_only}
use Rattle.season.specs.Run.{Houses, is_honest, is_wrong, Copy, State, Step, consume, Named, named_by, ended, receives, run}
use Rattle.season.specs.Claims.{answer_to, Heard, brought, OfSeason, Outgoing, SentTo, Safe, Consumable, RepeatOrConflict}
use Rattle.season.proofs.Calls.{wall, Means, n_is, noting_none}
use Rattle.season.proofs.Steps.{steps_of, run_means, up_is}
use Rattle.season.proofs.Copies.{said_at, copy_answered, stands_copy}

-- a function with what it has at r put there is itself
upd_own : {A : Type 0} (f : ℕ → A) (r : ℕ) (x : A) → x ≡ f r → upd f r x ≡ f
upd_own f r x e = fun_ext (λ q. upd_all (λ q y. y ≡ f q) f r x e (λ q. refl) q)

-- A refused message leaves the season as it is.
refused_stays : (H : Houses) (r p : ℕ) (message : List ℕ) (s : State) → ((received (s.gave.books r) p message).given.answer ≡ 0 → ⊥)
    → receives H r p message s s.mail ≡ s
unfolding receives ended
refused_stays H r p message s f =
    let R = silent.received_silent (s.gave.books r) p message f in
    let n : Named = named_by (read_of message).five in
    rw (R.helps, R.gives, R.delivers, R.book) (λ i. record {
      gave = record {
        books = upd_own s.gave.books r (s.gave.books r) refl i;
        deliveries = noting_none s.gave.deliveries r n i;
        publications = noting_none s.gave.publications r n i;
      };
      mail = append-nil s.mail i;
      power = s.power;
    })

module _ (H : Houses) (s : State) (z : protocol.State) (M : Means H s z) (held : (j c : ℕ) → Inv (wall H) j c (view j c z)) where
  -- where it stands, it is answered 7
  again : (i : ℕ) (m : Copy) → at s.mail i ≡ some m → T (is_honest H m.to) → Heard s m → answer_to s m ≡ 7
  again i m e t h =
      let x = said_at H s z M i m e in
      let y : protocol.Copy = x.0 in
      copy_answered H s z M m y x.2 t
      ∙ ap (λ (o : Out). o.answer)
      (heard_repeat (wall H) z i y x.1 (held y.sender y.number) y.to (z.gave.books y.to)
      (stands_copy H s z M m y x.2 t h))

  -- consumed, and after whatever steps
  module _ (i : ℕ) (m : Copy) (C : Consumable H s i m) (l : List Step) where
    abbrev later : State
    later = run H (consume i ∷ l) s

    abbrev later' : protocol.State
    later' = protocol.run (wall H) (protocol.consume i ∷ steps_of H l) z

    still : answer_to later m ≡ 7
    unfolding wall_of rules_of
    still =
        let x = said_at H s z M i m C.posted in
        let y : protocol.Copy = x.0 in
        let S = x.2 in
        let I = held y.sender y.number in
        let up : T (protocol.is_up (wall H) z y.to) = rw (up_is H s z M y.to, ← S.to) C.up in
        copy_answered H later later' (run_means H (consume i ∷ l) s z M) m y S (and_l (is_honest H m.to) _ C.up)
        ∙ ap (λ (o : Out). o.answer)
        (heard_repeat (wall H) z i y x.1 I y.to (later'.gave.books y.to)
        (stays_heard (wall H) z i y x.1 I up (sym S.consumed ∙ C.new) (steps_of H l)))

    unmoved : (k : ℕ) → brought H m k later ≡ later
    unmoved zero = refl
    unmoved (suc k) =
        ap (λ (x : State). receives H m.to m.from m.message x x.mail) (unmoved k)
        ∙ refused_stays H m.to m.from m.message later (λ q. omega (arith, still, q))

    repeat : (k : ℕ) → answer_to (brought H m k later) m ≡ 7
    repeat k = ap (λ (x : State). answer_to x m) (unmoved k) ∙ still

  -- what is claimed of each entry, and one entry that there is
  module _ (P : (j c : ℕ) → j < H.n → c < H.numbers → Safe H j c s) (j c : ℕ) (lj : j < H.n) (lc : c < H.numbers) where
    first : (i : ℕ) (m : Copy) → at s.mail i ≡ some m → T (is_honest H m.to) → (Heard s m → ⊥) → answer_to s m ≡ 0
    first i m e t f = ⊎_elim (λ q. q) (λ q. absurd (f q.1)) ((P j c lj lc).accepted i m e t)

    no_conflict : (i : ℕ) (m : Copy) → at s.mail i ≡ some m → T (is_honest H m.to) → answer_to s m ≡ 13 → ⊥
    no_conflict i m e t q = ⊎_elim (λ a. omega (arith, a, q)) (λ a. omega (arith, a.0, q)) ((P j c lj lc).accepted i m e t)

    -- what a house sent to one it sent to all
    to_all_lem : (p q r : ℕ) (message : List ℕ) → r < H.n → SentTo s p q message → SentTo s p r message
    to_all_lem p q r message lr S =
        go (read_of message).five (rw S.says at ((P j c lj lc).mail S.place S.copy S.posted))
        (rw (S.says, S.from) at ((P j c lj lc).outbox S.place S.copy S.posted))
      where
        b : List ℕ
        b = s.gave.books p

        go : (x : Option Five) → OfSeason H x → T (is_honest H p) × Outgoing b x message → SentTo s p r message
        go none O G = absurd O
        go (some x) O G =
            subst (SentTo s p r) (ap (λ (o : Sent). o.message) G.1)
            ((P x.sender x.number O.3 O.4).sent p x.kind G.0 (ap (λ (o : Sent). o.gives) G.1) r lr)

    lied : (r p : ℕ) (message : List ℕ) → T (is_honest H r) → (T (is_honest H p) → (q : ℕ) × SentTo s p q message)
        → (received (s.gave.books r) p message).given.answer ≡ 13 → (p < H.n) × T (is_wrong H p)
    lied r p message t truly a =
        let b = s.gave.books r in
        let found = conflict_only b p message a in (
          omega (arith, found.2.plausible.inside.house, n_is H r b (M.gave.books r t)),
          bcase (is_honest H p) (λ h. absurd (anyone (truly (T_of h)))) (not_of (is_honest H p)),
        )
      where
        below : r < H.n
        below = ltb→lt r H.n (and_l (ltb r H.n) _ t)

        sent : SentTo s p r message → ⊥
        sent S =
            no_conflict S.place S.copy S.posted (rw S.to t)
            ((λ i. (received (s.gave.books (S.to i)) (S.from i) (S.says i)).given.answer) ∙ a)

        anyone : (q : ℕ) × SentTo s p q message → ⊥
        anyone (q, S) = sent (to_all_lem p q r message below S)

    pub repeat_or_conflict : RepeatOrConflict H s
    repeat_or_conflict =
        record { first = first; again = again; repeat = repeat; unmoved = unmoved; no_conflict = no_conflict; lied = lied }
