-- A call on an entry, as the run makes it: one that brings nothing from an honest house, or the consumption of a copy, which is accepted.
use mathlib.Core.Path.{◌≡◌, refl, sym, ap, subst, ◌∙◌}
use mathlib.Core.Bool.{Bool, true, false, not, ◌&&◌}
use mathlib.Core.Logic.{◌⊎◌, inl, inr, ⊎_elim}
use mathlib.Core.Option.{Option, none, some}
use Prim.Native.Nat.{ℕ, ◌+◌, ◌≤◌, ◌<◌}
use native.Mathlib.Omega.{arith}
use lib.Dec.{T, eqb, ltb, eqb→eq, eqb_refl}
use Rattle.card.specs.Count.{bit}
use Rattle.entry.specs.Entry.{Decl, Kind, Entry, heard, outgoing, same_kind, is_some}
use Rattle.entry.specs.Lists.{upd, at}
use Rattle.protocol.specs.Steps.{Rules, Out, may}
use Rattle.protocol.specs.Book.{Call, in_book, outcome}
use Rattle.protocol.specs.Run.{n, Wall, Copy, State, is_honest, consumed_copy, consume_at, call_of, on_it}
use Rattle.entry.proofs.Basics.{bcase, T_of, true_of, and_l, and_r, and_mk, and_false, is_kind_eq, entry_refl, is_kind_refl, some_of}
use Rattle.entry.proofs.Basics.{is_some_of, upd_all, upd_same}
use Rattle.entry.proofs.Filled.{filled_heard}
use Rattle.protocol.proofs.Calls.{Brings, Done, outcome_done, outcome_booked, receive_taken, receive_repeat}
use Rattle.protocol.proofs.Mail.{tally_at, tally_change}
use Rattle.protocol.proofs.Invariant.{Inv, Act, unread, came, bit_le, true_copy}
use Rattle.protocol.proofs.Again.{way}
use Rattle.protocol.proofs.Views.{view, out, Named}

-- what is heard stays heard
heard_more : (R : Rules) (j r : ℕ) (a : Call) (H : ℕ → Entry) (o : Out) → Done R j r a (H r) o → (k : Kind) (p q : ℕ)
    → bit (is_some (heard k p (H q))) ≤ bit (is_some (heard k p (upd H r o.entry q)))
heard_more R j r a H o D k p q =
    bit_le (is_some (heard k p (H q))) (is_some (heard k p (upd H r o.entry q)))
    (upd_all (λ q x. T (is_some (heard k p (H q))) → T (is_some (heard k p x))) H r o.entry
    (λ t. let x = some_of (heard k p (H r)) t in is_some_of _ x.0 (filled_heard D.moves.filled k p x.0 x.1))
    (λ q t. t) q)

-- a call that brings nothing from an honest house
pub plain_act : (B : Wall) (r : ℕ) (a : Call) (s : State) → T (is_honest B r)
    → ((k : Kind) (p : ℕ) (v : Decl) → Brings a k p v → T (is_honest B p) → ⊥)
    → (j c : ℕ) → Named B r a s j c → Inv B j c (view j c s) → Act B j c (view j c s) r a (out B r a s) s.mail
plain_act B r a s g f j c N I =
    record {
      here = g;
      done = N.done;
      booked = N.booked;
      honest = λ k p v b g. absurd (f k p v b g);
      unmarked = λ P x. refl;
      kept = λ k p q m x l. omega (
        arith,
        l,
        heard_more B.rules j r a (λ q. s.gave.books q j c) (out B r a s) N.done k p q,
      );
      marked = λ k p q. omega arith;
      carried = λ k p v b g. absurd (f k p v b g);
    }

-- the consumption of a copy in the mail that is not consumed, to an honest house
module _ (B : Wall) (s : State) (i : ℕ) (m : Copy)
    (at_i : at s.mail i ≡ some m) (right_to : T (is_honest B m.to)) where
  abbrev k : Kind
  k = m.kind

  abbrev p : ℕ
  p = m.from

  abbrev r : ℕ
  r = m.to

  abbrev j : ℕ
  j = m.sender

  abbrev c : ℕ
  c = m.number

  abbrev H : ℕ → Entry
  H q = s.gave.books q j c

  abbrev o : Out
  o = out B r (call_of m) s

  it : T (on_it j c m)
  it = entry_refl j c

  done : Done B.rules j r (call_of m) (H r) o
  done = outcome_done B.rules B.numbers r (call_of m) (s.gave.books r)

  module _ (I : Inv B j c (view j c s)) where
    -- its sender gave it
    pub sent_by : outgoing k (H p) ≡ some m.decl
    sent_by = true_copy B j c (view j c s) I i m at_i it

    -- it was not heard, or this very declaration was
    before : (x : Option Decl) → heard k p (H r) ≡ x → (heard k p (H r) ≡ none) ⊎ (heard k p (H r) ≡ some m.decl)
    before none e = inl e
    before (some w) e =
        let y = I.books.owner p k m.decl sent_by in
        inr (e ∙ sym (I.books.given r k p w e y.2 y.0) ∙ sent_by)

    pub answers : ((o.answer ≡ 0) × (heard k p o.entry ≡ some m.decl))
        ⊎ ((o.answer ≡ 7) × (heard k p (H r) ≡ some m.decl) × (o.entry ≡ H r))
    unfolding outcome
    answers =
        let w = I.books.owner p k m.decl sent_by in
        rw (true_of (in_book B.rules B.numbers j c) w.3)
        (⊎_elim
        (λ e. inl (receive_taken B.rules j p k m.decl (H r) (and_l (ltb p (n B)) _ w.0) w.1 w.2 e))
        (λ e. let y = receive_repeat B.rules j p k m.decl (H r) (and_l (ltb p (n B)) _ w.0) w.1 w.2 e in
        inr (y.0, e, y.1))
        (before (heard k p (H r)) refl))

    -- it is heard afterwards
    heard_after : heard k p o.entry ≡ some m.decl
    heard_after = ⊎_elim (λ y. y.1) (λ y. ap (heard k p) y.2 ∙ y.1) answers

    consume_act : Act B j c (view j c s) r (call_of m) o (consume_at s.mail i)
    consume_act =
        record {
          here = right_to;
          done = done;
          booked = outcome_booked B.rules B.numbers r (call_of m) (s.gave.books r);
          honest = λ l q w b g. rw (b.0, b.1, ← b.2) sent_by;
          unmarked = λ P x. omega (arith, tally_change P consumed_copy s.mail i m at_i, ap bit (x m));
          kept = kept';
          marked = marked';
          carried = λ l q w b g. rw (b.0, b.1) carried';
        }
      where
        -- consumed, it is among those that came, whether or not it was before
        marks : (l : Kind) (q u : ℕ)
            → came j c l q u (consume_at s.mail i) + bit (on_it j c m && (way l (eqb q) (eqb u) m && m.consumed))
            ≡ came j c l q u s.mail + bit (on_it j c m && (way l (eqb q) (eqb u) m && true))
        marks l q u = tally_change (λ x. on_it j c x && (way l (eqb q) (eqb u) x && x.consumed)) consumed_copy s.mail i m at_i

        marked' : (l : Kind) (q u : ℕ) → came j c l q u s.mail ≤ came j c l q u (consume_at s.mail i)
        marked' l q u =
            omega (
              arith,
              marks l q u,
              bit_le (on_it j c m && (way l (eqb q) (eqb u) m && m.consumed)) (on_it j c m && (way l (eqb q) (eqb u) m && true))
                  (λ t. let y = and_r (on_it j c m) _ t in
                  and_mk (on_it j c m) _ it (and_mk (way l (eqb q) (eqb u) m) true (and_l (way l (eqb q) (eqb u) m) _ y) tt)),
            )

        its_way : T (way k (eqb p) (eqb r) m)
        its_way = and_mk (same_kind k k) _ (is_kind_refl k) (and_mk (eqb p p) _ (eqb_refl p) (eqb_refl r))

        carried' : 0 < came j c k p r (consume_at s.mail i)
        carried' =
            bcase m.consumed
            (λ t. omega (
              arith,
              marked' k p r,
              tally_at (λ x. on_it j c x && (way k (eqb p) (eqb r) x && x.consumed)) s.mail i m at_i
                  (and_mk (on_it j c m) _ it (and_mk (way k (eqb p) (eqb r) m) _ its_way (T_of t))),
            ))
            (λ t. let one : bit (on_it j c m && (way k (eqb p) (eqb r) m && true)) ≡ 1 =
            ap bit (true_of (on_it j c m && (way k (eqb p) (eqb r) m && true))
            (and_mk (on_it j c m) _ it (and_mk (way k (eqb p) (eqb r) m) true its_way tt))) in
            let zero : bit (on_it j c m && (way k (eqb p) (eqb r) m && m.consumed)) ≡ 0 =
            ap bit (and_false (on_it j c m) (way k (eqb p) (eqb r) m && m.consumed)
            (and_false (way k (eqb p) (eqb r) m) m.consumed t)) in
            omega (arith, marks k p r))

        kept' : (l : Kind) (q u : ℕ) → T (may j l q) → (x : ℕ)
            → 0 < bit (is_some (heard l q (H u))) + (unread j c l q u s.mail + x)
            → 0 < bit (is_some (heard l q (upd H r o.entry u))) + (unread j c l q u (consume_at s.mail i) + x)
        kept' l q u y x z = go (way l (eqb q) (eqb u) m) refl
          where
            go : (b : Bool) → way l (eqb q) (eqb u) m ≡ b
                → 0 < bit (is_some (heard l q (upd H r o.entry u))) + (unread j c l q u (consume_at s.mail i) + x)
            go true t =
                let z : l ≡ k = is_kind_eq l k (and_l (same_kind l k) _ (T_of t)) in
                let y : T (eqb q p && eqb u r) = and_r (same_kind l k) _ (T_of t) in
                let z₂ : q ≡ p = eqb→eq q p (and_l (eqb q p) _ y) in
                let z₃ : u ≡ r = eqb→eq u r (and_r (eqb q p) _ y) in
                let one : bit (is_some (heard l q (upd H r o.entry u))) ≡ 1 = rw (z, z₂, z₃, upd_same H r o.entry, heard_after) in
                omega arith
            go false t =
                omega (
                  arith,
                  z,
                  heard_more B.rules j r (call_of m) H o done l q u,
                  tally_change (λ x. on_it j c x && (way l (eqb q) (eqb u) x && not x.consumed)) consumed_copy s.mail i m at_i,
                  ap bit (and_false (on_it j c m) (way l (eqb q) (eqb u) m && not m.consumed) (rw t)),
                )

  abbrev Takes : ℕ → ℕ → Type 0
  Takes x y = Inv B x y (view x y s) → Act B x y (view x y s) r (call_of m) o (consume_at s.mail i)

  pub consumption : (x y : ℕ) → Named B r (call_of m) s x y → Takes x y
  consumption x y N = subst (λ (u : ℕ). Takes u y) N.sender (subst (λ (u : ℕ). Takes j u) N.number consume_act)
