-- What one call does to one entry: which slots it fills, what it gives, and what holds of the entry by itself.
use mathlib.Core.Path.{◌≡◌, refl, sym, ap, ◌∙◌}
use mathlib.Core.Bool.{Bool, true, false}
use mathlib.Core.Logic.{◌⊎◌, inl, inr, ⊎_elim}
use mathlib.Core.Option.{Option, none, some}
use mathlib.Core.List.{List, [], ◌∷◌}
use Prim.Native.Nat.{ℕ, ◌≤◌}
use native.Mathlib.Omega.{arith}
use lib.Dec.{T, leb→le}
use Rattle.entry.specs.Entry.{Decl, Kind, SEND, ECHO, READY, Entry, heard, outgoing, same_kind, is_none, votes, mark, recorded, marked}
use Rattle.entry.specs.Entry.{Stays}
use Rattle.entry.specs.Entry.{Filled}
use Rattle.entry.specs.Lists.{upd, push}
use Rattle.protocol.specs.Steps.{Rules, Say, say, Out, refused, only_if, reached, may, takes_send, takes_echo, takes_ready, takes}
use Rattle.entry.proofs.Filled.{filled_refl, filled_trans, recorded_filled}
use Rattle.entry.proofs.Basics.{T_not_of, and_l, and_r, is_kind_refl, none_of, none_some, votes_up, mark_keeps, mark_new}
use Rattle.protocol.proofs.Basics.{Heeded, heeds}

-- what holds of each honest house's entry by itself
pub record Local (R : Rules) (e : Entry) : Type 0 where
  pub echoes_heeded : Heeded R.quorum R.n e.echo e.ready_sent
  pub readies_heeded : Heeded R.amplify R.n e.ready e.ready_sent
  pub delivery_heeded : Heeded R.deliver R.n e.ready e.delivered
  pub ready_backed : (v : Decl) → e.ready_sent ≡ some v
      → (R.quorum ≤ votes e.echo v R.n) ⊎ (R.amplify ≤ votes e.ready v R.n)
  pub delivery_backed : (v : Decl) → e.delivered ≡ some v → R.deliver ≤ votes e.ready v R.n
  pub delivery_ok : (v : Decl) → e.delivered ≡ some v → T (R.ok v)

-- a slot as a list
abbrev pub list_of : Option Decl → List Decl
list_of none = []
list_of (some v) = v ∷ []

-- how a call at house r may change an entry of sender j, with x the publication that it accepted
pub record Moves (R : Rules) (j r : ℕ) (e : Entry) (o : Out) (x : Option Decl) : Type 0 where
  pub filled : Filled e o.entry
  pub new : (k : Kind) (v : Decl) → outgoing k o.entry ≡ some v → (outgoing k e ≡ some v) ⊎ (o.message ≡ some (say k v))
  pub says : (k : Kind) (v : Decl) → o.message ≡ some (say k v)
      → (outgoing k e ≡ none) × (outgoing k o.entry ≡ some v) × T (R.ok v) × T (may j k r)
  pub delivers : push o.delivery (list_of e.delivered) ≡ list_of o.entry.delivered
  pub publishes : push x (list_of e.published) ≡ list_of o.entry.published

-- a message of one kind says nothing of another
pub other_kind : {A : Type 0} (k l : Kind) (v w : Decl) → same_kind k l ≡ false → some (say k v) ≡ some (say l w) → A
other_kind k l v w d e = let z : k ≡ l = cc in absurd (T_not_of d (rw z (is_kind_refl l)))

pub no_message : {A : Type 0} (m : Say) → none ≡ some m → A
no_message m e = absurd (let z : ◌≡◌ {A = ℕ} 0 1 = cc in omega arith)

mark_stays : (b : Bool) (v : Decl) (o : Option Decl) → (T b → T (is_none o)) → Stays o (mark b v o)
mark_stays true v o f w e = absurd (none_some o w (none_of o (f tt)) e)
mark_stays false v o f w e = e

marked_filled : (b d : Bool) (v : Decl) (e : Entry) → (T b → T (is_none e.ready_sent)) → (T d → T (is_none e.delivered))
    → Filled e (marked b d v e)
marked_filled b d v e f g =
    record {
      send = λ w x. x;
      echo = λ q w x. x;
      ready = λ q w x. x;
      ready_sent = mark_stays b v e.ready_sent f;
      delivered = mark_stays d v e.delivered g;
      published = λ w x. x;
    }

-- neither the SEND nor the publication bears on it
pub local_same : (R : Rules) (e : Entry) (x y : Option Decl) → Local R e
    → Local R (record {
      send = x;
      echo = e.echo;
      ready = e.ready;
      ready_sent = e.ready_sent;
      delivered = e.delivered;
      published = y;
    })
local_same R e x y L =
    record {
      echoes_heeded = L.echoes_heeded;
      readies_heeded = L.readies_heeded;
      delivery_heeded = L.delivery_heeded;
      ready_backed = L.ready_backed;
      delivery_backed = L.delivery_backed;
      delivery_ok = L.delivery_ok;
    }

module _ (R : Rules) (j : ℕ) where
  -- a voucher is recorded; a READY is marked and given where b says so, a delivery made where d does
  voucher_moves : (r : ℕ) (e now : Entry) (b d : Bool) (v : Decl) → Filled e now → ((l : Kind) → outgoing l now ≡ outgoing l e)
      → now.delivered ≡ e.delivered → T (R.ok v) → (T b → T (is_none now.ready_sent)) → (T d → T (is_none now.delivered))
      → Moves R j r e (record { answer = 0; entry = marked b d v now; message = only_if b (say READY v); delivery = only_if d v }) none
  voucher_moves r e now b d v fl same ds g f f₂ =
      record {
        filled = filled_trans fl (marked_filled b d v now f f₂);
        new = new';
        says = says' b f;
        delivers = delivers' d f₂;
        publishes = sym (ap list_of (same SEND));
      }
    where
      ready' : (b : Bool) (w : Decl) → mark b v now.ready_sent ≡ some w
          → (e.ready_sent ≡ some w) ⊎ (only_if b (say READY v) ≡ some (say READY w))
      ready' true w x = inr (let z : v ≡ w = cc in cc)
      ready' false w x = inl (sym (same READY) ∙ x)

      new' : (k : Kind) (w : Decl) → outgoing k (marked b d v now) ≡ some w
          → (outgoing k e ≡ some w) ⊎ (only_if b (say READY v) ≡ some (say k w))
      new' SEND w x = inl (sym (same SEND) ∙ x)
      new' ECHO w x = inl (sym (same ECHO) ∙ x)
      new' READY w x = ready' b w x

      says' : (b : Bool) → (T b → T (is_none now.ready_sent)) → (k : Kind) (w : Decl) → only_if b (say READY v) ≡ some (say k w)
          → (outgoing k e ≡ none) × (outgoing k (marked b d v now) ≡ some w) × T (R.ok w) × T (may j k r)
      says' true f SEND w m = other_kind READY SEND v w refl m
      says' true f ECHO w m = other_kind READY ECHO v w refl m
      says' true f READY w m =
          let z : v ≡ w = cc in (sym (same READY) ∙ none_of now.ready_sent (f tt), cc, rw z at g, tt)
      says' false f k w m = no_message (say k w) m

      delivers' : (d : Bool) → (T d → T (is_none now.delivered))
          → push (only_if d v) (list_of e.delivered) ≡ list_of (mark d v now.delivered)
      delivers' true f = rw (sym ds ∙ none_of now.delivered (f tt))
      delivers' false f = ap list_of (sym ds)

  pub takes_moves : (r : ℕ) (k : Kind) (p : ℕ) (v : Decl) (e : Entry) → T (R.ok v) → heard k p e ≡ none
      → Moves R j r e (takes R k p v e) none
  unfolding takes_send takes_echo takes_ready
  takes_moves r SEND p v e g h =
      record { filled = recorded_filled SEND p v e h; new = new'; says = says'; delivers = refl; publishes = refl }
    where
      new' : (k : Kind) (w : Decl) → outgoing k (recorded SEND p v e) ≡ some w
          → (outgoing k e ≡ some w) ⊎ (some (say ECHO v) ≡ some (say k w))
      new' SEND w x = inl x
      new' ECHO w x = inr (let z : v ≡ w = cc in cc)
      new' READY w x = inl x

      says' : (k : Kind) (w : Decl) → some (say ECHO v) ≡ some (say k w)
          → (outgoing k e ≡ none) × (outgoing k (recorded SEND p v e) ≡ some w) × T (R.ok w) × T (may j k r)
      says' SEND w m = other_kind ECHO SEND v w refl m
      says' ECHO w m = let z : v ≡ w = cc in (h, cc, rw z at g, tt)
      says' READY w m = other_kind ECHO READY v w refl m
  takes_moves r ECHO p v e g h =
      voucher_moves r e (recorded ECHO p v e) (reached R.quorum e.ready_sent (upd e.echo p (some v)) v R.n) false v
      (recorded_filled ECHO p v e h) same refl g (λ t. and_l (is_none e.ready_sent) _ t) (λ t. absurd t)
    where
      same : (l : Kind) → outgoing l (recorded ECHO p v e) ≡ outgoing l e
      same SEND = refl
      same ECHO = refl
      same READY = refl
  takes_moves r READY p v e g h =
      voucher_moves r e (recorded READY p v e) (reached R.amplify e.ready_sent (upd e.ready p (some v)) v R.n)
      (reached R.deliver e.delivered (upd e.ready p (some v)) v R.n) v
      (recorded_filled READY p v e h) same refl g (λ t. and_l (is_none e.ready_sent) _ t) (λ t. and_l (is_none e.delivered) _ t)
    where
      same : (l : Kind) → outgoing l (recorded READY p v e) ≡ outgoing l e
      same SEND = refl
      same ECHO = refl
      same READY = refl

  pub refused_moves : (r a : ℕ) (e : Entry) → Moves R j r e (refused a e) none
  refused_moves r a e =
      record { filled = filled_refl e; new = λ k v x. inl x; says = λ k v x. no_message (say k v) x; delivers = refl; publishes = refl }

  reached_le : (m : ℕ) (o : Option Decl) (f : ℕ → Option Decl) (v : Decl) → T (reached m o f v R.n) → m ≤ votes f v R.n
  reached_le m o f v t = leb→le m (votes f v R.n) (and_r (is_none o) _ t)

  pub takes_local : (k : Kind) (p : ℕ) (v : Decl) (e : Entry) → T (R.ok v) → heard k p e ≡ none → Local R e
      → Local R (takes R k p v e).entry
  unfolding takes_send takes_echo takes_ready
  takes_local SEND p v e g h L = local_same R e (some v) e.published L
  takes_local ECHO p v e g h L =
      let f : ℕ → Option Decl = upd e.echo p (some v) in
      let b : Bool = reached R.quorum e.ready_sent f v R.n in
      record {
        echoes_heeded = heeds R.quorum R.n e.echo p v e.ready_sent L.echoes_heeded;
        readies_heeded = λ w a. mark_keeps b v e.ready_sent (L.readies_heeded w a);
        delivery_heeded = L.delivery_heeded;
        ready_backed = λ w x. ⊎_elim
            (λ y. ⊎_elim (λ a. inl (omega (arith, votes_up e.echo p v w R.n h))) inr (L.ready_backed w y))
            (λ y. inl (rw (← y.1) (reached_le R.quorum e.ready_sent f v y.0)))
            (mark_new b v e.ready_sent w x);
        delivery_backed = L.delivery_backed;
        delivery_ok = L.delivery_ok;
      }
  takes_local READY p v e g h L =
      let f : ℕ → Option Decl = upd e.ready p (some v) in
      let b : Bool = reached R.amplify e.ready_sent f v R.n in
      let d : Bool = reached R.deliver e.delivered f v R.n in
      record {
        echoes_heeded = λ w a. mark_keeps b v e.ready_sent (L.echoes_heeded w a);
        readies_heeded = heeds R.amplify R.n e.ready p v e.ready_sent L.readies_heeded;
        delivery_heeded = heeds R.deliver R.n e.ready p v e.delivered L.delivery_heeded;
        ready_backed = λ w x. ⊎_elim
            (λ y. ⊎_elim inl (λ a. inr (omega (arith, votes_up e.ready p v w R.n h))) (L.ready_backed w y))
            (λ y. inr (rw (← y.1) (reached_le R.amplify e.ready_sent f v y.0)))
            (mark_new b v e.ready_sent w x);
        delivery_backed = λ w x. ⊎_elim
            (λ y. omega (arith, L.delivery_backed w y, votes_up e.ready p v w R.n h))
            (λ y. rw (← y.1) (reached_le R.deliver e.delivered f v y.0))
            (mark_new d v e.delivered w x);
        delivery_ok = λ w x. ⊎_elim (L.delivery_ok w) (λ y. rw y.1 at g) (mark_new d v e.delivered w x);
      }
