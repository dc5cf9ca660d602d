-- What holds of one entry in every state of a run, with any number of wrong houses, and that each call keeps it.
use mathlib.Core.Path.{◌≡◌, refl, sym, ap, ◌∙◌}
use mathlib.Core.Bool.{Bool, true, false, not, cond, ◌&&◌}
use mathlib.Core.Logic.{◌⊎◌, inl, inr, ⊎_elim}
use mathlib.Core.Option.{Option, none, some}
use mathlib.Core.List.{List, ◌++◌}
use Prim.Native.Nat.{ℕ, suc, ◌+◌, ◌*◌, ◌≤◌, ◌<◌}
use native.Mathlib.Omega.{arith}
use lib.Dec.{T, T_not, not_T, eqb, ltb, eqb_refl, ltb→lt}
use Rattle.card.specs.Count.{bit, count}
use Rattle.card.proofs.Counting.{count_same, count_set, count_none, count_pos}
use Rattle.entry.specs.Entry.{Decl, Kind, Entry, heard, outgoing, same_kind, is_some, holds, same_entry}
use Rattle.entry.specs.Lists.{upd, at, push, tally}
use Rattle.protocol.specs.Steps.{Say, say, Out, may}
use Rattle.protocol.specs.Book.{Call, in_book, publication}
use Rattle.protocol.specs.Run.{n, Wall, Copy, Request, Power, Limited, is_honest, consumed_copy, copy_to, to_all, posted, on_it, copies_of}
use Rattle.entry.proofs.Basics.{bcase, T_of, T_not_of, true_of, not_of, and_l, and_r, and_mk, and_false, both, is_kind_eq, entry_refl}
use Rattle.entry.proofs.Basics.{is_kind_refl, some_of, is_some_of, holds_eq, eq_holds, upd_all, upd_same, upd_other}
use Rattle.protocol.proofs.Moves.{Local, no_message, list_of}
use Rattle.entry.proofs.Filled.{filled_own}
use Rattle.protocol.proofs.Calls.{Brings, Done}
use Rattle.protocol.proofs.Mail.{tally_at, tally_mono, tally_append, tally_to_all}
use Rattle.protocol.proofs.Sums.{total, total_mono, total_more}
use Rattle.protocol.proofs.Again.{way, true_to}

-- one entry of every book, and all copies
pub record View : Type 0 where
  pub house : ℕ → Entry
  pub deliveries : ℕ → List Decl
  pub publications : ℕ → List Decl
  pub mail : List Copy
  pub power : Power

-- the copies of a kind from house p to house q that are not consumed
abbrev pub unread : (sender number : ℕ) → Kind → (p q : ℕ) → List Copy → ℕ
unread j c k p q l = copies_of j c (λ m. way k (eqb p) (eqb q) m && not m.consumed) l

-- those that are
abbrev pub came : (sender number : ℕ) → Kind → (p q : ℕ) → List Copy → ℕ
came j c k p q l = copies_of j c (λ m. way k (eqb p) (eqb q) m && m.consumed) l

-- the requests of house q to house p that are not consumed
abbrev pub asking : (q p : ℕ) → List Request → ℕ
asking q p l = tally (λ m. (eqb q m.from && eqb p m.to) && not m.consumed) l

-- why house q need not have heard what house p gave: one of them is down, or a request of q to p is on its way
abbrev pub excuse : Power → (q p : ℕ) → ℕ
excuse w q p = bit (w.down q) + (bit (w.down p) + asking q p w.requests)

-- how many copies house p may have sent of a message, to the houses that pass Q: the first, one for each return, one for each help
abbrev pub load : Power → ℕ → (ℕ → Bool) → ℕ → ℕ
load w n Q p = count Q n * suc (w.returned p) + total (λ q. cond (Q q) (w.helped p q) 0) n

-- the same of all houses that pass P
abbrev pub burden : Power → ℕ → (ℕ → Bool) → (ℕ → Bool) → ℕ
burden w n Q P = total (λ p. cond (P p) (load w n Q p) 0) n

pub cond_mono : (a b : Bool) (x y : ℕ) → (T a → T b) → x ≤ y → cond a x 0 ≤ cond b y 0
cond_mono true true x y f l = l
cond_mono true false x y f l = absurd (f tt)
cond_mono false b x y f l = omega arith

pub bit_le : (a b : Bool) → (T a → T b) → bit a ≤ bit b
bit_le true true f = omega arith
bit_le true false f = absurd (f tt)
bit_le false b f = omega arith

-- of a message of kind l from house r, the copies that pass
way_to_all : (j c r : ℕ) (k l : Kind) (F Q : ℕ → Bool) (w : Decl) (n : ℕ)
    → tally (λ m. on_it j c m && way k F Q m) (to_all j c r l w n) ≡ count (λ q. (same_kind k l && F r) && Q q) n
way_to_all j c r k l F Q w n =
    tally_to_all (λ m. on_it j c m && way k F Q m) j c r l w n
    ∙ count_same _ _ n (λ q h. regroup (same_entry j c j c) (same_kind k l) (F r) (Q q) (entry_refl j c))
  where
    regroup : (t a b q : Bool) → T t → (t && (a && (b && q))) ≡ ((a && b) && q)
    regroup true true b q x = refl
    regroup true false b q x = refl
    regroup false a b q x = absurd x

module _ (B : Wall) (j c : ℕ) where
  -- of what calls gave
  pub record Books (s : View) : Type 0 where
    pub local : (r : ℕ) → Local B.rules (s.house r)
    -- who gave a message is honest and may give it, and it is plausible and on an entry of the book
    pub owner : (p : ℕ) (k : Kind) (v : Decl) → outgoing k (s.house p) ≡ some v
        → T (is_honest B p) × T (B.rules.ok v) × T (may j k p) × T (in_book B.rules B.numbers j c)
    -- what was heard from an honest house, it gave
    pub given : (r : ℕ) (k : Kind) (p : ℕ) (v : Decl) → heard k p (s.house r) ≡ some v → T (may j k p) → T (is_honest B p)
        → outgoing k (s.house p) ≡ some v
    pub delivered : (r : ℕ) → s.deliveries r ≡ list_of (s.house r).delivered
    pub published : (r : ℕ) → s.publications r ≡ list_of (s.house r).published

  -- of the copies
  pub record Post (s : View) : Type 0 where
    -- no copy is untrue
    pub truthful : copies_of j c (λ m. not (true_to s.house m)) s.mail ≡ 0
    -- a message given is one copy to each house, and at most one more for each return and help
    pub at_least : (k : Kind) (F Q : ℕ → Bool)
        → count Q (n B) * count (λ p. F p && is_some (outgoing k (s.house p))) (n B) ≤ copies_of j c (way k F Q) s.mail
    pub at_most : (k : Kind) (F Q : ℕ → Bool)
        → copies_of j c (way k F Q) s.mail ≤ burden s.power (n B) Q (λ p. F p && is_some (outgoing k (s.house p)))
    -- what house p gave, house q heard, or a copy of it is on its way, or there is an excuse
    pub reaches : Limited B s.power → (k : Kind) (p q : ℕ) (v : Decl) → outgoing k (s.house p) ≡ some v → T (is_honest B q)
        → 0 < bit (is_some (heard k p (s.house q))) + (unread j c k p q s.mail + excuse s.power q p)
    -- what house q heard from honest house p, a copy brought
    pub brought : (k : Kind) (p q : ℕ) → T (may j k p) → T (is_honest B p)
        → bit (is_some (heard k p (s.house q))) ≤ came j c k p q s.mail

  -- of help
  pub record Helping (w : Power) : Type 0 where
    pub limited : (p q : ℕ) → w.helped p q ≤ B.limit
    -- a house that returned asked each house once for each return
    pub pending : (p q : ℕ) → T (is_honest B q) → w.helped p q + asking q p w.requests ≤ w.returned q

  pub record Inv (s : View) : Type 0 where
    pub books : Books s
    pub post : Post s
    pub helping : Helping s.power

  -- a call at house r on this entry, with outcome o, that a run may make; `mail` is the mail as the call finds it
  pub record Act (s : View) (r : ℕ) (a : Call) (o : Out) (mail : List Copy) : Type 0 where
    pub here : T (is_honest B r)
    pub done : Done B.rules j r a (s.house r) o
    pub booked : (m : Say) → o.message ≡ some m → T (in_book B.rules B.numbers j c)
    pub honest : (k : Kind) (p : ℕ) (v : Decl) → Brings a k p v → T (is_honest B p) → outgoing k (s.house p) ≡ some v
    pub unmarked : (P : Copy → Bool) → ((m : Copy) → P (consumed_copy m) ≡ P m) → tally P mail ≡ tally P s.mail
    pub kept : (k : Kind) (p q : ℕ) → T (may j k p) → (x : ℕ)
        → 0 < bit (is_some (heard k p (s.house q))) + (unread j c k p q s.mail + x)
        → 0 < bit (is_some (heard k p (upd s.house r o.entry q))) + (unread j c k p q mail + x)
    pub marked : (k : Kind) (p q : ℕ) → came j c k p q s.mail ≤ came j c k p q mail
    pub carried : (k : Kind) (p : ℕ) (v : Decl) → Brings a k p v → T (is_honest B p) → 0 < came j c k p r mail

  -- what the view sees of a call on this entry
  abbrev pub acted : View → ℕ → Call → Out → List Copy → View
  acted s r a o mail =
      record {
        house = upd s.house r o.entry;
        deliveries = upd s.deliveries r (push o.delivery (s.deliveries r));
        publications = upd s.publications r (push (publication a o.answer) (s.publications r));
        mail = mail ++ posted j c r o.message (n B);
        power = s.power;
      }

  module _ (s : View) (I : Inv s) (r : ℕ) (a : Call) (o : Out) (mail : List Copy) (A : Act s r a o mail) where
    H' : ℕ → Entry
    H' = upd s.house r o.entry

    own_stays : (p : ℕ) (k : Kind) (v : Decl) → outgoing k (s.house p) ≡ some v → outgoing k (H' p) ≡ some v
    unfolding H'
    own_stays p k v =
        upd_all (λ p x. outgoing k (s.house p) ≡ some v → outgoing k x ≡ some v) s.house r o.entry
        (filled_own A.done.moves.filled k v) (λ p e. e) p

    act_owner : (p : ℕ) (k : Kind) (v : Decl) → outgoing k (H' p) ≡ some v
        → T (is_honest B p) × T (B.rules.ok v) × T (may j k p) × T (in_book B.rules B.numbers j c)
    unfolding H'
    act_owner p k v =
        upd_all (λ p x. outgoing k x ≡ some v → T (is_honest B p) × T (B.rules.ok v) × T (may j k p) × T
        (in_book B.rules B.numbers j c))
        s.house r o.entry
        (λ e. ⊎_elim (I.books.owner r k v)
        (λ m. let y = A.done.moves.says k v m in (A.here, y.2, y.3, A.booked (say k v) m))
        (A.done.moves.new k v e))
        (λ p. I.books.owner p k v) p

    -- what the call leaves as heard from an honest house, that house gave before
    pub act_heard : (k : Kind) (p : ℕ) (v : Decl) → heard k p o.entry ≡ some v → T (may j k p) → T (is_honest B p)
        → outgoing k (s.house p) ≡ some v
    act_heard k p v h m g = ⊎_elim (λ x. I.books.given r k p v x m g) (λ x. A.honest k p v x g) (A.done.hears k p v h m)

    act_given : (q : ℕ) (k : Kind) (p : ℕ) (v : Decl) → heard k p (H' q) ≡ some v → T (may j k p) → T (is_honest B p)
        → outgoing k (H' p) ≡ some v
    unfolding H'
    act_given q k p v =
        upd_all (λ q x. heard k p x ≡ some v → T (may j k p) → T (is_honest B p) → outgoing k (H' p) ≡ some v) s.house r o.entry
        (λ h m g. own_stays p k v (act_heard k p v h m g))
        (λ q h m g. own_stays p k v (I.books.given q k p v h m g)) q

    act_truthful : copies_of j c (λ m. not (true_to H' m)) (mail ++ posted j c r o.message (n B)) ≡ 0
    unfolding H'
    act_truthful =
        omega (
          arith,
          tally_append untrue mail (posted j c r o.message (n B)),
          tally_mono untrue before mail (λ m t. and_mk (on_it j c m) _ (and_l (on_it j c m) _ t)
              (not_T (true_to s.house m) (λ x. T_not (true_to H' m) (and_r (on_it j c m) _ t) (stays m x)))),
          A.unmarked before (λ m. refl),
          I.post.truthful,
          new o.message refl,
        )
      where
        untrue : Copy → Bool
        untrue m = on_it j c m && not (true_to H' m)

        before : Copy → Bool
        before m = on_it j c m && not (true_to s.house m)

        stays : (m : Copy) → T (true_to s.house m) → T (true_to H' m)
        stays m t = eq_holds _ m.decl (own_stays m.from m.kind m.decl (holds_eq _ m.decl t))

        new : (x : Option Say) → o.message ≡ x → tally untrue (posted j c r x (n B)) ≡ 0
        new none e = refl
        new (some (say k v)) e =
            let gave : outgoing k (H' r) ≡ some v = rw (upd_same s.house r o.entry) (A.done.moves.says k v e).1 in
            tally_to_all untrue j c r k v (n B)
            ∙ count_none _ (n B) (λ q l. and_false (same_entry j c j c) _
            (ap not (true_of (holds (outgoing k (H' r)) v) (eq_holds _ v gave))))

    act_at_least : (k : Kind) (F Q : ℕ → Bool)
        → count Q (n B) * count (λ p. F p && is_some (outgoing k (H' p))) (n B)
        ≤ copies_of j c (way k F Q) (mail ++ posted j c r o.message (n B))
    unfolding H'
    act_at_least k F Q =
        omega (
          arith,
          tally_append (λ m. on_it j c m && way k F Q m) mail (posted j c r o.message (n B)),
          A.unmarked (λ m. on_it j c m && way k F Q m) (λ m. refl),
          I.post.at_least k F Q,
          go o.message refl,
        )
      where
        P : ℕ → Bool
        P p = F p && is_some (outgoing k (s.house p))

        P' : ℕ → Bool
        P' p = F p && is_some (outgoing k (H' p))

        X : ℕ
        X = count Q (n B)

        still : (T (F r) → (w : Decl) → o.message ≡ some (say k w) → ⊥) → X * count P (n B) ≡ X * count P' (n B)
        still f =
            ap (λ (y : ℕ). X * y) (count_same P P' (n B)
            (λ p l. upd_all (λ p x. P p ≡ (F p && is_some (outgoing k x))) s.house r o.entry at_r (λ p. refl) p))
          where
            at_r : P r ≡ (F r && is_some (outgoing k o.entry))
            at_r =
                both (P r) (F r && is_some (outgoing k o.entry))
                (λ t. let x = some_of (outgoing k (s.house r)) (and_r (F r) _ t) in
                and_mk (F r) _ (and_l (F r) _ t) (is_some_of _ x.0 (filled_own A.done.moves.filled k x.0 x.1)))
                (λ t. let x = some_of (outgoing k o.entry) (and_r (F r) _ t) in
                and_mk (F r) _ (and_l (F r) _ t)
                (⊎_elim (is_some_of _ x.0) (λ m. absurd (f (and_l (F r) _ t) x.0 m)) (A.done.moves.new k x.0 x.1)))

        go : (x : Option Say) → o.message ≡ x → copies_of j c (way k F Q) (posted j c r x (n B)) + X * count P (n B) ≡ X * count P' (n B)
        go none e = omega (arith, still (λ t w m. no_message (say k w) (sym e ∙ m)))
        go (some (say l w)) e =
            omega (arith, way_to_all j c r k l F Q w (n B), split (same_kind k l && F r) refl)
          where
            split : (b : Bool) → (same_kind k l && F r) ≡ b → count (λ q. b && Q q) (n B) + X * count P (n B) ≡ X * count P' (n B)
            split true t =
                let z : k ≡ l = is_kind_eq k l (and_l (same_kind k l) (F r) (T_of t)) in
                let f : T (F r) = and_r (same_kind k l) (F r) (T_of t) in
                let y = A.done.moves.says k w (rw z e) in
                let one_more : count P' (n B) ≡ suc (count P (n B)) =
                count_set P P' (n B) r (ltb→lt r (n B) (and_l (ltb r (n B)) (B.honest r) A.here))
                (λ i d. rw (upd_other s.house r o.entry i d)) (and_false (F r) _ (ap is_some y.0))
                (true_of (P' r) (and_mk (F r) _ f (rw (upd_same s.house r o.entry, y.1) tt))) in
                rw one_more (omega arith)
            split false t =
                omega (
                  arith,
                  count_none (λ q. false) (n B) (λ i h. refl),
                  still (λ f x m. T_not_of t (and_mk (same_kind k l) (F r) (let z : l ≡ k = cc in rw z (is_kind_refl k)) f)),
                )

    act_at_most : (k : Kind) (F Q : ℕ → Bool)
        → copies_of j c (way k F Q) (mail ++ posted j c r o.message (n B))
        ≤ burden s.power (n B) Q (λ p. F p && is_some (outgoing k (H' p)))
    unfolding H'
    act_at_most k F Q =
        omega (
          arith,
          tally_append (λ m. on_it j c m && way k F Q m) mail (posted j c r o.message (n B)),
          A.unmarked (λ m. on_it j c m && way k F Q m) (λ m. refl),
          I.post.at_most k F Q,
          go o.message refl,
        )
      where
        P : ℕ → Bool
        P p = F p && is_some (outgoing k (s.house p))

        P' : ℕ → Bool
        P' p = F p && is_some (outgoing k (H' p))

        L : ℕ → ℕ
        L = load s.power (n B) Q

        more : (p : ℕ) → cond (P p) (L p) 0 ≤ cond (P' p) (L p) 0
        more p =
            cond_mono (P p) (P' p) (L p) (L p)
            (λ t. let x = some_of (outgoing k (s.house p)) (and_r (F p) _ t) in
            and_mk (F p) _ (and_l (F p) _ t) (is_some_of _ x.0 (own_stays p k x.0 x.1)))
            (omega arith)

        go : (x : Option Say) → o.message ≡ x
            → burden s.power (n B) Q P + copies_of j c (way k F Q) (posted j c r x (n B)) ≤ burden s.power (n B) Q P'
        go none e = omega (arith, total_mono (λ p. cond (P p) (L p) 0) (λ p. cond (P' p) (L p) 0) (n B) more)
        go (some (say l w)) e =
            omega (arith, way_to_all j c r k l F Q w (n B), split (same_kind k l && F r) refl)
          where
            split : (b : Bool) → (same_kind k l && F r) ≡ b
                → burden s.power (n B) Q P + count (λ q. b && Q q) (n B) ≤ burden s.power (n B) Q P'
            split true t =
                let z : k ≡ l = is_kind_eq k l (and_l (same_kind k l) (F r) (T_of t)) in
                let f : T (F r) = and_r (same_kind k l) (F r) (T_of t) in
                let y = A.done.moves.says k w (rw z e) in
                let was : P r ≡ false = and_false (F r) _ (ap is_some y.0) in
                let now : P' r ≡ true = true_of (P' r) (and_mk (F r) _ f (rw (upd_same s.house r o.entry, y.1) tt)) in
                total_more (λ p. cond (P p) (L p) 0) (λ p. cond (P' p) (L p) 0) (n B) r (count Q (n B))
                (ltb→lt r (n B) (and_l (ltb r (n B)) (B.honest r) A.here)) (rw (was, now) (omega arith)) more
            split false t =
                omega (
                  arith,
                  count_none (λ q. false) (n B) (λ i h. refl),
                  total_mono (λ p. cond (P p) (L p) 0) (λ p. cond (P' p) (L p) 0) (n B) more,
                )

    act_reaches : Limited B s.power → (k : Kind) (p q : ℕ) (v : Decl) → outgoing k (H' p) ≡ some v → T (is_honest B q)
        → 0 < bit (is_some (heard k p (H' q)))
        + (unread j c k p q (mail ++ posted j c r o.message (n B)) + excuse s.power q p)
    unfolding H'
    act_reaches L k p q v e g =
        ⊎_elim old new
        (upd_all (λ p x. outgoing k x ≡ some v → (outgoing k (s.house p) ≡ some v) ⊎ ((p ≡ r) × (o.message ≡ some (say k v))))
        s.house r o.entry
        (λ e. ⊎_elim inl (λ m. inr (refl, m)) (A.done.moves.new k v e)) (λ p e. inl e) p e)
      where
        test : Copy → Bool
        test m = on_it j c m && (way k (eqb p) (eqb q) m && not m.consumed)

        append : tally test (mail ++ posted j c r o.message (n B)) ≡ tally test mail + tally test (posted j c r o.message (n B))
        append = tally_append test mail (posted j c r o.message (n B))

        old : outgoing k (s.house p) ≡ some v
            → 0 < bit (is_some (heard k p (H' q)))
            + (unread j c k p q (mail ++ posted j c r o.message (n B)) + excuse s.power q p)
        old x =
            omega (
              arith,
              append,
              A.kept k p q (I.books.owner p k v x).2 (excuse s.power q p) (I.post.reaches L k p q v x g),
            )

        new : (p ≡ r) × (o.message ≡ some (say k v))
            → 0 < bit (is_some (heard k p (H' q)))
            + (unread j c k p q (mail ++ posted j c r o.message (n B)) + excuse s.power q p)
        new x =
            let y : tally test (posted j c r o.message (n B)) ≡ count (λ i. test (copy_to j c r k v i)) (n B) =
            rw x.1 (tally_to_all test j c r k v (n B)) in
            omega (
              arith,
              append,
              y,
              count_pos (λ i. test (copy_to j c r k v i)) (n B) q (ltb→lt q (n B) (and_l (ltb q (n B)) (B.honest q) g))
                  (and_mk (same_entry j c j c) _ (entry_refl j c)
                  (and_mk (way k (eqb p) (eqb q) (copy_to j c r k v q)) true
                  (and_mk (same_kind k k) _ (is_kind_refl k) (and_mk (eqb p r) _ (rw x.0 (eqb_refl r)) (eqb_refl q))) tt)),
            )

    act_brought : (k : Kind) (p q : ℕ) → T (may j k p) → T (is_honest B p)
        → bit (is_some (heard k p (H' q))) ≤ came j c k p q (mail ++ posted j c r o.message (n B))
    unfolding H'
    act_brought k p q m g =
        omega (
          arith,
          tally_append (λ x. on_it j c x && (way k (eqb p) (eqb q) x && x.consumed)) mail (posted j c r o.message (n B)),
          upd_all (λ q x. bit (is_some (heard k p x)) ≤ came j c k p q mail) s.house r o.entry
              (here (heard k p o.entry) refl) (λ q. old q) q,
        )
      where
        old : (q : ℕ) → bit (is_some (heard k p (s.house q))) ≤ came j c k p q mail
        old q = omega (arith, I.post.brought k p q m g, A.marked k p q)

        here : (x : Option Decl) → heard k p o.entry ≡ x → bit (is_some x) ≤ came j c k p r mail
        here none e = omega arith
        here (some v) e =
            ⊎_elim (λ h. let y : bit (is_some (heard k p (s.house r))) ≡ 1 = rw h in omega (arith, old r))
            (λ b. omega (arith, A.carried k p v b g)) (A.done.hears k p v e m)

    act_list : (g : Entry → Option Decl) (f : ℕ → List Decl) (x : Option Decl) → ((q : ℕ) → f q ≡ list_of (g (s.house q)))
        → push x (list_of (g (s.house r))) ≡ list_of (g o.entry) → (q : ℕ) → upd f r (push x (f r)) q ≡ list_of (g (H' q))
    unfolding H'
    act_list g f x was now q = go (eqb q r)
      where
        go : (b : Bool) → cond b (push x (f r)) (f q) ≡ list_of (g (cond b o.entry (s.house q)))
        go true = ap (push x) (was r) ∙ now
        go false = was q

    pub act_inv : Inv (acted s r a o mail)
    unfolding H'
    act_inv =
        record {
          books = record {
            local = upd_all (λ q x. Local B.rules x) s.house r o.entry (A.done.local (I.books.local r)) I.books.local;
            owner = act_owner;
            given = act_given;
            delivered = act_list (λ e. e.delivered) s.deliveries o.delivery I.books.delivered A.done.moves.delivers;
            published = act_list (λ e. e.published) s.publications (publication a o.answer) I.books.published
                A.done.moves.publishes;
          };
          post = record {
            truthful = act_truthful;
            at_least = act_at_least;
            at_most = act_at_most;
            reaches = act_reaches;
            brought = act_brought;
          };
          helping = I.helping;
        }

  -- what a copy says, its sender gave
  pub true_copy : (s : View) → Inv s → (i : ℕ) (m : Copy) → at s.mail i ≡ some m → T (on_it j c m)
      → outgoing m.kind (s.house m.from) ≡ some m.decl
  true_copy s I i m e t =
      bcase (true_to s.house m) (λ x. holds_eq _ m.decl (T_of x))
      (λ x. absurd (omega (
        arith,
        I.post.truthful,
        tally_at (λ y. on_it j c y && not (true_to s.house y)) s.mail i m e
            (and_mk (on_it j c m) _ t (not_of (true_to s.house m) x)),
      )))

  -- the same books, with another mail and other power
  abbrev pub reset : View → List Copy → Power → View
  reset u l w =
      record { house = u.house; deliveries = u.deliveries; publications = u.publications; mail = l; power = w }

  pub books_stay : (u : View) (l : List Copy) (w : Power) → Books u → Books (reset u l w)
  books_stay u l w Y =
      record {
        local = Y.local;
        owner = Y.owner;
        given = Y.given;
        delivered = Y.delivered;
        published = Y.published;
      }

  -- a call on another entry: it leaves this one, and the count of its copies by any test
  pub else_inv : (s : View) (mail : List Copy) → ((P : Copy → Bool) → copies_of j c P mail ≡ copies_of j c P s.mail) → Inv s
      → Inv (reset s mail s.power)
  else_inv s mail f I =
      record {
        books = books_stay s mail s.power I.books;
        post = record {
          truthful = f _ ∙ I.post.truthful;
          at_least = λ k F Q. omega (arith, f (way k F Q), I.post.at_least k F Q);
          at_most = λ k F Q. omega (arith, f (way k F Q), I.post.at_most k F Q);
          reaches = λ L k p q v e g. omega (
            arith,
            f (λ m. way k (eqb p) (eqb q) m && not m.consumed),
            I.post.reaches L k p q v e g,
          );
          brought = λ k p q m g. omega (arith, f (λ m. way k (eqb p) (eqb q) m && m.consumed), I.post.brought k p q m g);
        };
        helping = I.helping;
      }
