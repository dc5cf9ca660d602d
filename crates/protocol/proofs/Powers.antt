-- What crashes, returns, requests and help leave of what holds of one entry: the books stay as they are.
use mathlib.Core.Path.{◌≡◌, refl, sym, ap, ◌∙◌}
use mathlib.Core.Bool.{Bool, true, false, not, cond, ◌&&◌, and-true}
use mathlib.Core.Option.{some}
use mathlib.Core.List.{List, [], ◌∷◌, ◌++◌}
use Prim.Native.Nat.{ℕ, zero, suc, ◌+◌, ◌*◌, ◌≤◌, ◌<◌}
use native.Mathlib.Omega.{arith}
use lib.Dec.{T, eqb, ltb, eqb→eq, eqb_refl, ltb→lt, lt→ltb}
use Rattle.card.specs.Count.{bit, count}
use Rattle.card.proofs.Counting.{count_none, count_one, count_pos}
use Rattle.entry.specs.Entry.{Decl, Kind, Entry, heard, outgoing, same_kind, is_some, holds, same_entry}
use Rattle.entry.specs.Lists.{upd, at, change_at, each, tally}
use Rattle.protocol.specs.Steps.{may}
use Rattle.protocol.specs.Book.{Book}
use Rattle.protocol.specs.Run.{n, Wall, Copy, Request, Power, State, Limited, is_honest, consume_at, consumed_copy, again_on, again}
use Rattle.protocol.specs.Run.{request_to, set_down, comes, help_answer, one_more, helps, consumed_request, request_taken, on_it, copies_of}
use Rattle.entry.proofs.Basics.{bcase, T_of, T_not_of, true_of, and_l, and_r, and_mk, and_false, is_some_of, eq_holds, upd_all, upd_same}
use Rattle.protocol.proofs.Basics.{must_zero, must_pass}
use Rattle.protocol.proofs.Mail.{tally_append, tally_change}
use Rattle.protocol.proofs.Sums.{total_mono, total_more}
use Rattle.protocol.proofs.Again.{way, true_to, again_none, on_way, again_le, again_ge}
use Rattle.protocol.proofs.Invariant.{View, Books, Inv, Helping, unread, came, asking, excuse, load, burden, cond_mono, bit_le}
use Rattle.protocol.proofs.Invariant.{reset, books_stay}
use Rattle.protocol.proofs.Views.{view}

-- ---- requests

requests_to : (P : Request → Bool) (r n : ℕ) → tally P (each (λ q. request_to r q ∷ []) n) ≡ count (λ q. P (request_to r q)) n
requests_to P r zero = refl
requests_to P r (suc n) =
    omega (arith, tally_append P (each (λ q. request_to r q ∷ []) n) (request_to r n ∷ []), requests_to P r n)

-- a request consumed: no more are left of any house to any house, and no fewer of houses that it is not of
asking_less : (l : List Request) (i : ℕ) (m : Request) → at l i ≡ some m → (q p : ℕ)
    → asking q p (change_at consumed_request l i) + bit ((eqb q m.from && eqb p m.to) && not m.consumed) ≡ asking q p l
asking_less l i m e q p =
    omega (
      arith,
      tally_change (λ m. (eqb q m.from && eqb p m.to) && not m.consumed) consumed_request l i m e,
      ap bit (and_false (eqb q m.from && eqb p m.to) false refl),
    )

-- copies sent leave those that came
more_came : (j c : ℕ) (k : Kind) (p q : ℕ) (l new : List Copy) → came j c k p q l ≤ came j c k p q (l ++ new)
more_came j c k p q l new =
    omega (arith, tally_append (λ m. on_it j c m && (way k (eqb p) (eqb q) m && m.consumed)) l new)

-- ---- the answers of help

help_zero : (n d p k : ℕ) → help_answer n d p k ≡ 0 → (p < n) × (k < d)
unfolding help_answer
help_zero n d p k e =
    let x = must_zero (ltb p n) 3 _ e in
    let y = must_zero (ltb k d) 13 _ x.1 in
    (ltb→lt p n x.0, ltb→lt k d y.0)

help_passes : (n d p k : ℕ) → p < n → k < d → help_answer n d p k ≡ 0
unfolding help_answer
help_passes n d p k a b = must_pass (ltb p n) 4 _ (lt→ltb p n a) ∙ must_pass (ltb k d) 14 _ (lt→ltb k d b)

-- ---- what may have been sent grows with each return and each help

abbrev back : Power → ℕ → ℕ → Power
back w n r =
    record {
      down = upd w.down r false;
      returned = upd w.returned r (suc (w.returned r));
      helped = w.helped;
      requests = w.requests ++ each (λ q. request_to r q ∷ []) n;
    }

abbrev aid : Power → ℕ → ℕ → Power
aid w r p =
    record { down = w.down; returned = w.returned; helped = one_more w.helped r p; requests = w.requests }

module _ (w : Power) (n r : ℕ) (Q : ℕ → Bool) where
  back_returned : (i : ℕ) → w.returned i ≤ (back w n r).returned i
  back_returned i =
      upd_all (λ i x. w.returned i ≤ x) w.returned r (suc (w.returned r)) (omega arith) (λ i. omega arith) i

  grow : (a : ℕ) {x y : ℕ} → x ≤ y → a * suc x ≤ a * suc y
  grow zero l = omega arith
  grow (suc a) l = omega (arith, grow a l)

  back_burden : (P : ℕ → Bool) → r < n → burden w n Q P + cond (P r) (count Q n) 0 ≤ burden (back w n r) n Q P
  back_burden P h =
      total_more (λ p. cond (P p) (load w n Q p) 0) (λ p. cond (P p) (load (back w n r) n Q p) 0) n r (cond (P r) (count Q n) 0) h
      (here (P r))
      (λ i. cond_mono (P i) (P i) (load w n Q i) (load (back w n r) n Q i) (λ t. t) (omega (arith, grow (count Q n) (back_returned i))))
    where
      here : (b : Bool) → cond b (load w n Q r) 0 + cond b (count Q n) 0 ≤ cond b (load (back w n r) n Q r) 0
      here true = rw (upd_same w.returned r (suc (w.returned r))) (omega arith)
      here false = omega arith

  module _ (p : ℕ) (h : r < n) (l : p < n) where
    more : (i q : ℕ) → w.helped i q ≤ one_more w.helped r p i q
    more i q =
        upd_all (λ i f. w.helped i q ≤ f q) w.helped r (upd (w.helped r) p (suc (w.helped r p)))
        (upd_all (λ q x. w.helped r q ≤ x) (w.helped r) p (suc (w.helped r p)) (omega arith) (λ q. omega arith) q)
        (λ i. omega arith) i

    there : count (λ q. eqb p q && Q q) n ≤ bit (Q p)
    there =
        bcase (Q p)
        (λ t. omega (arith, ap bit t, count_one (λ q. eqb p q && Q q) n p (λ q y. sym (eqb→eq p q (and_l (eqb p q) _ y)))))
        (λ t. omega (
          arith,
          ap bit t,
          count_none (λ q. eqb p q && Q q) n (λ q z. bcase (eqb p q)
              (λ y. and_false (eqb p q) (Q q) (ap Q (sym (eqb→eq p q (T_of y))) ∙ t)) (λ y. rw y)),
        ))

    aid_load : load w n Q r + count (λ q. eqb p q && Q q) n ≤ load (aid w r p) n Q r
    aid_load =
        omega (
          arith,
          there,
          total_more (λ q. cond (Q q) (w.helped r q) 0) (λ q. cond (Q q) (one_more w.helped r p r q) 0) n p (bit (Q p)) l
              (here (Q p)) (λ i. cond_mono (Q i) (Q i) _ _ (λ t. t) (more r i)),
        )
      where
        here : (b : Bool) → cond b (w.helped r p) 0 + bit b ≤ cond b (one_more w.helped r p r p) 0
        here true =
            rw (upd_same w.helped r (upd (w.helped r) p (suc (w.helped r p))), upd_same (w.helped r) p (suc (w.helped r p)))
            (omega arith)
        here false = omega arith

    aid_burden : (P : ℕ → Bool) → burden w n Q P + cond (P r) (count (λ q. eqb p q && Q q) n) 0 ≤ burden (aid w r p) n Q P
    aid_burden P =
        total_more (λ i. cond (P i) (load w n Q i) 0) (λ i. cond (P i) (load (aid w r p) n Q i) 0) n r
        (cond (P r) (count (λ q. eqb p q && Q q) n) 0) h (here (P r))
        (λ i. cond_mono (P i) (P i) (load w n Q i) (load (aid w r p) n Q i) (λ t. t) (omega (
          arith,
          total_mono (λ q. cond (Q q) (w.helped i q) 0) (λ q. cond (Q q) (one_more w.helped r p i q) 0) n
              (λ q. cond_mono (Q q) (Q q) _ _ (λ t. t) (more i q)),
        )))
      where
        here : (b : Bool) → cond b (load w n Q r) 0 + cond b (count (λ q. eqb p q && Q q) n) 0 ≤ cond b (load (aid w r p) n Q r) 0
        here true = aid_load
        here false = omega arith

-- ---- the steps

module _ (B : Wall) (j c : ℕ) where
  below : (p : ℕ) → T (is_honest B p) → p < n B
  below p g = ltb→lt p (n B) (and_l (ltb p (n B)) (B.honest p) g)

  abbrev Reached : View → Kind → ℕ → ℕ → Type 0
  Reached u k p q = 0 < bit (is_some (heard k p (u.house q))) + (unread j c k p q u.mail + excuse u.power q p)

  pub lost_inv : (u : View) (i : ℕ) (m : Copy) → at u.mail i ≡ some m → u.power.down m.to ≡ true → Inv B j c u
      → Inv B j c (reset B j c u (consume_at u.mail i) u.power)
  lost_inv u i m e d I =
      record {
        books = books_stay B j c u (consume_at u.mail i) u.power I.books;
        post = record {
          truthful = same (λ m. not (true_to u.house m)) (λ m. refl) ∙ I.post.truthful;
          at_least = λ k F Q. omega (arith, same (way k F Q) (λ m. refl), I.post.at_least k F Q);
          at_most = λ k F Q. omega (arith, same (way k F Q) (λ m. refl), I.post.at_most k F Q);
          reaches = λ L k p q v x g. go k p q (I.post.reaches L k p q v x g) (way k (eqb p) (eqb q) m) refl;
          brought = λ k p q y g. omega (
            arith,
            I.post.brought k p q y g,
            tally_change (λ x. on_it j c x && (way k (eqb p) (eqb q) x && x.consumed)) consumed_copy u.mail i m e,
            bit_le (on_it j c m && (way k (eqb p) (eqb q) m && m.consumed)) (on_it j c m && (way k (eqb p) (eqb q) m && true))
                (λ t. let z = and_r (on_it j c m) _ t in
                and_mk (on_it j c m) _ (and_l (on_it j c m) _ t)
                (and_mk (way k (eqb p) (eqb q) m) true (and_l (way k (eqb p) (eqb q) m) _ z) tt)),
          );
        };
        helping = I.helping;
      }
    where
      same : (P : Copy → Bool) → ((m : Copy) → P (consumed_copy m) ≡ P m) → copies_of j c P (consume_at u.mail i) ≡ copies_of j c P u.mail
      same P f =
          omega (
            arith,
            tally_change (λ m. on_it j c m && P m) consumed_copy u.mail i m e,
            ap (λ (b : Bool). bit (on_it j c m && b)) (f m),
          )

      go : (k : Kind) (p q : ℕ) → Reached u k p q → (b : Bool) → way k (eqb p) (eqb q) m ≡ b
          → Reached (reset B j c u (consume_at u.mail i) u.power) k p q
      go k p q l true t =
          let y : T (eqb p m.from && eqb q m.to) = and_r (same_kind k m.kind) _ (T_of t) in
          let z : q ≡ m.to = eqb→eq q m.to (and_r (eqb p m.from) _ y) in
          let one : bit (u.power.down q) ≡ 1 = rw (z, d) in
          omega arith
      go k p q l false t =
          omega (
            arith,
            l,
            tally_change (λ x. on_it j c x && (way k (eqb p) (eqb q) x && not x.consumed)) consumed_copy u.mail i m e,
            ap bit (and_false (on_it j c m) (way k (eqb p) (eqb q) m && not m.consumed) (rw t)),
          )

  pub crash_inv : (u : View) (r : ℕ) → Inv B j c u → Inv B j c (reset B j c u u.mail (set_down u.power r true))
  crash_inv u r I =
      record {
        books = books_stay B j c u u.mail (set_down u.power r true) I.books;
        post = record {
          truthful = I.post.truthful;
          at_least = I.post.at_least;
          at_most = I.post.at_most;
          reaches = λ L k p q v x g. omega (arith, I.post.reaches L k p q v x g, more p, more q);
          brought = I.post.brought;
        };
        helping = record { limited = I.helping.limited; pending = I.helping.pending };
      }
    where
      more : (q : ℕ) → bit (u.power.down q) ≤ bit (upd u.power.down r true q)
      more q =
          bit_le (u.power.down q) (upd u.power.down r true q)
          (upd_all (λ q x. T (u.power.down q) → T x) u.power.down r true (λ t. tt) (λ q t. t) q)

  -- what house r sends again, to the houses that pass Q
  module _ (u : View) (Y : Books B j c u) (Q : ℕ → Bool) (r : ℕ) (b : Book) (it : b j c ≡ u.house r) where
    abbrev sent : List Copy
    sent = again Q r (n B) B.numbers b

    sent_truthful : copies_of j c (λ m. not (true_to u.house m)) sent ≡ 0
    sent_truthful =
        omega (
          arith,
          again_le Q r (n B) B.numbers b j c (λ m. not (true_to u.house m)),
          again_none Q r (n B) (λ m. on_it j c m && not (true_to u.house m)) j c (b j c)
              (λ l v q e. and_false (same_entry j c j c) _
              (ap not (true_of (holds (outgoing l (u.house r)) v) (eq_holds _ v (ap (outgoing l) (sym it) ∙ e))))),
        )

    sent_way : (k : Kind) (F Q₂ : ℕ → Bool)
        → copies_of j c (way k F Q₂) sent ≤ cond (F r && is_some (outgoing k (u.house r))) (count (λ q. Q q && Q₂ q) (n B)) 0
    sent_way k F Q₂ =
        let x = on_way Q r (n B) j c k F Q₂ (way k F Q₂) (λ l v q. refl) (b j c) in
        let X : ℕ = count (λ q. Q q && Q₂ q) (n B) in
        omega (
          arith,
          again_le Q r (n B) B.numbers b j c (way k F Q₂),
          x ∙ ap (λ (e : Entry). cond (F r && is_some (outgoing k e)) X 0) it,
        )

    -- of what it gave, one is on its way
    sent_unread : (k : Kind) (v : Decl) (q : ℕ) → outgoing k (u.house r) ≡ some v → T (is_honest B q) → T (Q q) → 0 < unread j c k r q sent
    sent_unread k v q e g t =
        let P : Copy → Bool = λ m. way k (eqb r) (eqb q) m && not m.consumed in
        let x = on_way Q r (n B) j c k (eqb r) (eqb q) P (λ l v q. and-true _) (b j c) in
        let y : (eqb r r && is_some (outgoing k (b j c))) ≡ true =
        true_of _ (and_mk (eqb r r) _ (eqb_refl r) (is_some_of _ v (ap (outgoing k) it ∙ e))) in
        let z : copies_of j c P (again_on Q r (n B) j c (b j c)) ≡ count (λ i. Q i && eqb q i) (n B) = rw y at x in
        omega (
          arith,
          z,
          again_ge Q r (n B) B.numbers b j c P (Y.owner r k v e).3,
          count_pos (λ i. Q i && eqb q i) (n B) q (below q g) (and_mk (Q q) _ t (eqb_refl q)),
        )

  -- a house returns
  pub comes_inv : (s : State) (r : ℕ) → T (is_honest B r) → Inv B j c (view j c s) → Inv B j c (view j c (comes B r s))
  unfolding comes
  comes_inv s r g₀ I =
      record {
        books = books_stay B j c (view j c s) _ _ I.books;
        post = record {
          truthful = omega (
            arith,
            tally_append (λ m. on_it j c m && not (true_to u.house m)) s.mail new,
            sent_truthful u I.books all r b refl,
            I.post.truthful,
          );
          at_least = λ k F Q. omega (arith, tally_append (λ m. on_it j c m && way k F Q m) s.mail new, I.post.at_least k F Q);
          at_most = λ k F Q. omega (
            arith,
            tally_append (λ m. on_it j c m && way k F Q m) s.mail new,
            I.post.at_most k F Q,
            sent_way u I.books all r b refl k F Q,
            back_burden s.power (n B) r Q (λ p. F p && is_some (outgoing k (u.house p))) (below r g₀),
          );
          reaches = reaches';
          brought = λ k p q y g. omega (arith, more_came j c k p q s.mail new, I.post.brought k p q y g);
        };
        helping = record { limited = I.helping.limited; pending = pending' };
      }
    where
      u : View
      u = view j c s

      w : Power
      w = s.power

      b : Book
      b = s.gave.books r

      all : ℕ → Bool
      all q = true

      new : List Copy
      new = again all r (n B) B.numbers b

      asks : (q p : ℕ) → asking q p (back w (n B) r).requests
          ≡ asking q p w.requests + count (λ i. (eqb q r && eqb p i) && true) (n B)
      asks q p =
          let P : Request → Bool = λ m. (eqb q m.from && eqb p m.to) && not m.consumed in
          omega (arith, tally_append P w.requests (each (λ q. request_to r q ∷ []) (n B)), requests_to P r (n B))

      pending' : (p q : ℕ) → T (is_honest B q) → w.helped p q + asking q p (back w (n B) r).requests ≤ (back w (n B) r).returned q
      pending' p q g =
          bcase (eqb q r)
          (λ t. let z : q ≡ r = eqb→eq q r (T_of t) in
          let y : (back w (n B) r).returned q ≡ suc (w.returned q) = rw z (upd_same w.returned r (suc (w.returned r))) in
          omega (
            arith,
            y,
            asks q p,
            I.helping.pending p q g,
            count_one (λ i. (eqb q r && eqb p i) && true) (n B) p
                (λ i x. sym (eqb→eq p i (and_r (eqb q r) _ (and_l (eqb q r && eqb p i) true x)))),
          ))
          (λ t. omega (
            arith,
            back_returned w (n B) r all q,
            asks q p,
            I.helping.pending p q g,
            count_none (λ i. (eqb q r && eqb p i) && true) (n B) (λ i l. rw t),
          ))

      reaches' : Limited B (back w (n B) r) → (k : Kind) (p q : ℕ) (v : Decl) → outgoing k (u.house p) ≡ some v → T (is_honest B q)
          → Reached (view j c (comes B r s)) k p q
      reaches' L k p q v e g =
          bcase (eqb q r)
          (λ t. let z : q ≡ r = eqb→eq q r (T_of t) in omega (
            arith,
            asks q p,
            count_pos (λ i. (eqb q r && eqb p i) && true) (n B) p (below p (I.books.owner p k v e).0)
                (and_mk (eqb q r && eqb p p) true (and_mk (eqb q r) _ (T_of t) (eqb_refl p)) tt),
          ))
          (λ t. bcase (eqb p r)
          (λ y. let z : p ≡ r = eqb→eq p r (T_of y) in
          let one : 0 < unread j c k p q new = rw z (sent_unread u I.books all r b refl k v q (rw z at e) g tt) in
          omega (arith, more k p q))
          (λ y. let same : upd w.down r false q ≡ w.down q = rw t in
          let same₂ : upd w.down r false p ≡ w.down p = rw y in
          omega (
            arith,
            ap bit same,
            ap bit same₂,
            more k p q,
            asks q p,
            I.post.reaches (λ x h. omega (arith, L x h, back_returned w (n B) r all x)) k p q v e g,
          )))
        where
          more : (k : Kind) (p q : ℕ) → unread j c k p q (s.mail ++ new) ≡ unread j c k p q s.mail + unread j c k p q new
          more k p q = tally_append (λ m. on_it j c m && (way k (eqb p) (eqb q) m && not m.consumed)) s.mail new

  -- all that holds, but that asker p may lack a message of house r
  pub record Nearly (s : State) (r p : ℕ) : Type 0 where
    pub books : Books B j c (view j c s)
    pub truthful : copies_of j c (λ m. not (true_to (view j c s).house m)) s.mail ≡ 0
    pub at_least : (k : Kind) (F Q : ℕ → Bool)
        → count Q (n B) * count (λ p. F p && is_some (outgoing k ((view j c s).house p))) (n B) ≤ copies_of j c (way k F Q) s.mail
    pub at_most : (k : Kind) (F Q : ℕ → Bool)
        → copies_of j c (way k F Q) s.mail ≤ burden s.power (n B) Q (λ p. F p && is_some (outgoing k ((view j c s).house p)))
    almost : Limited B s.power → (k : Kind) (p₂ q : ℕ) (v : Decl) → outgoing k ((view j c s).house p₂) ≡ some v → T (is_honest B q)
        → ((p₂ ≡ r) × (q ≡ p) → ⊥) → Reached (view j c s) k p₂ q
    pub brought : (k : Kind) (p₂ q : ℕ) → T (may j k p₂) → T (is_honest B p₂)
        → bit (is_some (heard k p₂ ((view j c s).house q))) ≤ came j c k p₂ q s.mail
    pub helping : Helping B j c s.power
    -- an honest asker has a return for each help and each request, and one more
    pub room : T (is_honest B p) → suc (s.power.helped r p + asking p r s.power.requests) ≤ s.power.returned p

  module _ (s : State) (r p : ℕ) (g₀ : T (is_honest B r)) (N : Nearly s r p) where
    w : Power
    w = s.power

    abbrev u : View
    u = view j c s

    abbrev b : Book
    b = s.gave.books r

    abbrev new : List Copy
    new = again (eqb p) r (n B) B.numbers b

    aided : State
    unfolding w
    aided = record { gave = s.gave; mail = s.mail ++ new; power = aid w r p }

    aid_inv : p < n B → w.helped r p < B.limit → Inv B j c (view j c aided)
    unfolding w aided
    aid_inv l low =
        record {
          books = books_stay B j c u _ _ N.books;
          post = record {
            truthful = omega (
              arith,
              tally_append (λ m. on_it j c m && not (true_to u.house m)) s.mail new,
              sent_truthful u N.books (eqb p) r b refl,
              N.truthful,
            );
            at_least = λ k F Q. omega (arith, tally_append (λ m. on_it j c m && way k F Q m) s.mail new, N.at_least k F Q);
            at_most = λ k F Q. omega (
              arith,
              tally_append (λ m. on_it j c m && way k F Q m) s.mail new,
              N.at_most k F Q,
              sent_way u N.books (eqb p) r b refl k F Q,
              aid_burden w (n B) r Q p (below r g₀) l (λ p. F p && is_some (outgoing k (u.house p))),
            );
            reaches = reaches';
            brought = λ k x y z g. omega (arith, more_came j c k x y s.mail new, N.brought k x y z g);
          };
          helping = record { limited = limited'; pending = pending' };
        }
      where
        limited' : (x y : ℕ) → one_more w.helped r p x y ≤ B.limit
        limited' x y =
            upd_all (λ x f. f y ≤ B.limit) w.helped r (upd (w.helped r) p (suc (w.helped r p)))
            (upd_all (λ y z. z ≤ B.limit) (w.helped r) p (suc (w.helped r p)) (omega arith) (N.helping.limited r) y)
            (λ x. N.helping.limited x y) x

        pending' : (x y : ℕ) → T (is_honest B y) → one_more w.helped r p x y + asking y x w.requests ≤ w.returned y
        pending' x y g =
            upd_all (λ x f. f y + asking y x w.requests ≤ w.returned y) w.helped r (upd (w.helped r) p (suc (w.helped r p)))
            (upd_all (λ y z. T (is_honest B y) → z + asking y r w.requests ≤ w.returned y) (w.helped r) p (suc (w.helped r p))
            (λ g. omega (arith, N.room g)) (λ y g. N.helping.pending r y g) y g)
            (λ x. N.helping.pending x y g) x

        more : (k : Kind) (x y : ℕ) → unread j c k x y (s.mail ++ new) ≡ unread j c k x y s.mail + unread j c k x y new
        more k x y = tally_append (λ m. on_it j c m && (way k (eqb x) (eqb y) m && not m.consumed)) s.mail new

        reaches' : Limited B w → (k : Kind) (x y : ℕ) (v : Decl) → outgoing k (u.house x) ≡ some v → T (is_honest B y)
            → Reached (view j c aided) k x y
        reaches' L k x y v e g =
            bcase (eqb x r && eqb y p)
            (λ t. let z : x ≡ r = eqb→eq x r (and_l (eqb x r) _ (T_of t)) in
            let z₂ : y ≡ p = eqb→eq y p (and_r (eqb x r) _ (T_of t)) in
            let one : 0 < unread j c k x y new =
            rw z (sent_unread u N.books (eqb p) r b refl k v y (rw z at e) g (rw z₂ (eqb_refl p))) in
            omega (arith, more k x y))
            (λ t. omega (
              arith,
              more k x y,
              N.almost L k x y v e g (λ d. T_not_of t (and_mk (eqb x r) _ (rw d.0 (eqb_refl r)) (rw d.1 (eqb_refl p)))),
            ))

    -- a house helps, or answers that it helped enough
    pub helps_inv : Inv B j c (view j c (helps B r p s))
    unfolding helps w aided
    helps_inv = go (eqb (help_answer (n B) B.limit p (w.helped r p)) 0) refl
      where
        refused : (help_answer (n B) B.limit p (w.helped r p) ≡ 0 → ⊥) → Inv B j c (view j c s)
        refused f =
            record {
              books = N.books;
              post = record {
                truthful = N.truthful;
                at_least = N.at_least;
                at_most = N.at_most;
                reaches = λ L k x y v e g. N.almost L k x y v e g (λ d.
                    let h : T (is_honest B p) = rw d.1 at g in
                    f (help_passes (n B) B.limit p (w.helped r p) (below p h) (omega (arith, N.room h, L p h))));
                brought = N.brought;
              };
              helping = N.helping;
            }

        go : (y : Bool) → eqb (help_answer (n B) B.limit p (w.helped r p)) 0 ≡ y → Inv B j c (view j c (cond y aided s))
        go true t =
            let x = help_zero (n B) B.limit p (w.helped r p) (eqb→eq _ 0 (T_of t)) in
            aid_inv x.0 x.1
        go false t = refused (λ e. T_not_of t (rw e tt))

  -- a request from a wrong house
  pub pleaded : (s : State) (r p : ℕ) → (T (is_honest B p) → ⊥) → Inv B j c (view j c s) → Nearly s r p
  pleaded s r p f I =
      record {
        books = I.books;
        truthful = I.post.truthful;
        at_least = I.post.at_least;
        at_most = I.post.at_most;
        almost = λ L k x y v e g d. I.post.reaches L k x y v e g;
        brought = I.post.brought;
        helping = I.helping;
        room = λ g. absurd (f g);
      }

  -- a request is consumed
  module _ (s : State) (i : ℕ) (m : Request) (e₀ : at s.power.requests i ≡ some m) (I : Inv B j c (view j c s)) where
    less : (q p : ℕ)
        → asking q p (change_at consumed_request s.power.requests i) + bit ((eqb q m.from && eqb p m.to) && not m.consumed)
        ≡ asking q p s.power.requests
    less = asking_less s.power.requests i m e₀

    almost' : Limited B s.power → (k : Kind) (x y : ℕ) (v : Decl) → outgoing k ((view j c s).house x) ≡ some v → T (is_honest B y)
        → ((x ≡ m.to) × (y ≡ m.from) → ⊥) → Reached (view j c (request_taken i s)) k x y
    almost' L k x y v e g f =
        bcase (eqb y m.from && eqb x m.to)
        (λ t. absurd (f (eqb→eq x m.to (and_r (eqb y m.from) _ (T_of t)), eqb→eq y m.from (and_l (eqb y m.from) _ (T_of t)))))
        (λ t. let z : bit ((eqb y m.from && eqb x m.to) && not m.consumed) ≡ 0 = rw t in
        omega (arith, less y x, I.post.reaches L k x y v e g))

    helping' : Helping B j c (request_taken i s).power
    helping' = record { limited = I.helping.limited; pending = λ x y g. omega (arith, less y x, I.helping.pending x y g) }

    pub taken_nearly : m.consumed ≡ false → Nearly (request_taken i s) m.to m.from
    taken_nearly un =
        record {
          books = books_stay B j c (view j c s) _ _ I.books;
          truthful = I.post.truthful;
          at_least = I.post.at_least;
          at_most = I.post.at_most;
          almost = almost';
          brought = I.post.brought;
          helping = helping';
          room = λ g. let t = and_mk (eqb m.from m.from) (eqb m.to m.to) (eqb_refl m.from) (eqb_refl m.to) in
              let z : bit ((eqb m.from m.from && eqb m.to m.to) && not m.consumed) ≡ 1 =
              rw (true_of (eqb m.from m.from && eqb m.to m.to) t, un)
              in
              omega (arith, less m.from m.to, I.helping.pending m.to m.from g);
        }

    -- at a house that is down
    pub taken_inv : s.power.down m.to ≡ true → Inv B j c (view j c (request_taken i s))
    taken_inv d =
        record {
          books = books_stay B j c (view j c s) _ _ I.books;
          post = record {
            truthful = I.post.truthful;
            at_least = I.post.at_least;
            at_most = I.post.at_most;
            reaches = λ L k x y v e g. bcase (eqb x m.to)
                (λ t. let one : bit (s.power.down x) ≡ 1 = rw (eqb→eq x m.to (T_of t), d) in omega arith)
                (λ t. almost' L k x y v e g (λ f. T_not_of t (rw f.0 (eqb_refl m.to))));
            brought = I.post.brought;
          };
          helping = helping';
        }
