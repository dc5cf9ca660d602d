-- With any number of wrong houses: how many copies are sent on one entry, one delivery at each house, none implausible, and every
-- copy of an honest house accepted.
use mathlib.Core.Path.{◌≡◌, refl, sym, ap, subst, ◌∙◌}
use mathlib.Core.Bool.{Bool, true, false, not, cond, ◌&&◌, and-true}
use mathlib.Core.Logic.{inl, inr, ⊎_elim}
use mathlib.Core.Option.{Option, none, some}
use mathlib.Core.List.{List, [], ◌∷◌}
use Prim.Native.Nat.{ℕ, suc, ◌+◌, ◌*◌, ◌≤◌, ◌<◌}
use native.Mathlib.Nat.{mul-le-mul_left}
use native.Mathlib.Omega.{arith}
use lib.Dec.{T, eqb, ltb, eqb→eq, eqb_refl}
use lib.ListN.{length}
use borrow.Author.Tests.{lt-ltb}
use Rattle.card.specs.Count.{bit, count}
use Rattle.card.proofs.Counting.{count_mono, count_not, count_none, count_one}
use Rattle.entry.specs.Entry.{Decl, Kind, SEND, ECHO, READY, heard, outgoing, same_kind, is_some}
use Rattle.protocol.specs.Steps.{publish, publish_answer, publishes}
use Rattle.protocol.specs.Book.{Book, publishing, outcome}
use Rattle.protocol.specs.Run.{n, Wall, Copy, State, Limited, is_honest, h, on_it, copies_of}
use Rattle.entry.specs.Lists.{at}
use Rattle.protocol.specs.Claims.{Safe, Bounded, Single}
use Rattle.entry.proofs.Basics.{true_of, not_of, and_l, and_r, and_mk, is_kind_refl, some_of, entry_refl}
use Rattle.protocol.proofs.Moves.{list_of}
use Rattle.protocol.proofs.Slots.{run_fills}
use Rattle.protocol.proofs.Mail.{copies_kinds, copies_split, tally_at, tally_same}
use Rattle.protocol.proofs.Sums.{total_most}
use Rattle.protocol.proofs.Again.{way}
use Rattle.protocol.proofs.Invariant.{View, Inv, load}
use Rattle.protocol.proofs.Views.{view}
use Rattle.protocol.proofs.Consuming.{answers, sent_by}

pub count_all : (n : ℕ) → count (λ i. true) n ≡ n
count_all n = omega (arith, count_not (λ i. true) n, count_none (λ i. false) n (λ i l. refl))

length_list_of : (o : Option Decl) → length (list_of o) ≤ 1
length_list_of none = omega arith
length_list_of (some v) = omega arith

pub one_of : (o : Option Decl) (v : Decl) → list_of o ≡ v ∷ [] → o ≡ some v
one_of none v e = absurd (let z : ◌≡◌ {A = ℕ} 0 1 = cc in omega arith)
one_of (some w) v e = let z : w ≡ v = cc in cc

-- a READY copy is one from any house to any
pub readies_way : (j c : ℕ) (l : List Copy)
    → copies_of j c (λ m. same_kind READY m.kind) l ≡ copies_of j c (way READY (λ p. true) (λ q. true)) l
readies_way j c l =
    tally_same _ _ l (λ m. ap (λ (b : Bool). on_it j c m && b) (sym (and-true (same_kind READY m.kind))))

module _ (B : Wall) (j c : ℕ) (s : View) (I : Inv B j c s) where
  -- how many houses that pass F gave a message of the kind
  abbrev pub gave : Kind → (ℕ → Bool) → ℕ
  gave k F = count (λ p. F p && is_some (outgoing k (s.house p))) (n B)

  giver : (k : Kind) (F : ℕ → Bool) (p : ℕ) → T (F p && is_some (outgoing k (s.house p))) → (v : Decl) × (outgoing k (s.house p) ≡ some v)
  giver k F p t = some_of (outgoing k (s.house p)) (and_r (F p) _ t)

  pub gave_le : (k : Kind) (F : ℕ → Bool) → gave k F ≤ h B
  gave_le k F =
      count_mono (λ p. F p && is_some (outgoing k (s.house p))) (is_honest B) (n B)
      (λ p l t. let x = giver k F p t in (I.books.owner p k x.0 x.1).0)

  pub gave_send : (F : ℕ → Bool) → gave SEND F ≤ 1
  gave_send F =
      count_one (λ p. F p && is_some (outgoing SEND (s.house p))) (n B) j
      (λ p t. let x = giver SEND F p t in eqb→eq p j (I.books.owner p SEND x.0 x.1).2)

  -- each of them at most that many copies, where the power says so
  pub way_le : (k : Kind) (F Q : ℕ → Bool) (y : ℕ) → ((p : ℕ) → T (is_honest B p) → load s.power (n B) Q p ≤ y)
      → copies_of j c (way k F Q) s.mail ≤ y * gave k F
  way_le k F Q y f =
      omega (
        arith,
        I.post.at_most k F Q,
        total_most (λ p. F p && is_some (outgoing k (s.house p)))
            (λ p. cond (F p && is_some (outgoing k (s.house p))) (load s.power (n B) Q p) 0) (n B) y
            (λ p. one (F p && is_some (outgoing k (s.house p))) p
            (λ t. let x = giver k F p t in f p (I.books.owner p k x.0 x.1).0)),
      )
    where
      one : (b : Bool) (p : ℕ) → (T b → load s.power (n B) Q p ≤ y) → cond b (load s.power (n B) Q p) 0 ≤ y * bit b
      one true p f = omega (arith, f tt)
      one false p f = omega arith

  -- where d = 0, none but the first
  pub no_more : (Q : ℕ → Bool) → B.limit ≡ 0 → Limited B s.power → (p : ℕ) → T (is_honest B p)
      → load s.power (n B) Q p ≤ count Q (n B)
  no_more Q z L p g =
      let none_back : s.power.returned p ≡ 0 = omega (arith, L p g) in
      let a : count Q (n B) * suc (s.power.returned p) ≡ count Q (n B) = rw none_back (omega arith) in
      omega (
        arith,
        total_most (λ q. true) (λ q. cond (Q q) (s.power.helped p q) 0) (n B) 0 (λ q. zero_is (Q q) q),
      )
    where
      zero_is : (b : Bool) (q : ℕ) → cond b (s.power.helped p q) 0 ≤ 0 * 1
      zero_is true q = omega (arith, I.helping.limited p q)
      zero_is false q = omega arith

  -- and where each honest house returned at most d times, two for each return
  few_more : Limited B s.power → (Q : ℕ → Bool) (p : ℕ) → T (is_honest B p)
      → load s.power (n B) Q p ≤ count Q (n B) + 2 * (count Q (n B) * B.limit)
  few_more L Q p g =
      omega (
        arith,
        mul-le-mul_left (count Q (n B)) (L p g),
        total_most Q (λ q. cond (Q q) (s.power.helped p q) 0) (n B) B.limit (λ q. one (Q q) q),
      )
    where
      one : (b : Bool) (q : ℕ) → cond b (s.power.helped p q) 0 ≤ B.limit * bit b
      one true q = omega (arith, I.helping.limited p q)
      one false q = omega arith

  -- the copies of the three kinds
  pub kinds_le : (F Q : ℕ → Bool) (y : ℕ) → ((p : ℕ) → T (is_honest B p) → load s.power (n B) Q p ≤ y)
      → copies_of j c (λ m. F m.from && Q m.to) s.mail ≤ y * gave SEND F + y * gave ECHO F + y * gave READY F
  kinds_le F Q y f =
      omega (
        arith,
        copies_kinds j c (λ m. F m.from && Q m.to) s.mail,
        way_le SEND F Q y f,
        way_le ECHO F Q y f,
        way_le READY F Q y f,
      )

  pub kinds_ge : (F Q : ℕ → Bool)
      → count Q (n B) * gave SEND F + count Q (n B) * gave ECHO F + count Q (n B) * gave READY F
      ≤ copies_of j c (λ m. F m.from && Q m.to) s.mail
  kinds_ge F Q =
      omega (
        arith,
        copies_kinds j c (λ m. F m.from && Q m.to) s.mail,
        I.post.at_least SEND F Q,
        I.post.at_least ECHO F Q,
        I.post.at_least READY F Q,
      )

  -- at most one message and two more of each honest house, to each house that passes Q
  pub sent_le : (F Q : ℕ → Bool) → B.limit ≡ 0 → Limited B s.power
      → copies_of j c (λ m. F m.from && Q m.to) s.mail ≤ count Q (n B) + 2 * (h B * count Q (n B))
  sent_le F Q z L =
      let l : gave SEND F + gave ECHO F + gave READY F ≤ 1 + 2 * h B = omega (arith, gave_send F, gave_le ECHO F, gave_le READY F) in
      omega (arith, kinds_le F Q (count Q (n B)) (λ p x. no_more Q z L p x), mul-le-mul_left (count Q (n B)) l)

  abbrev all : ℕ → Bool
  all q = true

  -- demand 3's bound grows by 6hnd
  bound_le : Limited B s.power → copies_of j c (λ m. true) s.mail ≤ n B + 2 * (h B * n B) + 6 * (h B * n B * B.limit)
  bound_le L =
      let X : ℕ = n B in
      let d : ℕ = B.limit in
      let e : count all (n B) ≡ X = count_all (n B) in
      let l : gave SEND all + gave ECHO all + gave READY all ≤ 1 + 2 * h B =
      omega (arith, gave_send all, gave_le ECHO all, gave_le READY all) in
      let l₂ : gave SEND all + gave ECHO all + gave READY all ≤ 3 * h B =
      omega (arith, gave_le SEND all, gave_le ECHO all, gave_le READY all) in
      let y : copies_of j c (λ m. true) s.mail
      ≤ (X + 2 * (X * d)) * gave SEND all + (X + 2 * (X * d)) * gave ECHO all + (X + 2 * (X * d)) * gave READY all =
      kinds_le all all (X + 2 * (X * d)) (λ p g. subst (λ (x : ℕ). load s.power (n B) all p ≤ x + 2 * (x * d)) e (few_more L all p g)) in
      omega (arith, y, mul-le-mul_left X l, mul-le-mul_left (X * d) l₂)

  -- and the READY messages by 2hnd
  readies_le : Limited B s.power
      → copies_of j c (λ m. same_kind READY m.kind) s.mail ≤ h B * n B + 2 * (h B * n B * B.limit)
  readies_le L =
      let X : ℕ = n B in
      let d : ℕ = B.limit in
      let e : count all (n B) ≡ X = count_all (n B) in
      let y : copies_of j c (way READY all all) s.mail ≤ (X + 2 * (X * d)) * gave READY all =
      way_le READY all all (X + 2 * (X * d))
      (λ p g. subst (λ (x : ℕ). load s.power (n B) all p ≤ x + 2 * (x * d)) e (few_more L all p g)) in
      omega (arith, y, readies_way j c s.mail, mul-le-mul_left X (gave_le READY all), mul-le-mul_left (X * d) (gave_le READY all))

  pub delivered_of : (r : ℕ) (v : Decl) → s.deliveries r ≡ v ∷ [] → (s.house r).delivered ≡ some v
  delivered_of r v e = one_of (s.house r).delivered v (sym (I.books.delivered r) ∙ e)

none_listed : (o : Option Decl) → list_of o ≡ [] → o ≡ none
none_listed none e = refl
none_listed (some v) e = absurd (omega (arith, ap length e))

-- a first plausible publication is accepted
publishable : (B : Wall) (j c : ℕ) (b : Book) (v : Decl) → T (is_honest B j) → c < B.numbers → T (B.rules.ok v)
    → (b j c).published ≡ none → (outcome B.rules B.numbers j (publishing c v) b).answer ≡ 0
unfolding outcome publish publish_answer publishes
publishable B j c b v g l ok e =
    rw (true_of (ltb j (n B)) (and_l (ltb j (n B)) (B.honest j) g), lt-ltb c B.numbers l, true_of (B.rules.ok v) ok, e)

pub safe : (B : Wall) (j c : ℕ) (s : State) → Inv B j c (view j c s) → Safe B j c s
safe B j c s I =
    record {
      once = λ r. rw (I.books.delivered r) (length_list_of (s.gave.books r j c).delivered);
      published_once = rw (I.books.published j) (length_list_of (s.gave.books j j c).published);
      plausible = λ r v e. (I.books.local r).delivery_ok v (delivered_of B j c (view j c s) I r v e);
      accepted = λ i m e t g.
          let z : j ≡ m.sender = eqb→eq j m.sender (and_l (eqb j m.sender) _ t) in
          let z₂ : c ≡ m.number = eqb→eq c m.number (and_r (eqb j m.sender) _ t) in
          ⊎_elim (λ y. inl y.0) (λ y. inr (y.0, rw (z, z₂) y.1))
          (answers B s i m e g (subst (λ (x : ℕ). Inv B x m.number (view x m.number s)) z
          (subst (λ (x : ℕ). Inv B j x (view j x s)) z₂ I)));
      fills = λ l r. run_fills B l s r j c;
      publishable = λ g l v ok e. publishable B j c (s.gave.books j) v g l ok
          (none_listed (s.gave.books j j c).published (sym (I.books.published j) ∙ e));
    }

-- with d = 0 each message goes once to each house, so a copy that is not consumed is not heard yet
pub single : (B : Wall) (j c : ℕ) (s : State) → Inv B j c (view j c s) → B.limit ≡ 0 → Limited B s.power → Single B j c s
single B j c s I still L =
    record {
      bound = omega (arith, rw (count_all (n B)) at (sent_le B j c (view j c s) I (λ p. true) (λ q. true) still L));
      bound_between = sent_le B j c (view j c s) I (is_honest B) (is_honest B) still L;
      accepted = λ i m e t g u.
          let z : j ≡ m.sender = eqb→eq j m.sender (and_l (eqb j m.sender) _ t) in
          let z₂ : c ≡ m.number = eqb→eq c m.number (and_r (eqb j m.sender) _ t) in
          let J : Inv B m.sender m.number (view m.sender m.number s) =
          subst (λ (x : ℕ). Inv B x m.number (view x m.number s)) z (subst (λ (x : ℕ). Inv B j x (view j x s)) z₂ I) in
          ⊎_elim (λ y. y.0) (λ y. absurd (once i m e g u J y.1)) (answers B s i m e g J);
    }
  where
    once : (i : ℕ) (m : Copy) → at s.mail i ≡ some m → T (is_honest B m.to) → m.consumed ≡ false
        → Inv B m.sender m.number (view m.sender m.number s)
        → heard m.kind m.from (s.gave.books m.to m.sender m.number) ≡ some m.decl → ⊥
    once i m e g u J y =
        let k : Kind = m.kind in
        let F : ℕ → Bool = eqb m.from in
        let Q : ℕ → Bool = eqb m.to in
        let u₀ : View = view m.sender m.number s in
        let o = J.books.owner m.from k m.decl (sent_by B s i m e g J) in
        let heard_it : bit (is_some (heard k m.from (u₀.house m.to))) ≡ 1 = rw y in
        omega (
          arith,
          J.post.brought k m.from m.to o.2 o.0,
          tally_at (λ x. on_it m.sender m.number x && (way k F Q x && not x.consumed)) s.mail i m e
              (and_mk (on_it m.sender m.number m) _ (entry_refl m.sender m.number)
              (and_mk (way k F Q m) _ (way_refl m) (not_of m.consumed u))),
          copies_split m.sender m.number (way k F Q) (λ x. x.consumed) s.mail,
          way_le B m.sender m.number u₀ J k F Q 1
              (λ p x. omega (
                arith,
                no_more B m.sender m.number u₀ J Q still L p x,
                at_one Q m.to (λ q t. sym (eqb→eq m.to q t)),
              )),
          at_one (λ p. F p && is_some (outgoing k (u₀.house p))) m.from (λ p t. sym (eqb→eq m.from p (and_l (F p) _ t))),
        )
      where
        at_one : (P : ℕ → Bool) (x : ℕ) → ((p : ℕ) → T (P p) → p ≡ x) → count P (n B) ≤ 1
        at_one P x f = count_one P (n B) x f

        way_refl : (m : Copy) → T (way m.kind (eqb m.from) (eqb m.to) m)
        way_refl m =
            and_mk (same_kind m.kind m.kind) _ (is_kind_refl m.kind)
            (and_mk (eqb m.from m.from) _ (eqb_refl m.from) (eqb_refl m.to))

pub bounded : (B : Wall) (j c : ℕ) (s : State) → Inv B j c (view j c s) → Limited B s.power → Bounded B j c s
bounded B j c s I L =
    record { bound = bound_le B j c (view j c s) I L; readies = readies_le B j c (view j c s) I L }
