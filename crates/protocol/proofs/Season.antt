-- What is claimed of every run, proved of every entry; and for the rules of the wall card.
use mathlib.Core.Path.{◌≡◌, refl, sym, ap, ◌∙◌}
use mathlib.Core.Bool.{Bool, true, false, not, ◌&&◌}
use mathlib.Core.Option.{Option, none, some}
use mathlib.Core.List.{List, [], ◌∷◌}
use Prim.Native.Nat.{ℕ, zero, suc, ◌+◌, ◌*◌, ◌≤◌, ◌<◌}
use native.Mathlib.Omega.{arith}
use lib.Dec.{T, eqb, ltb, eqb_refl, ltb→lt}
use Rattle.card.specs.Card.{quorum, amplify, deliver}
use Rattle.card.specs.Count.{bit, count}
use Rattle.card.proofs.Counting.{count_not, count_pos}
use Rattle.card.proofs.Overlap.{quorum_more}
use Rattle.entry.specs.Entry.{Decl, SEND}
use Rattle.protocol.specs.Run.{n, Wall, State, Step, is_honest, is_wrong, is_up, h, start, run, on_it, is_between, copies_of, up_copy}
use Rattle.protocol.specs.Run.{up_request, Drained, Limited}
use Rattle.entry.specs.Lists.{at, tally}
use Rattle.protocol.specs.Thresholds.{rules_of, wall_of, AtMost, Tolerated, TakePart, downs}
use Rattle.protocol.specs.Claims.{Agreed, Complete, Exact, Delivered, Published, Everywhere, Season, Claims}
use Rattle.entry.proofs.Basics.{bcase, T_of, not_of, and_l, and_r, and_mk, none_some}
use Rattle.protocol.proofs.Order.{receiving_ordered, publishing_ordered}
use Rattle.protocol.proofs.Moves.{list_of}
use Rattle.protocol.proofs.Calls.{alone}
use Rattle.protocol.proofs.Mail.{tally_mono, tally_at, copies_split}
use Rattle.protocol.proofs.Invariant.{View, Inv}
use Rattle.protocol.proofs.Views.{view}
use Rattle.protocol.proofs.Runs.{holds_from_start}
use Rattle.protocol.proofs.Bound.{count_all, one_of, delivered_of, sent_le, safe, bounded, single}
use Rattle.protocol.proofs.Draining.{drainable}
use Rattle.protocol.proofs.Agreement.{Backed, backed, deliver_agree, deliver_authentic}
use Rattle.protocol.proofs.Totality.{reach, published_ready, delivered_ready_up, ready_delivered, cost_is, readies_are}

tally_nothing : {A : Type 0} (P : A → Bool) (l : List A) → ((i : ℕ) (m : A) → at l i ≡ some m → T (P m) → ⊥) → tally P l ≡ 0
tally_nothing P [] f = refl
tally_nothing P (m ∷ l) f =
    let z : bit (P m) ≡ 0 = bcase (P m) (λ t. absurd (f 0 m refl (T_of t))) (λ t. rw t) in
    omega (arith, z, tally_nothing P l (λ i x e t. f (suc i) x e t))

module _ (B : Wall) (j c t : ℕ) (s : State)
    (I : Inv B j c (view j c s)) (Y : Tolerated B t) (K : Backed B (view j c s).house) where
  abbrev v : View
  v = view j c s

  noted : (r : ℕ) (x : Decl) → (v.house r).delivered ≡ some x → Delivered B j c s r x
  noted r x e = I.books.delivered r ∙ ap list_of e

  delivered_is : (r : ℕ) (x : Decl) → Delivered B j c s r x → (v.house r).delivered ≡ some x
  delivered_is r x e = delivered_of B j c (view j c s) I r x e

  published_is : (x : Decl) → Published B j c s x → (v.house j).published ≡ some x
  published_is x e = one_of (v.house j).published x (sym (I.books.published j) ∙ e)

  agreed : Agreed B j c s
  agreed =
      record {
        agree = λ r q x w a b. deliver_agree B t Y j c v I.books K r q x w (delivered_is r x a) (delivered_is q w b);
        authentic = λ g r x e. I.books.published j
            ∙ ap list_of (deliver_authentic B t Y j c v I.books K g r x (delivered_is r x e));
      }

  module _ (Z : TakePart B (is_up B s)) (L : Limited B s.power) where
    module _ (D : Drained B j c s) where
      ready : T (is_up B s j) → (x : Decl) → Published B j c s x → (r : ℕ) → T (is_up B s r) → (v.house r).ready_sent ≡ some x
      ready g x e = published_ready B t Y j c s I K Z L D g x (published_is x e)

      full : T (is_up B s j) → (x : Decl) → Published B j c s x → Everywhere B j c s x
      full g x e r y = noted r x (ready_delivered B t Y j c s I K Z L D x (ready g x e) r y)

      followed : (q : ℕ) (x : Decl) → Delivered B j c s q x → (r : ℕ) → T (is_up B s r) → (v.house r).ready_sent ≡ some x
      followed q x e = delivered_ready_up B t Y j c s I K Z L D q x (delivered_is q x e)

      complete : Complete B j c s
      complete =
          record {
            equal = λ g r y. equal' g r y (v.house j).published refl;
            all = λ q x e r y. noted r x (ready_delivered B t Y j c s I K Z L D x (followed q x e) r y);
          }
        where
          equal' : T (is_up B s j) → (r : ℕ) → T (is_up B s r) → (o : Option Decl) → (v.house j).published ≡ o
              → s.gave.deliveries r j c ≡ s.gave.publications j j c
          equal' g r y none e = I.books.delivered r ∙ nothing (v.house r).delivered refl ∙ sym (I.books.published j ∙ ap list_of e)
            where
              nothing : (o : Option Decl) → (v.house r).delivered ≡ o → list_of (v.house r).delivered ≡ []
              nothing none d = ap list_of d
              nothing (some x) d =
                  absurd (none_some _ x e (deliver_authentic B t Y j c v I.books K (and_l (is_honest B j) _ g) r x d))
          equal' g r y (some x) e = let p = I.books.published j ∙ ap list_of e in full g x p r y ∙ sym p

    -- 01's exact counts, where no house returned and none is down
    module _ (still : B.limit ≡ 0) (high : downs B s ≡ 0) where
      up : (r : ℕ) → T (is_honest B r) → T (is_up B s r)
      up r g =
          and_mk (is_honest B r) _ g (bcase (s.power.down r)
          (λ t. absurd (omega (
            arith,
            high,
            count_pos (λ p. is_honest B p && s.power.down p) (n B) r (ltb→lt r (n B) (and_l (ltb r (n B)) _ g))
                (and_mk (is_honest B r) _ g (T_of t)),
          )))
          (λ t. not_of (s.power.down r) t))

      no_requests : tally (λ m. up_request B s m && not m.consumed) s.power.requests ≡ 0
      no_requests =
          tally_nothing _ s.power.requests (λ i m e t.
          let t₁ = and_l (up_request B s m) _ t in
          let g = and_l (is_honest B m.from) _ (and_l (is_up B s m.from) _ t₁) in
          omega (
            arith,
            L m.from g,
            I.helping.pending m.to m.from g,
            tally_at (λ x. (eqb m.from x.from && eqb m.to x.to) && not x.consumed) s.power.requests i m e
                (and_mk (eqb m.from m.from && eqb m.to m.to) _
                (and_mk (eqb m.from m.from) _ (eqb_refl m.from) (eqb_refl m.to)) (and_r (up_request B s m) _ t)),
          ))

      costs : (F Q : ℕ → Bool) → ((p : ℕ) → T (is_honest B p) → T (F p)) → Drained B j c s → T (is_honest B j) → (x : Decl)
          → Published B j c s x → copies_of j c (λ m. F m.from && Q m.to) s.mail ≡ count Q (n B) + 2 * (h B * count Q (n B))
      costs F Q f D g x e =
          cost_is B j c v I still L F Q x f g (published_is x e)
          (λ p y. reach B t Y j c s I K Z L D j SEND x (published_is x e) (up j g) p (up p y)) (λ p y. ready D (up j g) x e p (up p y))

      -- no request was sent: the entry's copies consumed, it is drained
      all_consumed : copies_of j c (λ m. is_between B m && not m.consumed) s.mail ≡ 0
          → Drained B j c s
      all_consumed a =
          record {
            copies = omega (
              arith,
              a,
              tally_mono (λ m. on_it j c m && (up_copy B s m && not m.consumed))
                  (λ m. on_it j c m && (is_between B m && not m.consumed)) s.mail
                  (λ m t. let t₁ = and_r (on_it j c m) _ t in
                  let t₂ = and_l (up_copy B s m) _ t₁ in
                  and_mk (on_it j c m) _ (and_l (on_it j c m) _ t)
                  (and_mk (is_between B m) _
                  (and_mk (is_honest B m.from) _ (and_l (is_honest B m.from) _ (and_l (is_up B s m.from) _ t₂))
                  (and_l (is_honest B m.to) _ (and_r (is_up B s m.from) _ t₂)))
                  (and_r (up_copy B s m) _ t₁))),
            );
            requests = no_requests;
          }

      exact : Exact B j c s
      exact =
          record {
            drained = all_consumed;
            by_count = λ g x e l. full (all_consumed (omega (
              arith,
              copies_split j c (is_between B) (λ m. m.consumed) s.mail,
              sent_le B j c v I (is_honest B) (is_honest B) still L,
            ))) (up j g) x e;
            cost = λ D g x e. rw (count_all (n B)) at (costs (λ p. true) (λ q. true) (λ p y. tt) D g x e);
            cost_between = costs (is_honest B) (is_honest B) (λ p y. y);
            all_readies = λ D q x e. readies_are B j c v I still L x (λ r y. followed D q x e r (up r y));
          }

-- one of two tests passes
count_or : (P Q R : ℕ → Bool) (n : ℕ) → ((i : ℕ) → i < n → bit (P i) ≤ bit (Q i) + bit (R i)) → count P n ≤ count Q n + count R n
count_or P Q R zero f = omega arith
count_or P Q R (suc n) f = omega (arith, f n (omega arith), count_or P Q R n (λ i l. f i (omega arith)))

pub season : (B : Wall) (t : ℕ) (l : List Step) (j c : ℕ) → Season B j c (Tolerated B t) (λ s. TakePart B (is_up B s)) l
season B t l j c =
    record {
      safe = safe B j c s I;
      drainable = drainable B j c s I;
      bounded = bounded B j c s I;
      agreed = λ Y. agreed B j c t s I Y (backed B t Y j c l);
      complete = λ Y L Z D. complete B j c t s I Y (backed B t Y j c l) Z L D;
      single = single B j c s I;
      exact = λ Y Z still L high. exact B j c t s I Y (backed B t Y j c l) Z L still high;
    }
  where
    s : State
    s = run B l start

    I : Inv B j c (view j c s)
    I = (holds_from_start B j c (λ H. Unit {0}) (λ s I z r a o mail A. tt) tt l).0

-- the card's counts meet the inequalities wherever n > 3t + 2f
module _ (n t f d numbers : ℕ) (ok : Decl → Bool) (honest : ℕ → Bool) (fits : 3 * t + 2 * f < n) where
  wall : Wall
  wall = wall_of n t f d numbers ok honest

  pub carded : AtMost (wall_of n t f d numbers ok honest) t → Tolerated (wall_of n t f d numbers ok honest) t
  unfolding wall_of rules_of quorum amplify deliver
  carded few =
      record {
        few = few;
        thresholds = record {
          overlapping = omega (arith, quorum_more n t);
          quorate = omega arith;
          amplified = omega arith;
          delivered = omega arith;
        };
      }

  pub parted : AtMost (wall_of n t f d numbers ok honest) t → (s : State) → downs (wall_of n t f d numbers ok honest) s ≤ f
      → TakePart (wall_of n t f d numbers ok honest) (is_up (wall_of n t f d numbers ok honest) s)
  unfolding wall_of rules_of quorum amplify deliver
  parted few s low =
      let B : Wall = wall_of n t f d numbers ok honest in
      let out : count (λ p. not (is_up B s p)) n ≤ t + f = omega (
        arith,
        few,
        low,
        count_or (λ p. not (is_up B s p)) (is_wrong B) (λ p. is_honest B p && s.power.down p) n
            (λ p l. lacking (is_honest B p) (s.power.down p)),
      ) in
      record {
        delivered = omega (arith, out);
        echoed = omega (arith, out, count_not (is_up B s) n);
        vouched = omega (arith, out, count_not (is_up B s) n);
      }
    where
      lacking : (a b : Bool) → bit (not (a && not b)) ≤ bit (not a) + bit (a && b)
      lacking true true = omega arith
      lacking true false = omega arith
      lacking false b = omega arith

pub claims : Claims
claims =
    record {
      thresholds = season;
      card = λ n t f d numbers ok honest fits l j c.
          let S = season (wall_of n t f d numbers ok honest) t l j c in
          let C = carded n t f d numbers ok honest fits in
          let e : State = run (wall_of n t f d numbers ok honest) l start in
          let P = parted n t f d numbers ok honest fits in
          record {
            safe = S.safe;
            drainable = S.drainable;
            bounded = S.bounded;
            agreed = λ few. S.agreed (C few);
            complete = λ few L low. S.complete (C few) L (P few e low);
            single = S.single;
            exact = λ few low. S.exact (C few) (P few e low);
          };
      alone = alone;
      receiving = receiving_ordered;
      publishing = publishing_ordered;
    }
