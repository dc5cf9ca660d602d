-- With at most t wrong houses and an entry's copies consumed: what an honest sender published, and what one honest house delivered, all
-- that take part deliver; and what that cost.
use mathlib.Core.Path.{◌≡◌, sym, ap, subst, ◌∙◌}
use mathlib.Core.Bool.{Bool, true, not, ◌&&◌}
use mathlib.Core.Option.{Option, none, some}
use Prim.Native.Nat.{ℕ, ◌+◌, ◌*◌, ◌≤◌, ◌<◌}
use native.Mathlib.Omega.{arith}
use lib.Dec.{T, eqb, ltb, eqb→eq, ltb→lt}
use Rattle.card.specs.Count.{bit, count}
use Rattle.card.proofs.Counting.{count_mono, count_and, count_not, count_pos}
use Rattle.entry.specs.Entry.{Decl, Kind, SEND, ECHO, READY, heard, outgoing, same_kind, is_some, holds, votes}
use Rattle.protocol.specs.Run.{n, Wall, Copy, Request, State, Limited, Drained, is_honest, is_up, up_copy, up_request, h, on_it, copies_of}
use Rattle.protocol.specs.Thresholds.{Tolerated, TakePart}
use Rattle.entry.proofs.Basics.{false_of, and_l, and_r, and_mk, holds_eq, eq_holds, some_of, is_some_of}
use Rattle.protocol.proofs.Mail.{tally_mono}
use Rattle.protocol.proofs.Invariant.{View, Inv, load}
use Rattle.protocol.proofs.Again.{way}
use Rattle.protocol.proofs.Views.{view}
use Rattle.protocol.proofs.Agreement.{Backed, deliver_ready_agree, ready_authentic}
use Rattle.protocol.proofs.Bound.{count_all, readies_way, gave, gave_le, gave_send, way_le, no_more, kinds_ge, sent_le}

below : (B : Wall) (p : ℕ) → T (is_honest B p) → p < n B
below B p g = ltb→lt p (n B) (and_l (ltb p (n B)) (B.honest p) g)

module _ (B : Wall) (t : ℕ) (Y : Tolerated B t) (j c : ℕ) (s : State) (I : Inv B j c (view j c s))
    (K : Backed B (view j c s).house) where
  abbrev v₀ : View
  v₀ = view j c s

  abbrev up : ℕ → Bool
  up = is_up B s

  module _ (Z : TakePart B (is_up B s)) (L : Limited B s.power) (drained : Drained B j c s) where
    -- what a house that is up gave, all that are up heard
    pub reach : (p : ℕ) (k : Kind) (v : Decl) → outgoing k (v₀.house p) ≡ some v → T (up p) → (r : ℕ) → T (up r)
        → heard k p (v₀.house r) ≡ some v
    reach p k v e u r g =
        let o = I.books.owner p k v e in
        let w = some_of (heard k p (v₀.house r)) (one (heard k p (v₀.house r)) (omega (
          arith,
          I.post.reaches L k p r v e (and_l (is_honest B r) _ g),
          tally_mono (λ m. on_it j c m && (way k (eqb p) (eqb r) m && not m.consumed))
              (λ m. on_it j c m && (up_copy B s m && not m.consumed)) s.mail unread_up,
          drained.copies,
          ap bit (false_of (s.power.down r) (and_r (is_honest B r) _ g)),
          ap bit (false_of (s.power.down p) (and_r (is_honest B p) _ u)),
          tally_mono (λ m. (eqb r m.from && eqb p m.to) && not m.consumed)
              (λ m. up_request B s m && not m.consumed) s.power.requests asking_up,
          drained.requests,
        ))) in
        w.1 ∙ (sym (I.books.given r k p w.0 w.1 o.2 o.0) ∙ e)
      where
        one : (x : Option Decl) → 0 < bit (is_some x) → T (is_some x)
        one none l = absurd (omega arith)
        one (some w) l = tt

        unread_up : (m : Copy) → T (on_it j c m && (way k (eqb p) (eqb r) m && not m.consumed))
            → T (on_it j c m && (up_copy B s m && not m.consumed))
        unread_up m t =
            let t₁ = and_r (on_it j c m) _ t in
            let t₂ = and_r (same_kind k m.kind) _ (and_l (way k (eqb p) (eqb r) m) _ t₁) in
            let e₁ = eqb→eq p m.from (and_l (eqb p m.from) _ t₂) in
            let e₂ = eqb→eq r m.to (and_r (eqb p m.from) _ t₂) in
            and_mk (on_it j c m) _ (and_l (on_it j c m) _ t)
            (and_mk (up_copy B s m) _ (and_mk (up m.from) _ (rw e₁ at u) (rw e₂ at g)) (and_r (way k (eqb p) (eqb r) m) _ t₁))

        asking_up : (m : Request) → T ((eqb r m.from && eqb p m.to) && not m.consumed) → T (up_request B s m && not m.consumed)
        asking_up m t =
            let t₂ = and_l (eqb r m.from && eqb p m.to) _ t in
            let e₁ = eqb→eq r m.from (and_l (eqb r m.from) _ t₂) in
            let e₂ = eqb→eq p m.to (and_r (eqb r m.from) _ t₂) in
            and_mk (up_request B s m) _ (and_mk (up m.from) _ (rw e₁ at g) (rw e₂ at u))
            (and_r (eqb r m.from && eqb p m.to) _ t)

    -- what all that take part gave, each of them heard from that many
    heard_up : (k : Kind) (v : Decl) → ((p : ℕ) → T (up p) → outgoing k (v₀.house p) ≡ some v) → (r : ℕ) → T (up r)
        → count up (n B) ≤ count (λ p. holds (heard k p (v₀.house r)) v) (n B)
    heard_up k v f r g =
        count_mono up (λ p. holds (heard k p (v₀.house r)) v) (n B)
        (λ p l x. eq_holds (heard k p (v₀.house r)) v (reach p k v (f p x) x r g))

    -- an honest sender's publication: all that take part give a READY of it
    pub published_ready : T (up j) → (v : Decl) → (v₀.house j).published ≡ some v → (r : ℕ) → T (up r) → (v₀.house r).ready_sent ≡ some v
    published_ready g v e r x =
        let enough = heard_up ECHO v (λ p y. reach j SEND v e g p y) r x in
        let w = some_of (v₀.house r).ready_sent
        ((I.books.local r).echoes_heeded v (omega (arith, enough, Z.echoed, Y.thresholds.quorate))) in
        w.1 ∙ sym (ready_authentic B t Y j c v₀ I.books K (and_l (is_honest B j) _ g) r w.0 w.1) ∙ e

    -- a delivery at one honest house: all that take part give a READY of it
    pub delivered_ready_up : (q : ℕ) (v : Decl) → (v₀.house q).delivered ≡ some v → (r : ℕ) → T (up r) → (v₀.house r).ready_sent ≡ some v
    delivered_ready_up q v e r x =
        let w = some_of (v₀.house r).ready_sent ((I.books.local r).readies_heeded v (omega (arith, enough, Y.thresholds.amplified))) in
        w.1 ∙ ap some (sym (deliver_ready_agree B t Y j c v₀ I.books K q r v w.0 e w.1))
      where
        heard_at_q : ℕ → Bool
        heard_at_q p = holds ((v₀.house q).ready p) v

        again : (p : ℕ) → T (heard_at_q p && up p) → T (holds ((v₀.house r).ready p) v)
        again p y =
            let g = and_r (heard_at_q p) (up p) y in
            let h = holds_eq ((v₀.house q).ready p) v (and_l (heard_at_q p) (up p) y) in
            eq_holds ((v₀.house r).ready p) v (reach p READY v (I.books.given q READY p v h tt (and_l (is_honest B p) _ g)) g r x)

        enough : B.rules.amplify ≤ votes (v₀.house r).ready v (n B)
        enough =
            omega (
              arith,
              count_and heard_at_q up (n B),
              count_not up (n B),
              (I.books.local q).delivery_backed v e,
              Z.delivered,
              count_mono (λ p. heard_at_q p && up p) (λ p. holds ((v₀.house r).ready p) v) (n B) (λ p l y. again p y),
            )

    -- and with all their READYs consumed, all that take part deliver it
    pub ready_delivered : (v : Decl) → ((p : ℕ) → T (up p) → (v₀.house p).ready_sent ≡ some v) → (r : ℕ) → T (up r)
        → (v₀.house r).delivered ≡ some v
    ready_delivered v f r g =
        let enough = heard_up READY v f r g in
        let w = some_of (v₀.house r).delivered
        ((I.books.local r).delivery_heeded v (omega (arith, enough, Z.vouched, Y.thresholds.delivered))) in
        w.1 ∙ ap some (deliver_ready_agree B t Y j c v₀ I.books K r r w.0 v w.1 (f r g))

module _ (B : Wall) (j c : ℕ) (s : View) (I : Inv B j c s)
    (still : B.limit ≡ 0) (L : Limited B s.power) where
  -- a kind that all honest houses gave, h of them gave
  gave_all : (k : Kind) (F : ℕ → Bool) (v : Decl) → ((p : ℕ) → T (is_honest B p) → T (F p))
      → ((p : ℕ) → T (is_honest B p) → outgoing k (s.house p) ≡ some v) → gave B j c s I k F ≡ h B
  gave_all k F v f g =
      omega (
        arith,
        gave_le B j c s I k F,
        count_mono (is_honest B) (λ p. F p && is_some (outgoing k (s.house p))) (n B)
            (λ p l x. and_mk (F p) _ (f p x) (is_some_of (outgoing k (s.house p)) v (g p x))),
      )

  -- the sender's message and two of each honest house, to each house that passes Q
  pub cost_is : (F Q : ℕ → Bool) (v : Decl) → ((p : ℕ) → T (is_honest B p) → T (F p)) → T (is_honest B j) → (s.house j).published ≡ some v
      → ((p : ℕ) → T (is_honest B p) → (s.house p).send ≡ some v) → ((p : ℕ) → T (is_honest B p) → (s.house p).ready_sent ≡ some v)
      → copies_of j c (λ m. F m.from && Q m.to) s.mail ≡ count Q (n B) + 2 * (h B * count Q (n B))
  cost_is F Q v f g e echo ready =
      let one : gave B j c s I SEND F ≡ 1 = omega (
        arith,
        gave_send B j c s I F,
        count_pos (λ p. F p && is_some (outgoing SEND (s.house p))) (n B) j (below B j g)
            (and_mk (F j) _ (f j g) (is_some_of (s.house j).published v e)),
      ) in
      let X : ℕ = count Q (n B) in
      let all : X * gave B j c s I SEND F + X * gave B j c s I ECHO F + X * gave B j c s I READY F ≡ X + 2 * (h B * X) =
      rw (one, gave_all ECHO F v f echo, gave_all READY F v f ready) (omega arith) in
      omega (arith, all, kinds_ge B j c s I F Q, sent_le B j c s I F Q still L)

  -- a READY of each honest house, to all
  pub readies_are : (v : Decl) → ((p : ℕ) → T (is_honest B p) → (s.house p).ready_sent ≡ some v)
      → copies_of j c (λ m. same_kind READY m.kind) s.mail ≡ h B * n B
  readies_are v ready =
      let all : n B * gave B j c s I READY (λ p. true) ≡ h B * n B = rw (gave_all READY (λ p. true) v (λ p x. tt) ready) (omega arith) in
      let e : count (λ q. true) (n B) ≡ n B = count_all (n B) in
      let low : n B * gave B j c s I READY (λ p. true) ≤ copies_of j c (way READY (λ p. true) (λ q. true)) s.mail =
      rw e at (I.post.at_least READY (λ p. true) (λ q. true)) in
      let high : copies_of j c (way READY (λ p. true) (λ q. true)) s.mail ≤ n B * gave B j c s I READY (λ p. true) =
      way_le B j c s I READY (λ p. true) (λ q. true) (n B)
      (λ p x. subst (λ (y : ℕ). load s.power (n B) (λ q. true) p ≤ y) e (no_more B j c s I (λ q. true) still L p x)) in
      omega (arith, all, low, high, readies_way j c s.mail)
