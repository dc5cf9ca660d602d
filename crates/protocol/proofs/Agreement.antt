-- Where at most t houses are wrong, all READYs of honest houses on an entry are for one declaration, and so are deliveries.
use mathlib.Core.Path.{◌≡◌, refl, sym, ◌∙◌}
use mathlib.Core.Bool.{Bool, true, false, cond}
use mathlib.Core.Logic.{⊎_elim}
use mathlib.Core.Option.{none, some, some-injective}
use mathlib.Core.List.{List}
use Prim.Native.Nat.{ℕ, ◌≤◌, ◌<◌}
use native.Mathlib.Omega.{arith}
use lib.Dec.{T, eqb_refl}
use Rattle.card.specs.Count.{count}
use Rattle.card.proofs.Counting.{count_mono, count_find}
use Rattle.card.proofs.Overlap.{share}
use Rattle.entry.specs.Entry.{Decl, SEND, ECHO, READY, Entry, holds}
use Rattle.entry.specs.Lists.{upd}
use Rattle.protocol.specs.Steps.{Out}
use Rattle.protocol.specs.Book.{Call}
use Rattle.protocol.specs.Run.{n, is_wrong, Wall, Copy, Step, is_honest, start, run}
use Rattle.protocol.specs.Thresholds.{Tolerated}
use Rattle.entry.proofs.Basics.{not_not, and_l, and_r, none_some, holds_eq, eq_holds, upd_all}
use Rattle.protocol.proofs.Invariant.{View, Books, Inv, Act, act_heard}
use Rattle.protocol.proofs.Views.{view}
use Rattle.protocol.proofs.Runs.{holds_from_start}

-- house p is wrong, or has given an ECHO of v
abbrev vouch : Wall → (ℕ → Entry) → Decl → ℕ → Bool
vouch B H v p = cond (is_honest B p) (holds (H p).send v) true

vouch_of : (b x : Bool) → (T b → T x) → T (cond b x true)
vouch_of true x f = f tt
vouch_of false x f = tt

vouch_to : (b x : Bool) → T b → T (cond b x true) → T x
vouch_to true x g t = t
vouch_to false x g t = absurd g

-- a quorum vouches for each READY that an honest house sent
abbrev pub Backed : Wall → (ℕ → Entry) → Type 0
Backed B H = (r : ℕ) (v : Decl) → (H r).ready_sent ≡ some v → B.rules.quorum ≤ count (vouch B H v) (n B)

module _ (B : Wall) (t : ℕ) (Y : Tolerated B t) where
  -- more than t houses pass a test: an honest one does
  honest_one : (P : ℕ → Bool) → t < count P (n B) → (p : ℕ) × T (is_honest B p) × T (P p)
  honest_one P l =
      let x = count_find P (is_wrong B) (n B) (omega (arith, Y.few)) in
      (x.0, not_not (is_honest B x.0) x.3, x.2)

  keep_backed : (j c : ℕ) (s : View) → Inv B j c s → Backed B s.house → (r : ℕ) (a : Call) (o : Out) (mail : List Copy)
      → Act B j c s r a o mail → Backed B (upd s.house r o.entry)
  keep_backed j c s I K r a o mail A q v =
      upd_all (λ q x. x.ready_sent ≡ some v → Quorate H') s.house r o.entry here (λ q e. more (K q v e)) q
    where
      H' : ℕ → Entry
      H' = upd s.house r o.entry

      Quorate : (ℕ → Entry) → Type 0
      Quorate H = B.rules.quorum ≤ count (vouch B H v) (n B)

      sent : (p : ℕ) → (s.house p).send ≡ some v → (H' p).send ≡ some v
      sent p =
          upd_all (λ p x. (s.house p).send ≡ some v → x.send ≡ some v) s.house r o.entry
          (A.done.moves.filled.send v) (λ p e. e) p

      more : Quorate s.house → Quorate H'
      more l =
          omega (
            arith,
            count_mono (vouch B s.house v) (vouch B H' v) (n B)
                (λ p i t. vouch_of (is_honest B p) _ (λ g. eq_holds _ v
                (sent p (holds_eq (s.house p).send v (vouch_to (is_honest B p) _ g t))))),
          )

      here : o.entry.ready_sent ≡ some v → Quorate H'
      here e =
          ⊎_elim
          (λ l. more (omega (
            arith,
            count_mono (λ p. holds (o.entry.echo p) v) (vouch B s.house v) (n B)
                (λ p i t. vouch_of (is_honest B p) _ (λ g. eq_holds (s.house p).send v
                (act_heard B j c s I r a o mail A ECHO p v (holds_eq (o.entry.echo p) v t) tt g))),
          )))
          (λ l. let x = honest_one (λ p. holds (o.entry.ready p) v) (omega (arith, Y.thresholds.amplified)) in
          more (K x.0 v (act_heard B j c s I r a o mail A READY x.0 v (holds_eq (o.entry.ready x.0) v x.2) tt x.1)))
          ((A.done.local (I.books.local r)).ready_backed v e)

  pub backed : (j c : ℕ) (l : List Step) → Backed B (view j c (run B l start)).house
  backed j c l = (holds_from_start B j c (Backed B) (keep_backed j c) (λ r v e. absurd (none_some none v refl e)) l).1

  module _ (j c : ℕ) (s : View) (I : Books B j c s) (K : Backed B s.house) where
    -- a READY's declaration is one that an honest house gave an ECHO of
    vouched : (r : ℕ) (v : Decl) → (s.house r).ready_sent ≡ some v → (p : ℕ) × T (is_honest B p) × ((s.house p).send ≡ some v)
    vouched r v e =
        let x = honest_one (vouch B s.house v) (omega (arith, K r v e, Y.thresholds.quorate)) in
        (x.0, x.1, holds_eq (s.house x.0).send v (vouch_to (is_honest B x.0) _ x.1 x.2))

    ready_agree : (r q : ℕ) (v w : Decl) → (s.house r).ready_sent ≡ some v → (s.house q).ready_sent ≡ some w → v ≡ w
    ready_agree r q v w a b =
        let P : ℕ → Bool = vouch B s.house v in
        let Q : ℕ → Bool = vouch B s.house w in
        let x = share (n B) t B.rules.quorum (is_wrong B) P Q Y.thresholds.overlapping Y.few (K r v a) (K q w b) in
        let g = not_not (is_honest B x.0) x.3 in
        let d : (s.house x.0).send ≡ some v = holds_eq _ v (vouch_to (is_honest B x.0) _ g (and_l (P x.0) (Q x.0) x.2)) in
        let e : (s.house x.0).send ≡ some w = holds_eq _ w (vouch_to (is_honest B x.0) _ g (and_r (P x.0) (Q x.0) x.2)) in
        some-injective v w (sym d ∙ e)

    -- a delivered declaration is one that an honest house gave a READY of
    delivered_ready : (r : ℕ) (v : Decl) → (s.house r).delivered ≡ some v → (p : ℕ) × T (is_honest B p) × ((s.house p).ready_sent ≡ some v)
    delivered_ready r v e =
        let x = honest_one (λ p. holds ((s.house r).ready p) v)
        (omega (arith, (I.local r).delivery_backed v e, Y.thresholds.delivered)) in
        (x.0, x.1, I.given r READY x.0 v (holds_eq ((s.house r).ready x.0) v x.2) tt x.1)

    pub deliver_ready_agree : (r q : ℕ) (v w : Decl) → (s.house r).delivered ≡ some v → (s.house q).ready_sent ≡ some w → v ≡ w
    deliver_ready_agree r q v w a b = let x = delivered_ready r v a in ready_agree x.0 q v w x.2 b

    pub deliver_agree : (r q : ℕ) (v w : Decl) → (s.house r).delivered ≡ some v → (s.house q).delivered ≡ some w → v ≡ w
    deliver_agree r q v w a b = let x = delivered_ready q w b in deliver_ready_agree r x.0 v w a x.2

    -- from an honest sender, a READY is of what it published, and so is a delivery
    pub ready_authentic : T (is_honest B j) → (r : ℕ) (v : Decl) → (s.house r).ready_sent ≡ some v → (s.house j).published ≡ some v
    ready_authentic g r v e = let x = vouched r v e in I.given x.0 SEND j v x.2 (eqb_refl j) g

    pub deliver_authentic : T (is_honest B j) → (r : ℕ) (v : Decl) → (s.house r).delivered ≡ some v → (s.house j).published ≡ some v
    deliver_authentic g r v e = let x = delivered_ready r v e in ready_authentic g x.0 v x.2
