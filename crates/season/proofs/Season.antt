-- Demand 3 at the bytes: what is claimed of every run, from the run of the protocol that it means.
use Prim.Native.Nat.{ℕ, ◌*◌, ◌≤◌, ◌<◌}
use mathlib.Core.Path.{◌≡◌, refl, sym, ap, ap₂, subst, ◌∙◌}
use mathlib.Core.Logic.{◌⊎◌, inl, inr, ⊎_elim}
use mathlib.Core.Bool.{Bool, true, false, not, cond, ◌&&◌}
use mathlib.Core.List.{List, [], ◌∷◌, ◌++◌}
use mathlib.Core.Option.{Option, none, some}
use native.Mathlib.Omega.{arith}
use lib.Dec.{T, eqb, ltb, eqb_refl, ltb→lt}
use lib.ListN.{length}
use borrow.Author.Tests.{lt-ltb}
use Rattle.card.specs.Card.{tolerated, fitting}
use Rattle.card.specs.Count.{count}
use Rattle.card.proofs.Wall.{down_between}
use Rattle.card.proofs.Counting.{count_not, count_find, count_none}
use Rattle.card.proofs.Overlap.{fitting_largest}
use Rattle.lot.specs.Declaration.{declaration_at}
use Rattle.sheet.specs.Sheet.{plausible}
use Rattle.sheet.specs.Kept.{sheet_at, is_sheet, judged}
use Rattle.meaning.specs.Legal.{IsDecl}
use Rattle.meaning.proofs.Opening.{opened_facts, allowed_facts}
use Rattle.entry.specs.Entry.{READY, heard, same_kind}
use Rattle.protocol.specs.Book.{publishing}
use Rattle.entry.specs.Lists.{at, tally}
use Rattle.protocol.specs.Run as protocol
use Rattle.protocol.specs.Claims as protocol_claims
use Rattle.protocol.specs.Thresholds.{rules_of, wall_of, AtMost, downs}
use Rattle.protocol.specs.Thresholds as thresholds
use Rattle.entry.proofs.Basics.{T_of, true_of, not_of, and_l, and_r, and_mk, entry_refl}
use Rattle.protocol.proofs.Mail.{tally_at}
use Rattle.protocol.proofs.Invariant.{Inv}
use Rattle.protocol.proofs.Views.{view}
use Rattle.protocol.proofs.Runs.{holds_from_start}
use Rattle.protocol.proofs.Season as protocol_season
use Rattle.calls.specs.Entered.{is_decl, ok_by}
use Rattle.calls.specs.Call.{published, received}
use Rattle.calls.specs.Again.{returned}
use Rattle.calls.proofs.Declarations.{decl_true}
use Rattle.season.specs.Run.{Houses, is_honest, is_up, Open, Copy, Noted, State, Step, start, step, run, on_it, is_ready, copies_of}
use Rattle.season.specs.Run.{copies, readies, is_between, between, consumed_between, up_between, Drained, Limited}
use Rattle.season.specs.Run as season
use Rattle.season.specs.Claims.{answer_to, Heard, Delivered, Published, Safe, Bounded, Agreed, Complete, Single, Exact, Few, Season}
use Rattle.season.specs.Claims.{consumption, Drainable, Deliverable, Claims}
use Rattle.season.proofs.Mail.{Says, says_on_it, says_ready, Asks, Both, mails_at, mails_tally}
use Rattle.season.proofs.Calls.{wall, Means, answer_is, asked_answer}
use Rattle.season.proofs.Copies.{said_at, copy_answered, copy_stands}
use Rattle.season.proofs.Repeat.{repeat_or_conflict}
use Rattle.season.proofs.Outbox.{reads, outbox, sent}
use Rattle.season.proofs.Steps as steps_proofs
use Rattle.season.proofs.Steps.{steps_of, up_is, consumption_means, season_means}

-- what the steps take for plausible, judging answers 0
judged_zero : (sheet v : List ℕ) → is_sheet sheet ≡ true → T (ok_by (sheet_at sheet 0) v) → judged sheet v ≡ 0
unfolding judged ok_by
judged_zero sheet v e t =
    let judged = plausible (sheet_at sheet 0) (declaration_at v 0) in
    rw (e, true_of judged (and_r (is_decl v) judged t))

-- and the other way round, of 20 bytes
judged_ok : (sheet v : List ℕ) → is_sheet sheet ≡ true → IsDecl v → judged sheet v ≡ 0 → ok_by (sheet_at sheet 0) v ≡ true
unfolding judged ok_by
judged_ok sheet v s d e = rw (decl_true v d) (go (plausible (sheet_at sheet 0) (declaration_at v 0)) (rw s at e))
  where
    go : (t : Bool) → ◌≡◌ {A = ℕ} (cond t 0 5) 0 → t ≡ true
    go true e = refl
    go false e = absurd (omega arith)

module _ (H : Houses) (s : State) (z : protocol.State) (M : Means H s z) where
  honest_both : (x y u w : ℕ) → x ≡ u → y ≡ w → is_honest H x && is_honest H y ≡ is_honest H u && is_honest H w
  honest_both x y u w e q = λ i. is_honest H (e i) && is_honest H (q i)

  up_both : (x y u w : ℕ) → x ≡ u → y ≡ w
      → is_up H s x && is_up H s y ≡ protocol.is_up (wall H) z u && protocol.is_up (wall H) z w
  up_both x y u w e q =
      (λ i. is_up H s (e i) && is_up H s (q i)) ∙ sym (λ i. up_is H s z M u i && up_is H s z M w i)

  between_same : (m : Copy) (x : protocol.Copy) → Says H.season m x → is_between H m ≡ protocol.is_between (wall H) x
  unfolding wall_of rules_of
  between_same m x S = honest_both m.from m.to x.from x.to S.from S.to

  pub downs_same : downs (wall H) z ≡ season.downs H s
  unfolding wall_of rules_of
  downs_same = λ i. count (λ p. is_honest H p && M.down i p) H.n

  limited_to : Limited H s → protocol.Limited (wall H) z.power
  unfolding wall_of rules_of
  limited_to L r t = omega (arith, L r t, ap (λ (f : ℕ → ℕ). f r) M.returned)

  module _ (j c : ℕ) where
    counted : (P : Copy → Bool) (Q : protocol.Copy → Bool) → ((m : Copy) (x : protocol.Copy) → Says H.season m x → P m ≡ Q x)
        → copies_of j c P s ≡ protocol.copies_of j c Q z.mail
    counted P Q f =
        mails_tally (Says H.season) (λ m. on_it j c m && P m) (λ x. protocol.on_it j c x && Q x)
        (λ m x S. ap₂ ◌&&◌ (says_on_it H.season j c m x S) (f m x S)) s.mail z.mail M.mail

    pub copies_same : copies j c s ≡ protocol.copies j c z
    copies_same = counted (λ m. true) (λ x. true) (λ m x S. refl)

    pub between_counted : between H j c s ≡ protocol.between (wall H) j c z
    between_counted = counted (is_between H) (protocol.is_between (wall H)) between_same

    pub consumed_counted : consumed_between H j c s ≡ protocol.consumed_between (wall H) j c z
    consumed_counted =
        counted (λ m. is_between H m && m.consumed) (λ x. protocol.is_between (wall H) x && x.consumed)
        (λ m x S. ap₂ ◌&&◌ (between_same m x S) S.consumed)

    pub readies_counted : readies j c s ≡ protocol.readies j c z
    readies_counted = counted is_ready (λ x. same_kind READY x.kind) (says_ready H.season)

    pub copies_left : copies_of j c (λ m. up_between H s m && not m.consumed) s
        ≡ protocol.copies_of j c (λ x. protocol.up_copy (wall H) z x && not x.consumed) z.mail
    copies_left =
        counted (λ m. up_between H s m && not m.consumed) (λ x. protocol.up_copy (wall H) z x && not x.consumed)
        (λ m x S. ap₂ (λ (a b : Bool). a && not b) (up_both m.from m.to x.from x.to S.from S.to) S.consumed)

    pub requests_left : tally (λ m. up_between H s m && not m.consumed) s.power.requests
        ≡ tally (λ x. protocol.up_request (wall H) z x && not x.consumed) z.power.requests
    requests_left =
        mails_tally (Asks H.season) (λ m. up_between H s m && not m.consumed)
        (λ x. protocol.up_request (wall H) z x && not x.consumed)
        (λ m x S. ap₂ (λ (a b : Bool). a && not b) (up_both m.from m.to x.from x.to S.from S.to) S.consumed)
        s.power.requests z.power.requests M.requests

    drained_to : Drained H j c s → protocol.Drained (wall H) j c z
    drained_to D = record { copies = sym copies_left ∙ D.copies; requests = sym requests_left ∙ D.requests }

    drained_from : protocol.Drained (wall H) j c z → Drained H j c s
    drained_from D = record { copies = copies_left ∙ D.copies; requests = requests_left ∙ D.requests }

    pub unconsumed_counted : copies_of j c (λ m. is_between H m && not m.consumed) s
        ≡ protocol.copies_of j c (λ x. protocol.is_between (wall H) x && not x.consumed) z.mail
    unconsumed_counted =
        counted (λ m. is_between H m && not m.consumed) (λ x. protocol.is_between (wall H) x && not x.consumed)
        (λ m x S. ap₂ (λ (a b : Bool). a && not b) (between_same m x S) S.consumed)

    deliveries_same : (r : ℕ) → z.gave.deliveries r j c ≡ s.gave.deliveries r j c
    deliveries_same r = ap (λ (f : Noted). f r j c) M.gave.deliveries

    publications_same : z.gave.publications j j c ≡ s.gave.publications j j c
    publications_same = ap (λ (f : Noted). f j j c) M.gave.publications

module _ (H : Houses) (O : Open H) (l : List Step) (j c : ℕ) (hj : j < H.n) (hc : c < H.numbers) where
  abbrev s : State
  s = run H l (start H)

  abbrev steps : List protocol.Step
  steps = steps_of H l

  abbrev z : protocol.State
  z = protocol.run (wall H) steps protocol.start

  M : Means H s z
  M = season_means H O l

  -- what opening answered 0 shows
  fits : (r : ℕ) → T (is_honest H r) → 2 * H.down < H.n
  fits r t =
      (down_between H.n H.down
      (allowed_facts H.n H.numbers r H.down H.limit
      (opened_facts (H.lent r) H.n H.numbers r H.down H.limit H.season H.sheet (O.answer r t)).allowed
      ).3).1

  sheet_is : (r : ℕ) → T (is_honest H r) → is_sheet H.sheet ≡ true
  sheet_is r t = (opened_facts (H.lent r) H.n H.numbers r H.down H.limit H.season H.sheet (O.answer r t)).sheet

  -- where few are wrong, some house is honest
  someone : Few H → (r : ℕ) × T (is_honest H r)
  unfolding fitting tolerated
  someone few =
      let x = count_find (is_honest H) (λ r. false) H.n
      (omega (arith, few, hj, count_not (is_honest H) H.n, count_none (λ r. false) H.n (λ i l. refl)))
      in
      (x.0, x.2)

  -- the protocol's claims of the run that this one means, with any number of wrong houses
  any : (j c : ℕ) → protocol_claims.Season (wall H) j c (thresholds.Tolerated (wall H) 0)
      (λ s. thresholds.TakePart (wall H) (protocol.is_up (wall H) s)) steps
  any j c = (protocol_season.claims).thresholds (wall H) 0 steps j c

  -- and with few
  claimed : Few H → protocol_claims.Season (wall H) j c (AtMost (wall H) (fitting H.n H.down)) (λ s. downs (wall H) s ≤ H.down) steps
  claimed few =
      let x = someone few in
      (protocol_season.claims).card H.n (fitting H.n H.down) H.down H.limit H.numbers (ok_by (sheet_at H.sheet 0))
      H.honest
      (fitting_largest H.n H.down (fits x.0 x.1)).fits steps j c

  delivered_to : (r : ℕ) (v : List ℕ) → Delivered H j c s r v → protocol_claims.Delivered (wall H) j c z r v
  delivered_to r v e = deliveries_same H s z M j c r ∙ e

  delivered_from : (r : ℕ) (v : List ℕ) → protocol_claims.Delivered (wall H) j c z r v → Delivered H j c s r v
  delivered_from r v e = sym (deliveries_same H s z M j c r) ∙ e

  published_to : (v : List ℕ) → Published H j c s v → protocol_claims.Published (wall H) j c z v
  published_to v e = publications_same H s z M j c ∙ e

  up_to : (r : ℕ) → T (is_up H s r) → T (protocol.is_up (wall H) z r)
  up_to r t = subst T (sym (up_is H s z M r)) t

  -- ---- an honest house's request is accepted

  all_held : (j c : ℕ) → Inv (wall H) j c (view j c z)
  all_held j c = (holds_from_start (wall H) j c (λ E. Unit {0}) (λ s I z r a o mail A. tt) tt steps).0

  abbrev held : Inv (wall H) j c (view j c z)
  held = all_held j c

  -- helped less often than it returned
  low : Limited H s → (i : ℕ) (x : protocol.Request) → at z.power.requests i ≡ some x → T (is_honest H x.from) → x.consumed ≡ false
      → z.power.helped x.to x.from < H.limit
  unfolding wall_of rules_of
  low L i x e g u =
      omega (
        arith,
        L x.from g,
        ap (λ (f : ℕ → ℕ). f x.from) M.returned,
        held.helping.pending x.to x.from g,
        tally_at (λ m. (eqb x.from m.from && eqb x.to m.to) && not m.consumed) z.power.requests i x e
            (and_mk (eqb x.from x.from && eqb x.to x.to) (not x.consumed)
            (and_mk (eqb x.from x.from) (eqb x.to x.to) (eqb_refl x.from) (eqb_refl x.to)) (not_of x.consumed u)),
      )

  accepted_help : (n d p k : ℕ) → p < n → k < d → protocol.help_answer n d p k ≡ 0
  unfolding protocol.help_answer
  accepted_help n d p k a b = rw (lt-ltb p n a, lt-ltb k d b)

  request_helped : Limited H s → (i : ℕ) (m : Copy) → at s.power.requests i ≡ some m → T (is_honest H m.from)
      → T (is_honest H m.to) → m.consumed ≡ false → (received (s.gave.books m.to) m.from m.message).given.answer ≡ 0
  request_helped L i m e g t u =
      go (at z.power.requests i) refl (rw e at (mails_at (Asks H.season) s.power.requests z.power.requests M.requests i))
    where
      b : List ℕ
      b = s.gave.books m.to

      go : (x : Option protocol.Request) → at z.power.requests i ≡ x → Both (Asks H.season) (some m) x
          → (received b m.from m.message).given.answer ≡ 0
      go none f S = absurd S
      go (some x) f S =
          rw (steps_proofs.heard H m.to m.from b m.message (M.gave.books m.to t), S.request)
          (asked_answer H m.to s z M t m.from
          ∙ accepted_help H.n H.limit m.from (z.power.helped m.to m.from)
          (ltb→lt m.from H.n (and_l (ltb m.from H.n) (H.honest m.from) g))
          (rw (S.to, S.from) (low L i x f (rw (← S.from) g) (sym S.consumed ∙ u))))

  -- ---- an honest sender's first plausible declaration is accepted

  first_published : T (is_honest H j) → (v : List ℕ) → IsDecl v → judged H.sheet v ≡ 0 → s.gave.publications j j c ≡ []
      → (published (s.gave.books j) c v).given.answer ≡ 0
  unfolding published wall_of rules_of
  first_published honest v d e first =
      rw (M.gave.books j honest).legal
      (answer_is H j s z M honest (publishing c v)
      ∙ (any j c).safe.publishable honest hc v (T_of (judged_ok H.sheet v (sheet_is j honest) d e))
      (publications_same H s z M j c ∙ first))

  -- ---- what the protocol's run consumes to be drained, this one consumes

  drainable : Drainable H j c s
  drainable =
      let D = (any j c).drainable in
      let s₂ : State = run H (consumption D.requests D.copies) s in
      let z₂ : protocol.State = protocol.run (wall H) (protocol_claims.consumption D.requests D.copies) z in
      let N = consumption_means H D.requests D.copies s z M in
      record {
        requests = D.requests;
        copies = D.copies;
        drained = drained_from H s₂ z₂ N j c D.drained;
        down = sym N.down ∙ D.down ∙ M.down;
        returned = sym N.returned ∙ D.returned ∙ M.returned;
        publications = sym N.gave.publications ∙ D.publications ∙ M.gave.publications;
      }

  -- ---- the claims

  safe : Safe H j c s
  unfolding wall_of rules_of returned
  safe =
      let P = (any j c).safe in
      record {
        once = λ r t. subst (λ (d : List (List ℕ)). length d ≤ 1) (deliveries_same H s z M j c r) (P.once r);
        published_once = subst (λ (d : List (List ℕ)). length d ≤ 1) (publications_same H s z M j c) P.published_once;
        plausible = λ r v t e. judged_zero H.sheet v (sheet_is r t) (P.plausible r v (delivered_to r v e));
        accepted = accepted';
        mail = reads H s z M all_held;
        outbox = outbox H s z M all_held;
        sent = sent H s z M all_held j c hj hc;
        returns = λ r t. rw (M.gave.books r t).legal;
        publishable = first_published;
      }
    where
      accepted' : (i : ℕ) (m : Copy) → at s.mail i ≡ some m → T (is_honest H m.to)
          → (answer_to s m ≡ 0) ⊎ ((answer_to s m ≡ 7) × Heard s m)
      accepted' i m e t =
          let x = said_at H s z M i m e in
          let P = (any x.0.sender x.0.number).safe in
          let same = copy_answered H s z M m x.0 x.2 t in
          ⊎_elim (λ q. inl (same ∙ q)) (λ q. inr (same ∙ q.0, copy_stands H s z M m x.0 x.2 t q.1))
          (P.accepted i x.0 x.1 (entry_refl x.0.sender x.0.number) (rw (← x.2.to) t))

  bounded : Limited H s → Bounded H j c s
  unfolding wall_of rules_of
  bounded L =
      let P = (any j c).bounded (limited_to H s z M L) in
      record {
        bound = rw (copies_same H s z M j c) P.bound;
        readies = rw (readies_counted H s z M j c) P.readies;
        helped = request_helped L;
      }

  single : H.limit ≡ 0 → Limited H s → Single H j c s
  unfolding wall_of rules_of
  single still L =
      let P = (any j c).single still (limited_to H s z M L) in
      record {
        bound = rw (copies_same H s z M j c) P.bound;
        bound_between = rw (between_counted H s z M j c) P.bound_between;
        accepted = accepted';
      }
    where
      accepted' : (i : ℕ) (m : Copy) → at s.mail i ≡ some m → T (is_honest H m.to) → m.consumed ≡ false → answer_to s m ≡ 0
      accepted' i m e t u =
          let x = said_at H s z M i m e in
          copy_answered H s z M m x.0 x.2 t
          ∙ ((any x.0.sender x.0.number).single still (limited_to H s z M L)).accepted i x.0 x.1
          (entry_refl x.0.sender x.0.number) (rw (← x.2.to) t) (sym x.2.consumed ∙ u)

  agreed : Few H → Agreed H j c s
  unfolding wall_of rules_of
  agreed few =
      let P = (claimed few).agreed few in
      record {
        agree = λ r q v w t u d e. P.agree r q v w (delivered_to r v d) (delivered_to q w e);
        authentic = λ g r v t e. sym (publications_same H s z M j c) ∙ P.authentic g r v (delivered_to r v e);
      }

  complete : Few H → Limited H s → season.downs H s ≤ H.down → Drained H j c s → Complete H j c s
  unfolding wall_of rules_of
  complete few L low D =
      let P = (claimed few).complete few (limited_to H s z M L) (omega (arith, low, downs_same H s z M)) (drained_to H s z M j c D) in
      record {
        equal = λ g r t. sym (deliveries_same H s z M j c r) ∙ P.equal (up_to j g) r (up_to r t) ∙ publications_same H s z M j c;
        all = λ q v t e r u. delivered_from r v (P.all q v (delivered_to q v e) r (up_to r u));
      }

  exact : Few H → H.limit ≡ 0 → Limited H s → season.downs H s ≡ 0 → Exact H j c s
  unfolding wall_of rules_of
  exact few still L none_down =
      let high = downs_same H s z M ∙ none_down in
      let P = (claimed few).exact few (omega (arith, high)) still (limited_to H s z M L) high in
      record {
        drained = λ a. drained_from H s z M j c (P.drained (sym (unconsumed_counted H s z M j c) ∙ a));
        by_count = λ g v e n r t.
            delivered_from r v (P.by_count g v (published_to v e) (sym (consumed_counted H s z M j c) ∙ n) r (up_to r t));
        cost = λ D g v e. copies_same H s z M j c ∙ P.cost (drained_to H s z M j c D) g v (published_to v e);
        cost_between = λ D g v e. between_counted H s z M j c ∙ P.cost_between (drained_to H s z M j c D) g v (published_to v e);
        all_readies = λ D q v t e. readies_counted H s z M j c ∙ P.all_readies (drained_to H s z M j c D) q v (delivered_to q v e);
      }

-- one list of steps after another
pub run_append : (H : Houses) (l k : List Step) (s : State) → run H (l ++ k) s ≡ run H k (run H l s)
unfolding run
run_append H [] k s = refl
run_append H (a ∷ l) k s = run_append H l k (step H a s)

module _ (H : Houses) (O : Open H) (l : List Step) (j c : ℕ) (hj : j < H.n) (hc : c < H.numbers) where
  -- drained, all that are up delivered what is published; and nothing that `complete` asks for changed on the way
  deliverable : Few H → Limited H (run H l (start H)) → season.downs H (run H l (start H)) ≤ H.down → T (is_up H (run H l (start H)) j)
      → (v : List ℕ) → Published H j c (run H l (start H)) v → Deliverable H j c (run H l (start H)) v
  deliverable few L low g v e =
      let D = drainable H O l j c hj hc in
      let k : List Step = consumption D.requests D.copies in
      let C = subst (λ (x : State). Limited H x → season.downs H x ≤ H.down → Drained H j c x → Complete H j c x)
      (run_append H l k (start H)) (complete H O (l ++ k) j c hj hc few)
      (λ r t. subst (λ (f : ℕ → ℕ). f r ≤ H.limit) (sym D.returned) (L r t))
      (subst (λ (f : ℕ → Bool). count (λ p. is_honest H p && f p) H.n ≤ H.down) (sym D.down) low)
      D.drained in
      record {
        requests = D.requests;
        copies = D.copies;
        everywhere = λ r t. C.equal (subst (λ (f : ℕ → Bool). T (is_honest H j && not (f j))) (sym D.down) g) r t
            ∙ ap (λ (f : Noted). f j j c) D.publications ∙ e;
      }

pub claims : Claims
claims H O l j c hj hc =
    record {
      safe = safe H O l j c hj hc;
      repeat_or_conflict =
          repeat_or_conflict H (run H l (start H)) _ (season_means H O l) (all_held H O l j c hj hc) (safe H O l) j c hj hc;
      drainable = drainable H O l j c hj hc;
      bounded = bounded H O l j c hj hc;
      agreed = agreed H O l j c hj hc;
      complete = complete H O l j c hj hc;
      deliverable = deliverable H O l j c hj hc;
      single = single H O l j c hj hc;
      exact = exact H O l j c hj hc;
    }
