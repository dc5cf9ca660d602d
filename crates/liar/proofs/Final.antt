-- A delivery stays: a house's list of deliveries on an entry only grows, and it has at most one.
use Prim.Native.Nat.{ℕ, ◌≤◌}
use mathlib.Core.Path.{◌≡◌, refl, ap, subst}
use mathlib.Core.Bool.{Bool, true, false, cond, not, ◌&&◌}
use mathlib.Core.List.{List, [], ◌∷◌, ◌++◌}
use mathlib.Core.Option.{Option, none, some}
use lib.Dec.{eqb}
use lib.ListN.{length}
use borrow.Author.Tests.{eqb-true}
use native.Mathlib.Omega.{arith}
use Rattle.entry.specs.Entry.{same_entry, put_at}
use Rattle.entry.specs.Lists.{at, push}
use Rattle.entry.proofs.Basics.{T_of, true_of, and_l, and_r}
use Rattle.message.specs.Message.{read_of}
use Rattle.protocol.specs.Book.{noted}
use Rattle.calls.specs.Entered.{Result}
use Rattle.calls.specs.Call.{published, received}
use Rattle.season.specs.Run.{Houses, is_honest, is_up, under_wrong, Copy, State, Noted, Step, publish, consume, wrong, crash, comeback}
use Rattle.season.specs.Run.{help}
use Rattle.season.specs.Run.{Named, nothing, entry, named_by, noting, posted, sends, message_of, delivery_of, publication_of, consume_at}
use Rattle.season.specs.Run.{request_taken, ended, publishes, receives, consumes, arrives, comes, asks, start, step, run}
use Rattle.season.proofs.Season.{run_append, claims}
use Rattle.liar.specs.Final.{Final}

module _ (v : List ℕ) where
  -- v stands at the end of a list
  abbrev Ends : List (List ℕ) → Type 0
  Ends l = (u : List (List ℕ)) × (l ≡ u ++ (v ∷ []))

  pushed : (x : Option (List ℕ)) (l : List (List ℕ)) → Ends l → Ends (push x l)
  pushed none l E = E
  pushed (some x) l E = (x ∷ E.0, ap (λ (k : List (List ℕ)). x ∷ k) E.1)

  module _ (r j c : ℕ) where
    -- one more declaration, or none, on any list
    noted_ends : (f : Noted) (q i k : ℕ) (x : Option (List ℕ)) → Ends (f r j c) → Ends (noted f q i k x r j c)
    noted_ends f q i k x E = at_house (eqb r q) refl
      where
        at_entry : (t : Bool) → same_entry i k j c ≡ t → r ≡ q → Ends (cond t (push x (f q i k)) (f q j c))
        at_entry true e h =
            let sender = eqb-true j i (true_of (eqb j i) (and_l (eqb j i) _ (T_of e))) in
            let number = eqb-true c k (true_of (eqb c k) (and_r (eqb j i) _ (T_of e))) in
            pushed x (f q i k) (subst Ends (λ z. f (h z) (sender z) (number z)) E)
        at_entry false e h = subst (λ (p : ℕ). Ends (f p j c)) h E

        at_house : (t : Bool) → eqb r q ≡ t → Ends (cond t (put_at (f q) i k (push x (f q i k))) (f r) j c)
        at_house true e = at_entry (same_entry i k j c) refl (eqb-true r q e)
        at_house false e = E

    noting_ends : (f : Noted) (q : ℕ) (e : Named) (x : Option (List ℕ)) → Ends (f r j c) → Ends (noting f q e x r j c)
    noting_ends f q nothing x E = E
    noting_ends f q (entry i k) x E = noted_ends f q i k x E

    abbrev Ended : State → Type 0
    Ended s = Ends (s.gave.deliveries r j c)

    -- a step, made or not
    either : (b : Bool) (s z : State) → Ended s → Ended z → Ended (cond b s z)
    either true s z E F = E
    either false s z E F = F

    ended_ends : (q : ℕ) (e : Named) (o : Result) (x : Option (List ℕ)) (s : State) (mail : List Copy) → Ended s
        → Ended (ended q e o x s mail)
    unfolding ended
    ended_ends q e o x s mail E = noting_ends s.gave.deliveries q e (delivery_of o.given) E

    module _ (H : Houses) where
      publishes_ends : (q k : ℕ) (w : List ℕ) (s : State) → Ended s → Ended (publishes H q k w s)
      unfolding publishes
      publishes_ends q k w s E =
          let o = published (s.gave.books q) k w in
          ended_ends q (entry q k) o (publication_of w o.given) s (s.mail ++ posted q (message_of o.given) H.n) E

      receives_ends : (q p : ℕ) (m : List ℕ) (s : State) (mail : List Copy) → Ended s → Ended (receives H q p m s mail)
      unfolding receives
      receives_ends q p m s mail E =
          let o = received (s.gave.books q) p m in
          ended_ends q (named_by (read_of m).five) o none s (mail ++ sends H q p o) E

      arrives_ends : (i : ℕ) (m : Copy) (s : State) → Ended s → Ended (arrives H i m s)
      unfolding arrives
      arrives_ends i m s E =
          either (s.power.down m.to) _ _ E
          (receives_ends m.to m.from m.message s (consume_at s.mail i) E)

      consumes_ends : (i : ℕ) (o : Option Copy) (s : State) → Ended s → Ended (consumes H i o s)
      unfolding consumes
      consumes_ends i none s E = E
      consumes_ends i (some m) s E = either (is_honest H m.to && not m.consumed) _ _ (arrives_ends i m s E) E

      asks_ends : (i : ℕ) (o : Option Copy) (s : State) → Ended s → Ended (asks H i o s)
      unfolding asks
      asks_ends i none s E = E
      asks_ends i (some m) s E =
          either (is_honest H m.to && not m.consumed) _ _
          (either (s.power.down m.to) _ _ E (receives_ends m.to m.from m.message (request_taken i s) s.mail E)) E

      step_ends : (a : Step) (s : State) → Ended s → Ended (step H a s)
      unfolding step comes
      step_ends (publish q k w) s E = either (is_up H s q) _ _ (publishes_ends q k w s E) E
      step_ends (consume i) s E = consumes_ends i (at s.mail i) s E
      step_ends (wrong p q m) s E = either (under_wrong H s p q) _ _ (receives_ends q p m s s.mail E) E
      step_ends (crash q) s E = either (is_up H s q) _ _ E E
      step_ends (comeback q) s E = either (is_honest H q && s.power.down q) _ _ E E
      step_ends (help i) s E = asks_ends i (at s.power.requests i) s E

      run_ends : (l : List Step) (s : State) → Ended s → Ended (run H l s)
      unfolding run
      run_ends [] s E = E
      run_ends (a ∷ l) s E = run_ends l (step H a s) (step_ends a s E)

  -- at the end of a list of at most one, it is all of it
  alone : (l u : List (List ℕ)) → l ≡ u ++ (v ∷ []) → length l ≤ 1 → l ≡ v ∷ []
  alone l [] e n = e
  alone l (x ∷ []) e n = absurd (omega (arith, ap (λ (k : List (List ℕ)). length k) e, n))
  alone l (x ∷ y ∷ u) e n = absurd (omega (arith, ap (λ (k : List (List ℕ)). length k) e, n))

pub final : Final
final H O l next j c hj hc r v honest e =
    let E = run_ends v r j c H next (run H l (start H)) ([], e) in
    alone v _ E.0 E.1
    (subst (λ (s : State). length (s.gave.deliveries r j c) ≤ 1) (run_append H l next (start H))
    ((claims H O (l ++ next) j c hj hc).safe.once r honest))
