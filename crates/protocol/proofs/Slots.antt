-- Slots only ever fill: what stands in a slot stays, whatever calls come and in any state.
use mathlib.Core.Path.{◌≡◌, refl}
use mathlib.Core.Bool.{Bool, true, false, not, cond, ◌&&◌}
use mathlib.Core.Option.{Option, none, some}
use mathlib.Core.List.{List, [], ◌∷◌}
use Prim.Native.Nat.{ℕ}
use lib.Dec.{eqb, eqb→eq}
use Rattle.entry.specs.Entry.{PerEntry, same_entry, put_at, Filled}
use Rattle.protocol.specs.Book.{Book, Call, publishing, receiving, sender_of, number_of, outcome, after}
use Rattle.protocol.specs.Run.{n, Wall, Copy, Request, State, Step, publish, consume, wrong, crash, comeback, help, plead, is_honest}
use Rattle.protocol.specs.Run.{is_up, consume_at, call_of, called, arrives, consumes, comes, help_answer, helps, request_taken, asked}
use Rattle.protocol.specs.Run.{under_wrong, step, run}
use Rattle.entry.specs.Lists.{at}
use Rattle.entry.proofs.Basics.{T_of, and_l, and_r, upd_all}
use Rattle.entry.proofs.Filled.{filled_refl, filled_trans}
use Rattle.protocol.proofs.Calls.{outcome_done}

-- every slot of every book of the one stands in the other
abbrev Fills : State → State → Type 0
Fills s s₂ = (r j c : ℕ) → Filled (s.gave.books r j c) (s₂.gave.books r j c)

place_all : {A : Type 0} (Φ : A → A → Type 0) (b : PerEntry A) (j c : ℕ) (x : A) → ((y : A) → Φ y y) → Φ (b j c) x → (j₂ c₂ : ℕ)
    → Φ (b j₂ c₂) (put_at b j c x j₂ c₂)
place_all {A = A} Φ b j c x f g j₂ c₂ = go (same_entry j c j₂ c₂) refl
  where
    go : (y : Bool) → same_entry j c j₂ c₂ ≡ y → Φ (b j₂ c₂) (cond y x (b j₂ c₂))
    go true t =
        rw (eqb→eq j₂ j (and_l (eqb j₂ j) (eqb c₂ c) (T_of t)), eqb→eq c₂ c (and_r (eqb j₂ j) (eqb c₂ c) (T_of t))) g
    go false t = f (b j₂ c₂)

module _ (B : Wall) where
  called_fills : (r : ℕ) (a : Call) (s : State) (mail : List Copy) → Fills s (called B r a s mail)
  unfolding called after
  called_fills r a s mail =
      let b : Book = s.gave.books r in
      let o = outcome B.rules B.numbers r a b in
      upd_all (λ q b. (j c : ℕ) → Filled (s.gave.books q j c) (b j c)) s.gave.books r (after B.rules B.numbers r a b)
      (place_all Filled b (sender_of r a) (number_of a) o.entry filled_refl (outcome_done B.rules B.numbers r a b).moves.filled)
      (λ q j c. filled_refl (s.gave.books q j c))

  same_fills : (s : State) → Fills s s
  same_fills s r j c = filled_refl (s.gave.books r j c)

  if_fills : (b : Bool) (s s₂ s₃ : State) → Fills s s₂ → Fills s s₃ → Fills s (cond b s₂ s₃)
  if_fills true s s₂ s₃ f g = f
  if_fills false s s₂ s₃ f g = g

  helps_fills : (r p : ℕ) (s : State) → Fills s (helps B r p s)
  unfolding helps
  helps_fills r p s =
      if_fills (eqb (help_answer (n B) B.limit p (s.power.helped r p)) 0) s _ s (same_fills s) (same_fills s)

  step_fills : (a : Step) (s : State) → Fills s (step B a s)
  unfolding step consumes arrives comes asked
  step_fills (publish r c v) s = if_fills (is_up B s r) s _ s (called_fills r (publishing c v) s s.mail) (same_fills s)
  step_fills (consume i) s = go (at s.mail i)
    where
      go : (x : Option Copy) → Fills s (consumes B i x s)
      go none = same_fills s
      go (some m) =
          if_fills (is_honest B m.to && not m.consumed) s _ s
          (if_fills (s.power.down m.to) s _ _ (same_fills s) (called_fills m.to (call_of m) s (consume_at s.mail i)))
          (same_fills s)
  step_fills (wrong p r k j c v) s =
      if_fills (under_wrong B s p r) s _ s (called_fills r (receiving p k j c v) s s.mail) (same_fills s)
  step_fills (crash r) s = if_fills (is_up B s r) s _ s (same_fills s) (same_fills s)
  step_fills (comeback r) s = if_fills (is_honest B r && s.power.down r) s _ s (same_fills s) (same_fills s)
  step_fills (help i) s = go (at s.power.requests i)
    where
      go : (x : Option Request) → Fills s (asked B i x s)
      go none = same_fills s
      go (some m) =
          if_fills (is_honest B m.to && not m.consumed) s _ s
          (if_fills (s.power.down m.to) s _ _ (same_fills s) (helps_fills m.to m.from (request_taken i s))) (same_fills s)
  step_fills (plead p r) s = if_fills (under_wrong B s p r) s _ s (helps_fills r p s) (same_fills s)

  pub run_fills : (l : List Step) (s : State) → Fills s (run B l s)
  unfolding run
  run_fills [] s = λ r j c. filled_refl (s.gave.books r j c)
  run_fills (a ∷ l) s = λ r j c. filled_trans (step_fills a s r j c) (run_fills l (step B a s) r j c)
