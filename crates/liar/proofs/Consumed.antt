-- Copies and requests consumed, no house goes down.
use Prim.Native.Nat.{ℕ}
use mathlib.Core.Path.{◌≡◌, refl, ◌∙◌}
use mathlib.Core.Bool.{Bool, true, false, cond, not, ◌&&◌}
use mathlib.Core.List.{List, [], ◌∷◌}
use mathlib.Core.Option.{Option, none, some}
use Rattle.entry.specs.Lists.{at}
use Rattle.season.specs.Run.{Houses, is_honest, Copy, State, consume, help, ended, receives, arrives, consumes, asks, step, run}
use Rattle.season.specs.Run.{consume_at, request_taken}
use Rattle.season.specs.Claims.{consumption}

either : (b : Bool) (s z : State) (f : ℕ → Bool) → s.power.down ≡ f → z.power.down ≡ f → (cond b s z).power.down ≡ f
either true s z f e q = e
either false s z f e q = q

module _ (H : Houses) where
  received_down : (r p : ℕ) (m : List ℕ) (s : State) (mail : List Copy) → (receives H r p m s mail).power.down ≡ s.power.down
  unfolding receives ended
  received_down r p m s mail = refl

  copy_down : (i : ℕ) (o : Option Copy) (s : State) → (consumes H i o s).power.down ≡ s.power.down
  unfolding consumes arrives
  copy_down i none s = refl
  copy_down i (some m) s =
      either (is_honest H m.to && not m.consumed) _ _ _
      (either (s.power.down m.to) _ _ _ refl (received_down m.to m.from m.message s (consume_at s.mail i))) refl

  request_down : (i : ℕ) (o : Option Copy) (s : State) → (asks H i o s).power.down ≡ s.power.down
  unfolding asks
  request_down i none s = refl
  request_down i (some m) s =
      either (is_honest H m.to && not m.consumed) _ _ _
      (either (s.power.down m.to) _ _ _ refl (received_down m.to m.from m.message (request_taken i s) s.mail)) refl

  pub consumption_down : (requests copies : List ℕ) (s : State) → (run H (consumption requests copies) s).power.down ≡ s.power.down
  unfolding run step
  consumption_down [] [] s = refl
  consumption_down [] (i ∷ k) s = consumption_down [] k (step H (consume i) s) ∙ copy_down i (at s.mail i) s
  consumption_down (i ∷ l) k s = consumption_down l k (step H (help i) s) ∙ request_down i (at s.power.requests i) s
