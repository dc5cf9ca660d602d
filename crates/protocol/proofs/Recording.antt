-- What recording answers: 0 of an empty slot, 7 where the same declaration stands, 13 where a different one does.
use Prim.Native.Nat.{ℕ}
use mathlib.Core.Path.{◌≡◌, refl}
use mathlib.Core.Bool.{Bool, true, false, cond}
use mathlib.Core.Option.{Option, none, some}
use native.Mathlib.Omega.{arith}
use Rattle.entry.specs.Entry.{Decl, same}
use Rattle.entry.proofs.Basics.{bcase, T_of, true_of, same_refl, same_eq}
use Rattle.protocol.specs.Steps.{recording}

pub recording_none : (v : Decl) → recording none v ≡ 0
unfolding recording
recording_none v = refl

pub recording_same : (v : Decl) → recording (some v) v ≡ 7
unfolding recording
recording_same v = rw (true_of (same v v) (same_refl v))

pub recording_other : (w v : Decl) → (w ≡ v → ⊥) → recording (some w) v ≡ 13
unfolding recording
recording_other w v d = bcase (same w v) (λ t. absurd (d (same_eq w v (T_of t)))) (λ t. rw t)

-- a full slot is never answered 0
pub recording_free : (o : Option Decl) (v : Decl) → recording o v ≡ 0 → o ≡ none
unfolding recording
recording_free none v e = refl
recording_free (some w) v e = absurd (go (same w v) e)
  where
    go : (t : Bool) → ◌≡◌ {A = ℕ} (cond t 7 13) 0 → ⊥
    go true z = omega (arith, z)
    go false z = omega (arith, z)
