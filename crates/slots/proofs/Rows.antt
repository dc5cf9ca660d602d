-- A row of slots, tested part after part.
use Prim.Native.Nat.{ℕ, zero, suc, ◌+◌}
use mathlib.Core.Path.{◌≡◌, refl, ap, ap₂, ◌∙◌}
use mathlib.Core.Bool.{Bool, true, false, ◌&&◌}
use mathlib.Core.List.{List}
use native.Mathlib.Nat.{add-zero, add-suc}
use native.Mathlib.Numerals.{add-one}
use native.Mathlib.Omega.{arith}
use Rattle.meaning.specs.Layout.{place_from}
use Rattle.meaning.specs.Slot.{slot_ok}
use Rattle.meaning.specs.Legal.{row_ok}

pub and_true : (s : Bool) → s ≡ s && true
and_true true = refl
and_true false = refl

and_assoc : (s t u : Bool) → ((s && t) && u) ≡ s && (t && u)
and_assoc true t u = refl
and_assoc false t u = refl

module _ (b : List ℕ) (at : ℕ) where
  pub row_none : (s : Bool) → s ≡ s && row_ok b at 0
  unfolding row_ok
  row_none = and_true

  -- t is the test of the first m slots after s: with one slot more
  pub row_next : (s t u : Bool) (m : ℕ) → t ≡ s && row_ok b at m → u ≡ t && slot_ok b (place_from at m) → u ≡ s && row_ok b at (m + 1)
  unfolding row_ok
  row_next s t u m d e = rw (e, d, add-one m) (and_assoc s (row_ok b at m) (slot_ok b (place_from at m)))

  row_parts : (m k : ℕ) → row_ok b at (m + k) ≡ row_ok b at m && row_ok b (place_from at m) k
  unfolding row_ok
  row_parts m zero = rw (add-zero m) (and_true (row_ok b at m))
  row_parts m (suc k) =
      let e : place_from at (m + k) ≡ place_from (place_from at m) k = omega arith in
      rw (add-suc m k)
      (ap₂ ◌&&◌ (row_parts m k) (ap (slot_ok b) e)
      ∙ and_assoc (row_ok b at m) (row_ok b (place_from at m) k) (slot_ok b (place_from (place_from at m) k)))

  -- t is the test of the first m slots: with k more, from the one at `here` on, n in all
  pub row_more : (t u : Bool) (m k n here : ℕ) → here ≡ place_from at m → m + k ≡ n → t ≡ row_ok b at m → u ≡ t && row_ok b here k
      → u ≡ row_ok b at n
  row_more t u m k n here p l d e = rw (← l, row_parts m k, e, d, p)
