-- What is gathered stays clear exactly when the slot that is added has its one form; and how the code tests that it is clear.
use Prim.Native.Nat.{ℕ, zero, suc, ◌+◌, ◌≤◌}
use mathlib.Core.Path.{◌≡◌, refl, sym, ap, ◌∙◌}
use mathlib.Core.Bool.{Bool, true, false, ◌&&◌}
use mathlib.Core.List.{List}
use native.Mathlib.Omega.{arith}
use lib.Bits.{bit_or, or_add_and, and_le_r}
use lib.Dec.{eqb}
use lib.ListN.{length, get_or}
use borrow.Author.Tests.{eq-eqb, ne_eqb}
use Rattle.words.specs.Words.{Bytes}
use Rattle.entry.proofs.Basics.{and_false}
use Rattle.meaning.specs.Layout.{slot_length}
use Rattle.meaning.specs.Slot.{slot_ok}
use Rattle.slots.specs.declared.Strays.{Strays}
use Rattle.slots.specs.Strays.{clear}
use Rattle.slots.proofs.Eight.{eight}
use Rattle.slots.proofs.Rows.{and_true}
use Rattle.slots.proofs.Slots.{ok_full, zeros_ok}

-- two numbers ORed are zero exactly when both are
or_none : (x y : ℕ) → eqb (bit_or x y) 0 ≡ eqb x 0 && eqb y 0
or_none zero y = refl
or_none (suc x) y =
    rw (ne_eqb (suc x) 0 (λ q. omega arith), ne_eqb (bit_or (suc x) y) 0 (λ q. omega (arith, or_add_and (suc x) y, and_le_r (suc x) y)))

and_swap : (s t u v : Bool) → ((s && t) && (u && v)) ≡ (s && u) && (t && v)
and_swap false t u v = refl
and_swap true true u v = refl
and_swap true false u v = sym (and_false u false refl)

module _ (b : List ℕ) (at : ℕ) (s : Strays) where
  pub full_gathered : get_or b at 0 ≡ 1 → clear s ≡ clear s && slot_ok b at
  full_gathered e = rw (ok_full b at e) (and_true (clear s))

  pub empty_gathered : at + slot_length ≤ length b → Bytes b → (get_or b at 0 ≡ 1 → ⊥) → (x y z : ℕ) → x ≡ eight b at → y ≡ eight b (at + 8)
      → z ≡ eight b (at + 13)
      → clear (record { first = bit_or s.first x; middle = bit_or s.middle y; last = bit_or s.last z }) ≡ clear s && slot_ok b at
  unfolding clear
  empty_gathered fits bytes empty x y z d e f =
      rw (← zeros_ok b at fits bytes empty, ← d, ← e, ← f, or_none s.first x, or_none s.middle y, or_none s.last z)
      (ap (λ (t : Bool). (eqb s.first 0 && eqb x 0) && t) (and_swap (eqb s.middle 0) (eqb y 0) (eqb s.last 0) (eqb z 0))
      ∙ and_swap (eqb s.first 0) (eqb x 0) (eqb s.middle 0 && eqb s.last 0) (eqb y 0 && eqb z 0))

-- t is what the tests of the first number and, where that is zero, of the middle one give; with the test of the last, all is clear
module _ (s : Strays) (t : Bool) where
  pub clear_more : s.first ≡ 0 → t ≡ eqb s.middle 0 → (t && eqb s.last 0) ≡ clear s
  unfolding clear
  clear_more e f = rw (f, eq-eqb _ _ e)

  pub clear_less : (s.first ≡ 0 → ⊥) → t ≡ eqb s.first 0 → (t && eqb s.last 0) ≡ clear s
  unfolding clear
  clear_less e f = rw (f, ne_eqb _ _ e)
