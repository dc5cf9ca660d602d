-- Counting the slots that have three numbers: one slot more, and all n of them.
use Prim.Native.Nat.{ℕ, ◌+◌, ◌<◌, ◌≤◌}
use mathlib.Core.Path.{◌≡◌, sym, ap, ◌∙◌}
use mathlib.Core.Bool.{true, false}
use mathlib.Core.List.{List}
use native.Mathlib.Nat.{mul-le-mul_left}
use native.Mathlib.Omega.{arith}
use native.Mathlib.Numerals.{add-one}
use lib.Dec.{eqb}
use lib.ListN.{length, replicate}
use borrow.Author.Tests.{ne_eqb}
use Rattle.words.specs.Words.{Bytes}
use Rattle.card.specs.Count.{count}
use Rattle.card.proofs.Counting as card
use Rattle.entry.specs.Entry.{holds}
use Rattle.entry.proofs.Basics.{and_false}
use Rattle.meaning.specs.Layout.{slot_length, place_from}
use Rattle.meaning.specs.Slot.{slot_at, put_slot}
use Rattle.slots.proofs.Eight.{eight}
use Rattle.slots.proofs.Alike.{alike, are_alike}
use Rattle.vouchers.proofs.Alike.{alike_holds}

-- how many of the first p slots from `at` on have these numbers
abbrev pub so_many : List ℕ → (at x y z p : ℕ) → ℕ
so_many b at x y z p = count (λ i. alike 5 b (place_from at i) x y z) p

-- one slot more, by what the three tests say of it
module _ (b : List ℕ) (at x y z p n m : ℕ) (more : p < n) (so_far : (p ≤ n) × ((m ≡ so_many b at x y z p) × (m ≤ p))) where
  abbrev here : ℕ
  here = place_from at p

  abbrev Next : ℕ → Type 0
  Next k = (p + 1 ≤ n) × ((k ≡ so_many b at x y z (p + 1)) × (k ≤ p + 1))

  hit : (k : ℕ) → alike 5 b here x y z ≡ true → k ≡ m + 1 → Next k
  hit k t q = (omega arith, (rw (add-one p, t) (omega (arith, so_far.1.0)), omega (arith, so_far.1.1)))

  miss : (k : ℕ) → alike 5 b here x y z ≡ false → k ≡ m → Next k
  miss k t q = (omega arith, (rw (add-one p, t) (omega (arith, so_far.1.0)), omega (arith, so_far.1.1)))

  module _ (k r : ℕ) where
    pub first_differs : r ≡ eight b here → (r ≡ x → ⊥) → k ≡ m → Next k
    first_differs e f = miss k (rw (ne_eqb _ _ (λ (q : eight b here ≡ x). f (e ∙ q))))

    pub second_differs : r ≡ eight b (here + 5) → (r ≡ y → ⊥) → k ≡ m → Next k
    second_differs e f = miss k (and_false (eqb (eight b here) x) _ (rw (ne_eqb _ _ (λ (q : eight b (here + 5) ≡ y). f (e ∙ q)))))

    pub third_differs : r ≡ eight b (here + 13) → (r ≡ z → ⊥) → k ≡ m → Next k
    third_differs e f =
        miss k
        (and_false (eqb (eight b here) x) _
        (and_false (eqb (eight b (here + 5)) y) _ (ne_eqb _ _ (λ (q : eight b (here + 13) ≡ z). f (e ∙ q)))))

    pub none_differs : (s t : ℕ) → r ≡ eight b here → s ≡ eight b (here + 5) → t ≡ eight b (here + 13) → r ≡ x → s ≡ y → t ≡ z
        → k ≡ m + 1 → Next k
    none_differs s t d e f x' y' z' = hit k (are_alike 5 b here x y z (sym d ∙ x') (sym e ∙ y') (sym f ∙ z'))

-- so far no more are found than slots were looked at, so that one more fits where n does
pub one_more : (found p n most : ℕ) → found ≤ p → p < n → n < most → found + 1 < most
one_more found p n most h k l = omega arith

-- all n slots were looked at, by the numbers of the slot that holds d
module _ (b d s : List ℕ) (at n p m x y z : ℕ) (within : place_from at n ≤ length b) (long : length d ≡ 20) (u : Bytes b)
    (v : Bytes d) where
  pub counted : s ≡ put_slot (replicate slot_length 0) 0 d → x ≡ eight s 0 → y ≡ eight s 5 → z ≡ eight s 13
      → n ≤ p → (p ≤ n) × ((m ≡ so_many b at x y z p) × (m ≤ p)) → (m ≡ count (λ i. holds (slot_at b (place_from at i)) d) n) × (m ≤ n)
  counted e ex ey ez f so_far =
      let q : p ≡ n = omega (arith, so_far.0) in (
        so_far.1.0
            ∙ ap (so_many b at x y z) q
            ∙ card.count_same (λ i. alike 5 b (place_from at i) x y z) (λ i. holds (slot_at b (place_from at i)) d) n
            (λ i h.
            rw (ex, ey, ez, e) (alike_holds b d (place_from at i) (omega (arith, mul-le-mul_left 21 h)) long u v)),
        omega (arith, so_far.1.1),
      )
