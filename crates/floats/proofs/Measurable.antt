-- What is not NaN, infinite or below zero, by its bits: those below the bits of infinity, and minus zero's. Of two such the order is that
-- of their bits without the sign, so no float compare is needed to judge.
use Prim.Native.Nat.{ℕ, ◌+◌, ◌%◌, ◌^◌, ◌≤◌, ◌<◌}
use mathlib.Core.Path.{◌≡◌, refl, sym, ap, ◌∙◌, subst}
use mathlib.Core.Bool.{Bool, true, false, not, ◌&&◌, true≢false}
use native.Mathlib.Omega.{arith}
use lib.Dec.{T, leb, ltb}
use lib.Pow.{pow_pos}
use lib.Ieee.{Float, binary32, of_bits, to_bits, fits, below, lt, le}
use lib.Ieee.Bits.{of_bits-to_bits}
use borrow.Author.Tests.{lt-ltb, le-ltb, le-leb, lt-leb, ltb-true, ltb-false}
use Rattle.sheet.specs.Sheet.{finite, plus_zero, below_zero, measurable, Measurable}
use Rattle.sheet.proofs.Measurable.{measurable_exactly, minus_zero_measurable}
use Rattle.sheet.proofs.Finite.{finite_bits}
use Rattle.sheet.proofs.Order.{same_ltb, not_ltb, units_of, units, units_mono, units_back, sized, lt_sized, le_is}

-- ---- below zero, by the bits

-- a size with a sign is below zero, unless it is zero
under : (s : Bool) (i : ℕ) → below s (units i) false 0 ≡ (s && ltb 0 i)
unfolding units_of
under false i = le-ltb (units i) 0 (omega arith)
under true i =
    same_ltb 0 (units i + 0) 0 i (λ l. units_back 0 i (omega arith)) (λ l. let m = units_mono 0 i l in omega arith)

below_bits : (b : ℕ) → finite (of_bits binary32 b) ≡ true → below_zero (of_bits binary32 b) ≡ (leb 0x8000_0000 b && ltb 0 (b % 0x8000_0000))
unfolding units_of
below_bits b h =
    lt_sized (of_bits binary32 b) plus_zero (leb 0x8000_0000 b) false (units (b % 0x8000_0000)) 0 (2 ^ 149) (pow_pos 149) (sized b h)
    (sized 0 (finite_bits 0))
    ∙ under (leb 0x8000_0000 b) (b % 0x8000_0000)

-- ---- measurable, by the bits

pub in_range : (b : ℕ) → b < 0x7f80_0000 → measurable (of_bits binary32 b) ≡ true
in_range b l =
    let f = finite_bits b ∙ lt-ltb (b % 0x8000_0000) 0x7f80_0000 (omega arith) in
    let s = lt-leb 0x8000_0000 b (omega arith) in
    (measurable_exactly (of_bits binary32 b)).1 (record { is_finite = f; not_below = below_bits b f ∙ rw s refl })

pub at_minus_zero : (b : ℕ) → b ≡ 0x8000_0000 → measurable (of_bits binary32 b) ≡ true
at_minus_zero b e = rw e minus_zero_measurable

pub out_of_range : (b : ℕ) → b < 2 ^ 32 → 0x7f80_0000 ≤ b → (b ≡ 0x8000_0000 → ⊥) → measurable (of_bits binary32 b) ≡ false
out_of_range b small past other = go (measurable (of_bits binary32 b)) refl
  where
    no : Measurable (of_bits binary32 b) → ⊥
    no m =
        let l = ltb-true (b % 0x8000_0000) 0x7f80_0000 (sym (finite_bits b) ∙ m.is_finite) in
        let s = le-leb 0x8000_0000 b (omega arith) in
        let n = lt-ltb 0 (b % 0x8000_0000) (omega arith) in
        true≢false (sym (below_bits b m.is_finite ∙ rw (s, n) refl) ∙ m.not_below)

    go : (t : Bool) → measurable (of_bits binary32 b) ≡ t → measurable (of_bits binary32 b) ≡ false
    go true e = absurd (no ((measurable_exactly (of_bits binary32 b)).0 e))
    go false e = e

-- the three together
pub ruleset measurable_by_bits = (in_range, at_minus_zero, out_of_range)

-- ---- and at most another, by the bits without the sign

-- of sizes of which zero alone may have a sign
placed : (s t : Bool) (i j : ℕ) → (s && ltb 0 i) ≡ false → (t && ltb 0 j) ≡ false → below s (units i) t (units j) ≡ ltb i j
unfolding units_of
placed false false i j I J = same_ltb (units i) (units j) i j (units_back i j) (units_mono i j)
placed false true i j I J = let z = ltb-false 0 j J in sym (le-ltb i j (omega arith))
placed true false i j I J =
    let z : i ≡ 0 = (let y = ltb-false 0 i I in omega arith) in
    rw z (same_ltb 0 (0 + units j) 0 j (λ l. units_back 0 j (omega arith)) (λ l. let m = units_mono 0 j l in omega arith))
placed true true i j I J =
    let z : i ≡ 0 = (let y = ltb-false 0 i I in omega arith) in
    let y : j ≡ 0 = (let x = ltb-false 0 j J in omega arith) in
    rw (z, y) refl

lt_bits : (a b : ℕ) → Measurable (of_bits binary32 a) → Measurable (of_bits binary32 b)
    → lt (of_bits binary32 a) (of_bits binary32 b) ≡ ltb (a % 0x8000_0000) (b % 0x8000_0000)
lt_bits a b h k =
    lt_sized (of_bits binary32 a) (of_bits binary32 b) (leb 0x8000_0000 a) (leb 0x8000_0000 b) (units (a % 0x8000_0000))
    (units (b % 0x8000_0000)) (2 ^ 149) (pow_pos 149) (sized a h.is_finite) (sized b k.is_finite)
    ∙ placed (leb 0x8000_0000 a) (leb 0x8000_0000 b) (a % 0x8000_0000) (b % 0x8000_0000)
    (sym (below_bits a h.is_finite) ∙ h.not_below)
    (sym (below_bits b k.is_finite) ∙ k.not_below)

pub le_bits : (x y : Float) → T (fits binary32 x) → T (fits binary32 y) → measurable x ≡ true → measurable y ≡ true
    → le x y ≡ leb (to_bits binary32 x % 0x8000_0000) (to_bits binary32 y % 0x8000_0000)
le_bits x y X Y h k =
    let p = of_bits-to_bits binary32 x X in
    let q = of_bits-to_bits binary32 y Y in
    let m = (measurable_exactly x).0 h in
    let n = (measurable_exactly y).0 k in
    let a = to_bits binary32 x in
    let b = to_bits binary32 y in
    le_is x y m.is_finite n.is_finite
    ∙ ap not (sym (λ i. lt (q i) (p i)) ∙ lt_bits b a (subst Measurable (sym q) n) (subst Measurable (sym p) m))
    ∙ not_ltb (a % 0x8000_0000) (b % 0x8000_0000)
