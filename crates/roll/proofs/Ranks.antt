-- Float comparison of finite readings is comparison of the ranks of their bits.
use Prim.Native.Nat.{ℕ, ◌+◌, ◌-◌, ◌%◌, ◌^◌, ◌≤◌, ◌<◌}
use mathlib.Core.Path.{◌≡◌, refl, sym, ap, ◌∙◌, subst}
use mathlib.Core.Bool.{Bool, true, false, not, ◌||◌, true≢false}
use native.Mathlib.Omega.{arith}
use lib.Dec.{leb, ltb}
use lib.Pow.{pow_pos}
use lib.Ieee.{Float, binary32, of_bits, below, lt, le, eq}
use borrow.Author.Tests.{le-leb, lt-leb, le-ltb, ltb-true, ltb-false}
use Rattle.sheet.specs.Sheet.{finite}
use Rattle.sheet.proofs.Finite.{finite_bits}
use Rattle.sheet.proofs.Order.{same_ltb, units_of, units, units_mono, units_back, sized, lt_sized, le_is}
use Rattle.roll.specs.Rank.{rank}
use Rattle.std.proofs.Math.Bool.{or-true}
use Rattle.roll.proofs.Tests.{bcase}

-- ---- the rank of a sign and a size

abbrev ranked : Bool → ℕ → ℕ
ranked false i = 0x8000_0000 + i
ranked true i = 0x8000_0000 - i

rank_is : (b : ℕ) → rank b ≡ ranked (leb 0x8000_0000 b) (b % 0x8000_0000)
unfolding rank
rank_is b = bcase (ltb b 0x8000_0000) plus minus
  where
    plus : ltb b 0x8000_0000 ≡ true → rank b ≡ ranked (leb 0x8000_0000 b) (b % 0x8000_0000)
    plus e = let l = ltb-true b 0x8000_0000 e in rw (e, lt-leb 0x8000_0000 b l) (ap (λ (k : ℕ). 0x8000_0000 + k) (small l))
      where
        small : b < 0x8000_0000 → b ≡ b % 0x8000_0000
        small h = omega arith

    minus : ltb b 0x8000_0000 ≡ false → rank b ≡ ranked (leb 0x8000_0000 b) (b % 0x8000_0000)
    minus e = rw (e, le-leb 0x8000_0000 b (ltb-false b 0x8000_0000 e))

-- ---- comparison of signs and sizes is comparison of ranks

below_ranked : (s t : Bool) (i j : ℕ) → i < 0x8000_0000 → j < 0x8000_0000
    → below s (units i) t (units j) ≡ ltb (ranked s i) (ranked t j)
unfolding units_of
below_ranked false false i j small_i small_j =
    same_ltb (units i) (units j) (0x8000_0000 + i) (0x8000_0000 + j) (λ l. up (units_back i j l)) (λ l. units_mono i j (back l))
  where
    up : {i j : ℕ} → i < j → 0x8000_0000 + i < 0x8000_0000 + j
    up h = omega arith

    back : {i j : ℕ} → 0x8000_0000 + i < 0x8000_0000 + j → i < j
    back h = omega arith
below_ranked false true i j small_i small_j = sym (le-ltb (0x8000_0000 + i) (0x8000_0000 - j) (omega arith))
below_ranked true false i j small_i small_j =
    same_ltb 0 (units i + units j) (0x8000_0000 - i) (0x8000_0000 + j) (λ l. apart (ltb 0 i) (ltb 0 j) refl refl l) (λ l. some l)
  where
    apart : (a b : Bool) → ltb 0 i ≡ a → ltb 0 j ≡ b → 0 < units i + units j → 0x8000_0000 - i < 0x8000_0000 + j
    apart true b e f l = let h = ltb-true 0 i e in omega arith
    apart false true e f l = let h = ltb-true 0 j f in omega arith
    apart false false e f l = absurd (none (ltb-false 0 i e) (ltb-false 0 j f) l)
      where
        none : i ≤ 0 → j ≤ 0 → 0 < units i + units j → ⊥
        none a b c =
            let x : i ≡ 0 = omega arith in
            let y : j ≡ 0 = omega arith in
            let u : units i ≡ units 0 = ap units x in
            let v : units j ≡ units 0 = ap units y in
            omega arith

    some : 0x8000_0000 - i < 0x8000_0000 + j → 0 < units i + units j
    some l = go (ltb 0 i) refl
      where
        go : (a : Bool) → ltb 0 i ≡ a → 0 < units i + units j
        go true e = let m = units_mono 0 i (ltb-true 0 i e) in omega arith
        go false e = let m = units_mono 0 j (let z = ltb-false 0 i e in omega arith) in omega arith
below_ranked true true i j small_i small_j =
    same_ltb (units j) (units i) (0x8000_0000 - i) (0x8000_0000 - j) (λ l. down (units_back j i l)) (λ l. units_mono j i (back l))
  where
    down : j < i → 0x8000_0000 - i < 0x8000_0000 - j
    down h = omega arith

    back : 0x8000_0000 - i < 0x8000_0000 - j → j < i
    back h = omega arith

without_sign : (b : ℕ) → b % 0x8000_0000 < 0x8000_0000
without_sign b = omega arith

pub lt_rank : (a b : ℕ) → finite (of_bits binary32 a) ≡ true → finite (of_bits binary32 b) ≡ true
    → lt (of_bits binary32 a) (of_bits binary32 b) ≡ ltb (rank a) (rank b)
lt_rank a b h k =
    lt_sized (of_bits binary32 a) (of_bits binary32 b) (leb 0x8000_0000 a) (leb 0x8000_0000 b) (units (a % 0x8000_0000))
    (units (b % 0x8000_0000)) (2 ^ 149) (pow_pos 149) (sized a h) (sized b k)
    ∙ below_ranked (leb 0x8000_0000 a) (leb 0x8000_0000 b) (a % 0x8000_0000) (b % 0x8000_0000) (without_sign a) (without_sign b)
    ∙ λ i. ltb (sym (rank_is a) i) (sym (rank_is b) i)

-- the rank of a finite reading is not 0
pub rank_there : (b : ℕ) → finite (of_bits binary32 b) ≡ true → 0 < rank b
rank_there b h = subst (λ (k : ℕ). 0 < k) (sym (rank_is b)) (go (leb 0x8000_0000 b) (ltb-true _ _ (sym (finite_bits b) ∙ h)))
  where
    go : (s : Bool) → b % 0x8000_0000 < 0x7f80_0000 → 0 < ranked s (b % 0x8000_0000)
    go true l = omega arith
    go false l = omega arith

-- ---- equal is neither below nor above

pub equal_not_below : (x y : Float) → finite x ≡ true → finite y ≡ true → eq x y ≡ true → lt y x ≡ false
unfolding le
equal_not_below x y h k e = turned (lt y x) (sym (le_is x y h k) ∙ ap (λ (b : Bool). lt x y || b) e ∙ or-true (lt x y))
  where
    turned : (b : Bool) → not b ≡ true → b ≡ false
    turned true f = absurd (true≢false (sym f))
    turned false f = refl

pub neither_is_equal : (x y : Float) → finite x ≡ true → finite y ≡ true → lt x y ≡ false → lt y x ≡ false → eq x y ≡ true
unfolding le
neither_is_equal x y h k a b = sym (ap (λ (c : Bool). c || eq x y) a) ∙ le_is x y h k ∙ ap not b
