-- Finite by the bits: all but the sign's is below the pattern of infinity.
use Prim.Native.Nat.{ℕ, zero, suc, ◌+◌, ◌/◌, ◌%◌, ◌<◌}
use mathlib.Core.Path.{◌≡◌, refl, sym, ◌∙◌}
use mathlib.Core.Bool.{Bool, true, false, cond, not}
use native.Mathlib.Omega.{arith}
use lib.Dec.{leb, ltb, eqb}
use lib.Ieee.{nan, inf, binary32, odd, of_fields, of_bits}
use borrow.Author.Tests.{lt-ltb, le-ltb, eqb-true, eqb-false}
use Rattle.sheet.specs.Sheet.{finite}

odd_finite : (d : ℕ) (s : Bool) (q k l : ℕ) → finite (odd d s q k l) ≡ true
unfolding odd finite
odd_finite d s zero k l = refl
odd_finite d s (suc q) k l = refl

-- only the field of all ones is not finite
field_finite : (s : Bool) (x t : ℕ) → finite (of_fields binary32 s x t) ≡ not (eqb x 255)
unfolding of_fields finite
field_finite s zero t = odd_finite 24 s t 0 149
field_finite s (suc x) t = go (eqb (suc x) 255) (eqb t 0)
  where
    go : (a b : Bool) → finite (cond a (cond b (inf s) nan) (odd 24 s (0x80_0000 + t) x 149)) ≡ not a
    go true true = refl
    go true false = refl
    go false b = odd_finite 24 s (0x80_0000 + t) x 149

pub finite_bits : (b : ℕ) → finite (of_bits binary32 b) ≡ ltb (b % 0x8000_0000) 0x7f80_0000
unfolding of_bits
finite_bits b =
    field_finite (leb 0x8000_0000 b) (b % 0x8000_0000 / 0x80_0000) (b % 0x80_0000) ∙ go (eqb (b % 0x8000_0000 / 0x80_0000) 255) refl
  where
    go : (t : Bool) → eqb (b % 0x8000_0000 / 0x80_0000) 255 ≡ t → not t ≡ ltb (b % 0x8000_0000) 0x7f80_0000
    go true e = let f = eqb-true (b % 0x8000_0000 / 0x80_0000) 255 e in sym (le-ltb (b % 0x8000_0000) 0x7f80_0000 (omega arith))
    go false e =
        sym (lt-ltb (b % 0x8000_0000) 0x7f80_0000 (below (b % 0x8000_0000) (omega arith) (eqb-false (b % 0x8000_0000 / 0x80_0000) 255 e)))
      where
        below : (i : ℕ) → i < 0x8000_0000 → (i / 0x80_0000 ≡ 255 → ⊥) → i < 0x7f80_0000
        below i l n = omega arith
