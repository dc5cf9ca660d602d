-- The bits of a NaN, by the bits without the sign: those above the bits of infinity. Zero by zero is the one NaN.
use lib.Dec.{T}
use lib.Ieee.{Float, nan, inf, fin, binary32, div, of_bits, is_nan, nan_bits}
use lib.Ieee.Bits.{nan_bits_is, nan_bits_above}
use borrow.Author.Tests.{lt-ltb, le-ltb}
use mathlib.Core.Bool.{true, not}
use Rattle.std.proofs.Common.{◌≡◌, ℕ, ◌<◌, ◌≤◌, ◌%◌, Bool, refl, sym, subst, ◌∙◌}

nan_alone : (x : Float) → is_nan x ≡ true → x ≡ nan
unfolding is_nan
nan_alone nan h = refl
nan_alone (inf s) h = cc
nan_alone (fin s m e) h = cc

pub zero_by_zero : (b : ℕ) → 0x7f80_0000 < b % 0x8000_0000 → of_bits binary32 b ≡ div binary32 (of_bits binary32 0) (of_bits binary32 0)
unfolding div of_bits
zero_by_zero b l =
    nan_alone (of_bits binary32 b) (sym (nan_bits_is binary32 b) ∙ nan_bits_above binary32 b ∙ lt-ltb 0x7f80_0000 (b % 0x8000_0000) l)

pub no_nan_bits : (b : ℕ) → b % 0x8000_0000 ≤ 0x7f80_0000 → T (not (nan_bits binary32 b))
no_nan_bits b l =
    subst (λ (t : Bool). T (not t)) (sym (nan_bits_above binary32 b ∙ le-ltb 0x7f80_0000 (b % 0x8000_0000) l)) tt
