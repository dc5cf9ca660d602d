-- The numbers of a declaration that stands at `at` are those of its 20 bytes.
use Prim.Native.Nat.{ℕ, ◌+◌, ◌<◌, ◌≤◌}
use mathlib.Core.Path.{◌≡◌, refl, ap, ◌∙◌}
use mathlib.Core.List.{List}
use native.Mathlib.Omega.{arith}
use lib.ListN.{length, get_or}
use Rattle.words.specs.Words.{word_at}
use Rattle.lot.specs.Declaration.{declaration_at}
use Rattle.meaning.specs.Slot.{part}
use Rattle.meaning.proofs.Parts.{get_d_part}

module _ (b : List ℕ) (at : ℕ) (h : at + 20 ≤ length b) where
  part_at : (i k : ℕ) → i < 20 → at + i ≡ k → get_or (part b at 20) i 0 ≡ get_or b k 0
  part_at i k l e = get_d_part b at 20 i l ∙ ap (λ (j : ℕ). get_or b j 0) e

  part_word : (i k : ℕ) → i + 3 < 20 → at + i ≡ k → word_at (part b at 20) i ≡ word_at b k
  part_word i k l e =
      omega (
        arith,
        part_at i k (omega arith) e,
        part_at (i + 1) (k + 1) (omega arith) (omega arith),
        part_at (i + 2) (k + 2) (omega arith) (omega arith),
        part_at (i + 3) (k + 3) (omega arith) (omega arith),
      )

  pub part_numbers : declaration_at (part b at 20) 0 ≡ declaration_at b at
  unfolding declaration_at
  part_numbers = λ i.
      record {
        lot = part_word 0 at (omega arith) (omega arith) i;
        colonies = part_word 4 (at + 4) (omega arith) refl i;
        kilograms = part_word 8 (at + 8) (omega arith) refl i;
        moisture = part_word 12 (at + 12) (omega arith) refl i;
        conductivity = part_word 16 (at + 16) (omega arith) refl i;
      }
