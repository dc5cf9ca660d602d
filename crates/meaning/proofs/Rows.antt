-- Rows of lists, one after the other: their length, each of them again, and rows of rows.
use Prim.Native.Nat.{ℕ, zero, suc, ◌+◌, ◌*◌, ◌≤◌, ◌<◌}
use mathlib.Core.Path.{◌≡◌, refl, sym, ap, ap₂, ◌∙◌}
use mathlib.Core.List.{List, ◌++◌, append_assoc, append-nil}
use native.Mathlib.Decide.{dec_lt}
use native.Mathlib.Nat.{add-zero, add-suc, zero-mul, suc-mul, mul-le-mul_right}
use native.Mathlib.Omega.{arith}
use lib.ListN.{length, replicate, length-append, replicate-append-replicate}
use Rattle.words.specs.Words.{Bytes}
use Rattle.words.proofs.Bytes.{bytes_append, bytes_zeros}
use Rattle.meaning.specs.Slot.{part}
use Rattle.meaning.specs.Book.{rows}
use Rattle.meaning.proofs.Parts.{part_all, part_add, part_before, part_after}

pub rows_same : (n : ℕ) (f g : ℕ → List ℕ) → ((k : ℕ) → k < n → f k ≡ g k) → rows n f ≡ rows n g
unfolding rows
rows_same zero f g h = refl
rows_same (suc n) f g h = ap₂ ◌++◌ (rows_same n f g (λ k l. h k (omega arith))) (h n (omega arith))

pub rows_add : (a b : ℕ) (f : ℕ → List ℕ) → rows (a + b) f ≡ rows a f ++ rows b (λ k. f (a + k))
unfolding rows
rows_add a zero f = rw add-zero (sym (append-nil (rows a f)))
rows_add a (suc b) f =
    rw add-suc
    (ap (λ (l : List ℕ). l ++ f (a + b)) (rows_add a b f) ∙ append_assoc (rows a f) (rows b (λ k. f (a + k))) (f (a + b)))

pub rows_flat : (n m : ℕ) (f : ℕ → List ℕ) → rows n (λ r. rows m (λ i. f (r * m + i))) ≡ rows (n * m) f
unfolding rows
rows_flat zero m f = rw zero-mul
rows_flat (suc n) m f =
    rw suc-mul (ap (λ (l : List ℕ). l ++ rows m (λ i. f (n * m + i))) (rows_flat n m f) ∙ sym (rows_add (n * m) m f))

pub rows_zeros : (n m : ℕ) → rows n (λ k. replicate m 0) ≡ replicate (n * m) 0
unfolding rows
rows_zeros zero m = rw zero-mul
rows_zeros (suc n) m =
    rw suc-mul (ap (λ (l : List ℕ). l ++ replicate m 0) (rows_zeros n m) ∙ replicate-append-replicate (n * m) m 0)

pub rows_bytes : (n : ℕ) (f : ℕ → List ℕ) → ((k : ℕ) → k < n → Bytes (f k)) → Bytes (rows n f)
unfolding rows
rows_bytes zero f h = bytes_zeros 0
rows_bytes (suc n) f h = bytes_append (rows n f) (f n) (rows_bytes n f (λ k l. h k (omega arith))) (h n (omega arith))

-- ---- rows of one length, m

module _ (m : ℕ) where
  pub rows_length : (n : ℕ) (f : ℕ → List ℕ) → ((k : ℕ) → k < n → length (f k) ≡ m) → length (rows n f) ≡ n * m
  unfolding rows
  rows_length zero f h = rw zero-mul
  rows_length (suc n) f h =
      length-append (rows n f) (f n) ∙ omega (arith, rows_length n f (λ k l. h k (omega arith)), h n (omega arith), suc-mul n m)

  -- each row stands where it should
  pub part_rows : (n : ℕ) (f : ℕ → List ℕ) → ((k : ℕ) → k < n → length (f k) ≡ m) → (k : ℕ) → k < n → part (rows n f) (k * m) m ≡ f k
  unfolding rows
  part_rows zero f h k l = absurd (omega arith)
  part_rows (suc n) f h k l =
      let all = rows_length n f (λ k l. h k (omega arith)) in
      elim (dec_lt k n) [
        | yes a ↦ let fits : suc k * m ≤ n * m = mul-le-mul_right m a in
            part_before (rows n f) (f n) (k * m) m (omega (arith, suc-mul k m)) ∙ part_rows n f (λ k l. h k (omega arith)) k a
        | no g ↦ let e : k ≡ n = omega arith in
            rw e (part_after (rows n f) (f n) (n * m) 0 m (omega arith) ∙ part_all (f n) m (omega (arith, h n (omega arith))))
      ]

  -- a list is the rows of its parts
  module _ (b : List ℕ) where
    pub rows_parts : (at n : ℕ) (f : ℕ → List ℕ) → ((k : ℕ) → k < n → f k ≡ part b (at + k * m) m) → rows n f ≡ part b at (n * m)
    unfolding rows
    rows_parts at zero f h = rw zero-mul
    rows_parts at (suc n) f h =
        rw suc-mul (ap₂ ◌++◌ (rows_parts at n f (λ k l. h k (omega arith))) (h n (omega arith)) ∙ sym (part_add b at (n * m) m))
