-- Parts of a list: so many elements from a place on, of a list made of two, of a part, and two parts that meet; and that they are bytes.
use Prim.Native.Nat.{ℕ, zero, suc, ◌+◌, ◌-◌, ◌≤◌, ◌<◌}
use mathlib.Core.Path.{◌≡◌, refl, sym, ap, ◌∙◌}
use mathlib.Core.List.{List, [], ◌∷◌, ◌++◌}
use native.Mathlib.Nat.{zero-add, add-zero, suc-add}
use native.Mathlib.Omega.{arith}
use lib.ListN.{length, get_or, take, drop, length-take, length-drop}
use lib.Seq.{get_or-take, get_or-drop, take-add, take_all, take-take, drop-drop, take-append-le, drop-append-le, drop-append-add}
use Rattle.words.specs.Words.{Bytes}
use Rattle.words.proofs.Bytes.{bytes_take, bytes_drop}
use Rattle.meaning.specs.Slot.{part}

drop_take : (i m : ℕ) (l : List ℕ) → drop i (take (i + m) l) ≡ take m (drop i l)
drop_take zero zero l = refl
drop_take zero (suc m) l = rw zero-add
drop_take (suc i) zero [] = rw suc-add
drop_take (suc i) (suc m) [] = rw suc-add
drop_take (suc i) zero (x ∷ l) = rw suc-add (drop_take i zero l)
drop_take (suc i) (suc m) (x ∷ l) = rw suc-add (drop_take i (suc m) l)

module _ (b : List ℕ) where
  pub part_all : (m : ℕ) → length b ≤ m → part b 0 m ≡ b
  part_all m h = take_all m b h

  module _ (at : ℕ) where
    pub part_length : (m : ℕ) → at + m ≤ length b → length (part b at m) ≡ m
    part_length m h = simp (length-take, length-drop) (omega arith)

    pub get_d_part : (m i : ℕ) → i < m → get_or (part b at m) i 0 ≡ get_or b (at + i) 0
    get_d_part m i h = rw (get_or-take, get_or-drop)

    pub get_d_first : (m : ℕ) → 0 < m → get_or b at 0 ≡ get_or (part b at m) 0 0
    get_d_first m h = sym (get_d_part m 0 h ∙ ap (λ (k : ℕ). get_or b k 0) (add-zero at))

    pub part_add : (m k : ℕ) → part b at (m + k) ≡ part b at m ++ part b (at + m) k
    part_add m k = rw (take-add m k (drop at b), drop-drop m at b)

    pub part_part : (m i k : ℕ) → i + k ≤ m → part (part b at m) i k ≡ part b (at + i) k
    part_part m i k h =
        let e : m ≡ i + (m - i) = omega arith in
        let l : k ≤ m - i = omega arith in
        ap (λ (x : ℕ). part (part b at x) i k) e
        ∙ rw (drop_take i (m - i) (drop at b), take-take k (m - i) (drop i (drop at b)) l, drop-drop i at b)

module _ (xs ys : List ℕ) where
  pub part_before : (at m : ℕ) → at + m ≤ length xs → part (xs ++ ys) at m ≡ part xs at m
  part_before at m h =
      let l : at ≤ length xs = omega arith in
      let k : m ≤ length (drop at xs) = simp length-drop (omega arith) in
      rw (drop-append-le at xs ys l, take-append-le m (drop at xs) ys k)

  pub part_after : (at k m : ℕ) → at ≡ length xs + k → part (xs ++ ys) at m ≡ part ys k m
  part_after at k m e = rw (e, drop-append-add xs ys k)

-- ---- bytes

pub bytes_part : (b : List ℕ) (at m : ℕ) → Bytes b → Bytes (part b at m)
bytes_part b at m p = bytes_take m (drop at b) (bytes_drop at b p)
