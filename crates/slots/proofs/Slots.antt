-- What the presence byte and the numbers of a slot say of it, and the bytes after a slot is filled.
use Prim.Native.Nat.{ℕ, ◌+◌, ◌<◌, ◌≤◌}
use mathlib.Core.Path.{◌≡◌, refl, sym, ap, ◌∙◌}
use mathlib.Core.Bool.{Bool, true, false, cond}
use mathlib.Core.List.{List, ◌∷◌, append_assoc}
use mathlib.Core.Option.{none, some}
use native.Mathlib.Omega.{arith}
use native.Mathlib.Numerals.{add-one}
use lib.Dec.{eqb}
use lib.ListN.{length, get_or, take, drop, set, replicate}
use lib.Seq.{paste, take-suc-set, drop-set-lt, take_all, append_snoc}
use borrow.Author.Tests.{eq-eqb, ne_eqb}
use Rattle.words.specs.Words.{Bytes}
use Rattle.words.proofs.Bytes.{bytes_zeros}
use Rattle.entry.specs.Entry.{is_some}
use Rattle.entry.proofs.Basics.{T_of, true_of, both}
use Rattle.meaning.specs.Layout.{slot_length}
use Rattle.meaning.specs.Slot.{part, slot_at, slot_ok, slot_bytes, put_slot}
use Rattle.meaning.proofs.Slots.{ok_part, ok_of_bytes, ok_bytes}
use Rattle.slots.proofs.Alike.{alike, is_v, of_v}

-- a slot, by its presence byte
module _ (b : List ℕ) (at : ℕ) where
  pub full_is : eqb (get_or b at 0) 1 ≡ is_some (slot_at b at)
  unfolding slot_at
  full_is = go (eqb (get_or b at 0) 1)
    where
      go : (t : Bool) → t ≡ is_some (cond t (some (part b (at + 1) 20)) none)
      go true = refl
      go false = refl

  pub ok_full : get_or b at 0 ≡ 1 → slot_ok b at ≡ true
  unfolding slot_ok
  ok_full e = rw (eq-eqb _ _ e)

-- a slot that is not full has its one form exactly when three numbers are zero: of its bytes 0 to 7, 8 to 15, 13 to 20
module _ (b : List ℕ) (at : ℕ) (fits : at + slot_length ≤ length b) (x : Bytes b) (empty : get_or b at 0 ≡ 1 → ⊥) where
  pub zeros_ok : alike 8 b at 0 0 0 ≡ slot_ok b at
  unfolding slot_at slot_bytes
  zeros_ok =
      let zeros : List ℕ = replicate slot_length 0 in
      let y : Bytes zeros = bytes_zeros slot_length in
      let none_here : slot_at b at ≡ none = rw (ne_eqb _ _ empty) in
      both (alike 8 b at 0 0 0) (slot_ok b at)
      (λ t.
      T_of (ok_part b at
      ∙ ap (λ (p : List ℕ). slot_ok p 0) (is_v 8 (omega arith) (omega arith) b zeros at fits refl x y t)
      ∙ ok_of_bytes none))
      (λ t.
      of_v 8 (omega arith) (omega arith) b zeros at fits refl x y
      (sym (ok_bytes b at fits (true_of (slot_ok b at) t)) ∙ ap slot_bytes none_here))

-- the presence byte is stored, and then the 20 bytes after it
pub put_done : (b : List ℕ) (at : ℕ) (d : List ℕ) → at + slot_length ≤ length b → length d ≡ 20
    → paste (set b at 1) (at + 1) d (length d) ≡ put_slot b at d
unfolding put_slot
put_done b at d h n =
    let e : at + 1 + 20 ≡ at + slot_length = omega arith in
    let l : at < length b = omega arith in
    let l' : at < at + slot_length = omega arith in
    let n' : length d ≤ 20 = omega arith in
    rw (n, e, add-one at, take-suc-set b at 1 l, drop-set-lt (at + slot_length) b at 1 l', take_all 20 d n', append_snoc (take at b) 1 d)
    (append_assoc (take at b) (1 ∷ d) (drop (at + slot_length) b))
