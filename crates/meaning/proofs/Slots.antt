-- What a slot's bytes say, and what a filled slot changes: its own bytes, and nothing else.
use Prim.Native.Nat.{ℕ, suc, ◌+◌, ◌-◌, ◌≤◌, ◌<◌}
use mathlib.Core.Path.{◌≡◌, refl, sym, ap, ◌∙◌}
use mathlib.Core.Logic.{◌⊎◌, inl, inr, ⊎_elim}
use mathlib.Core.Bool.{Bool, true, false, cond, and-eq-true_iff}
use mathlib.Core.List.{List, [], ◌∷◌, ◌++◌}
use mathlib.Core.Option.{Option, none, some}
use native.Mathlib.Nat.{zero-add}
use native.Mathlib.Omega.{arith}
use lib.Dec.{eqb}
use lib.ListN.{length, get_or, take, drop, replicate, length-append, length-drop}
use lib.Seq.{length-take-le, take_all, drop-drop}
use borrow.Author.Tests.{eqb-true}
use Rattle.words.specs.Words.{Bytes}
use Rattle.words.proofs.Bytes.{bytes_append, bytes_cons, bytes_drop, bytes_take, bytes_zeros}
use Rattle.entry.specs.Entry.{Decl, same}
use Rattle.entry.proofs.Basics.{T_of, same_eq}
use Rattle.meaning.specs.Slot.{slot_bytes, part, slot_at, slot_ok, put_slot}
use Rattle.meaning.specs.Legal.{IsSlot}
use Rattle.meaning.proofs.Parts.{part_length, get_d_first, part_part, part_all, part_before, part_after, bytes_part}
use Rattle.meaning.specs.Layout.{slot_length}

-- ---- a slot is what its bytes say

module _ (b : List ℕ) (at : ℕ) where
  first_part : get_or b at 0 ≡ get_or (part b at slot_length) 0 0
  first_part = get_d_first b at slot_length (omega arith)

  rest_part : part b (at + 1) 20 ≡ part (part b at slot_length) 1 20
  rest_part = sym (part_part b at slot_length 1 20 (omega arith))

  pub slot_part : slot_at b at ≡ slot_at (part b at slot_length) 0
  unfolding slot_at
  slot_part = rw (first_part, rest_part)

  pub ok_part : slot_ok b at ≡ slot_ok (part b at slot_length) 0
  unfolding slot_ok
  ok_part = rw (first_part, rest_part)

-- the bytes of a slot mean it, and are its one form
pub slot_of_bytes : (o : Option Decl) → IsSlot o → slot_at (slot_bytes o) 0 ≡ o
unfolding slot_at slot_bytes
slot_of_bytes none h = refl
slot_of_bytes (some v) h = ap some (take_all 20 v (omega (arith, h.long)))

pub ok_of_bytes : (o : Option Decl) → slot_ok (slot_bytes o) 0 ≡ true
unfolding slot_ok slot_bytes same
ok_of_bytes none = refl
ok_of_bytes (some v) = refl

pub slot_bytes_length : (o : Option Decl) → IsSlot o → length (slot_bytes o) ≡ slot_length
unfolding slot_bytes
slot_bytes_length none h = refl
slot_bytes_length (some v) h = ap suc h.long

pub slot_bytes_bytes : (o : Option Decl) → IsSlot o → Bytes (slot_bytes o)
unfolding slot_bytes
slot_bytes_bytes none h = bytes_zeros slot_length
slot_bytes_bytes (some v) h = bytes_cons 1 v (omega arith) h.bytes

one_form : (p : List ℕ) → length p ≡ slot_length → slot_ok p 0 ≡ true → slot_bytes (slot_at p 0) ≡ p
unfolding slot_ok slot_at slot_bytes
one_form [] e h = absurd (omega arith)
one_form (x ∷ p) e h = go (eqb x 1) refl
  where
    l : length p ≤ 20
    l = omega arith

    all : take 20 p ≡ p
    all = take_all 20 p l

    go : (t : Bool) → eqb x 1 ≡ t → slot_bytes (cond t (some (take 20 p)) none) ≡ x ∷ p
    go true q = rw (all, eqb-true x 1 q)
    go false q =
        let z = (and-eq-true_iff (eqb x 0) (same (take 20 p) (replicate 20 0))).0 (rw q at h) in
        rw (eqb-true x 0 z.0, sym all ∙ same_eq (take 20 p) (replicate 20 0) (T_of z.1))

module _ (b : List ℕ) (at : ℕ) (fits : at + slot_length ≤ length b) where
  pub ok_bytes : slot_ok b at ≡ true → slot_bytes (slot_at b at) ≡ part b at slot_length
  ok_bytes h = rw (slot_part b at) (one_form (part b at slot_length) (part_length b at slot_length fits) (sym (ok_part b at) ∙ h))

  pub slot_is_slot : Bytes b → IsSlot (slot_at b at)
  unfolding slot_at
  slot_is_slot bytes = go (eqb (get_or b at 0) 1)
    where
      go : (t : Bool) → IsSlot (cond t (some (part b (at + 1) 20)) none)
      go true = record { long = part_length b (at + 1) 20 (omega arith); bytes = bytes_part b (at + 1) 20 bytes }
      go false = tt

-- ---- a slot filled

module _ (b : List ℕ) (at : ℕ) (v : Decl) (fits : at + slot_length ≤ length b) (long : length v ≡ 20) where
  taken : length (take at b) ≡ at
  taken = length-take-le at b (omega arith)

  pub put_length : length (put_slot b at v) ≡ length b
  unfolding put_slot
  put_length = simp (length-append, length-drop) (omega (arith, taken))

  put_here : part (put_slot b at v) at slot_length ≡ 1 ∷ v
  unfolding put_slot
  put_here =
      part_after (take at b) ((1 ∷ v) ++ drop (at + slot_length) b) at 0 slot_length (omega (arith, taken))
      ∙ part_before (1 ∷ v) (drop (at + slot_length) b) 0 slot_length (omega arith)
      ∙ part_all (1 ∷ v) slot_length (omega arith)

  pub slot_put : slot_at (put_slot b at v) at ≡ some v
  unfolding slot_at
  slot_put = slot_part (put_slot b at v) at ∙ ap (λ (p : List ℕ). slot_at p 0) put_here ∙ ap some (take_all 20 v (omega arith))

  pub ok_put : slot_ok (put_slot b at v) at ≡ true
  unfolding slot_ok
  ok_put = ok_part (put_slot b at v) at ∙ ap (λ (p : List ℕ). slot_ok p 0) put_here

  pub put_bytes : Bytes b → Bytes v → Bytes (put_slot b at v)
  unfolding put_slot
  put_bytes p q =
      bytes_append (take at b) ((1 ∷ v) ++ drop (at + slot_length) b) (bytes_take at b p)
      (bytes_append (1 ∷ v) (drop (at + slot_length) b) (bytes_cons 1 v (omega arith) q) (bytes_drop (at + slot_length) b p))

  pub part_elsewhere : (k m : ℕ) → (k + m ≤ at) ⊎ (at + slot_length ≤ k) → part (put_slot b at v) k m ≡ part b k m
  unfolding put_slot
  part_elsewhere k m (inl l) =
      part_before (take at b) ((1 ∷ v) ++ drop (at + slot_length) b) k m (omega (arith, taken))
      ∙ part_part b 0 at k m l
      ∙ rw zero-add
  part_elsewhere k m (inr l) =
      let r : ℕ = k - (at + slot_length) in
      let e : at + slot_length + r ≡ k = omega arith in
      part_after (take at b) ((1 ∷ v) ++ drop (at + slot_length) b) k (slot_length + r) m (omega (arith, taken))
      ∙ part_after (1 ∷ v) (drop (at + slot_length) b) (slot_length + r) r m (omega arith)
      ∙ rw (drop-drop r (at + slot_length) b, e)

  module _ (k : ℕ) where
    pub get_d_elsewhere : (k < at) ⊎ (at + slot_length ≤ k) → get_or (put_slot b at v) k 0 ≡ get_or b k 0
    get_d_elsewhere w =
        let u : (k + 1 ≤ at) ⊎ (at + slot_length ≤ k) = ⊎_elim (λ (l : k < at). inl (omega arith)) (λ l. inr l) w in
        get_d_first (put_slot b at v) k 1 (omega arith)
        ∙ ap (λ (p : List ℕ). get_or p 0 0) (part_elsewhere k 1 u)
        ∙ sym (get_d_first b k 1 (omega arith))

    module _ (w : (k + slot_length ≤ at) ⊎ (at + slot_length ≤ k)) where
      pub slot_elsewhere : slot_at (put_slot b at v) k ≡ slot_at b k
      slot_elsewhere = slot_part (put_slot b at v) k ∙ ap (λ (p : List ℕ). slot_at p 0) (part_elsewhere k slot_length w)
          ∙ sym (slot_part b k)

      pub ok_elsewhere : slot_ok (put_slot b at v) k ≡ slot_ok b k
      ok_elsewhere = ok_part (put_slot b at v) k ∙ ap (λ (p : List ℕ). slot_ok p 0) (part_elsewhere k slot_length w) ∙ sym (ok_part b k)
