-- The three numbers by which vouchers are counted are those of the slot that holds d exactly when the slot holds d.
use Prim.Native.Nat.{ℕ, ◌+◌, ◌≤◌}
use mathlib.Core.Path.{◌≡◌, refl, sym, ap, ◌∙◌}
use mathlib.Core.Bool.{Bool, true, false, cond, ◌&&◌}
use mathlib.Core.List.{List}
use mathlib.Core.Option.{none, some}
use native.Mathlib.Omega.{arith}
use lib.Dec.{eqb}
use lib.ListN.{length, get_or, replicate}
use Rattle.words.specs.Words.{Bytes}
use Rattle.words.proofs.Bytes.{bytes_zeros}
use Rattle.entry.specs.Entry.{same, holds}
use Rattle.entry.proofs.Basics.{both, holds_eq, eq_holds, none_some}
use Rattle.meaning.specs.Layout.{slot_length}
use Rattle.meaning.specs.Slot.{part, slot_at, slot_ok, slot_bytes, put_slot}
use Rattle.meaning.proofs.Parts.{part_all}
use Rattle.meaning.proofs.Slots.{slot_part, ok_bytes, put_length, put_bytes, slot_put, ok_put}
use Rattle.slots.proofs.Eight.{eight}
use Rattle.slots.proofs.Alike.{alike, is_v, of_v}

-- the slot at i has the numbers of the slot that holds d exactly when it holds d
module _ (b d : List ℕ) (i : ℕ) (fits : i + slot_length ≤ length b) (long : length d ≡ 20) (x : Bytes b) (y : Bytes d) where
  abbrev blank : List ℕ
  blank = replicate slot_length 0

  abbrev full : List ℕ
  full = put_slot blank 0 d

  full_length : length full ≡ slot_length
  full_length = put_length blank 0 d (omega arith) long

  full_bytes : Bytes full
  full_bytes = put_bytes blank 0 d (omega arith) long (bytes_zeros slot_length) y

  ok : slot_at b i ≡ some d → slot_ok b i ≡ true
  unfolding slot_at slot_ok
  ok e = go (eqb (get_or b i 0) 1) e
    where
      go : (t : Bool) → cond t (some (part b (i + 1) 20)) none ≡ some d
          → cond t true (eqb (get_or b i 0) 0 && same (part b (i + 1) 20) (replicate 20 0)) ≡ true
      go true q = refl
      go false q = absurd (none_some none d refl q)

  pub alike_holds : alike 5 b i (eight full 0) (eight full 5) (eight full 13) ≡ holds (slot_at b i) d
  alike_holds =
      both (alike 5 b i (eight full 0) (eight full 5) (eight full 13)) (holds (slot_at b i) d)
      (λ t.
      eq_holds (slot_at b i) d
      (slot_part b i
      ∙ ap (λ (s : List ℕ). slot_at s 0) (is_v 5 (omega arith) (omega arith) b full i fits full_length x full_bytes t)
      ∙ slot_put blank 0 d (omega arith) long))
      (λ t.
      let e = holds_eq (slot_at b i) d t in
      of_v 5 (omega arith) (omega arith) b full i fits full_length x full_bytes
      (sym (ok_bytes b i fits (ok e))
      ∙ ap slot_bytes (e ∙ sym (slot_put blank 0 d (omega arith) long))
      ∙ ok_bytes full 0 (omega (arith, full_length)) (ok_put blank 0 d (omega arith) long)
      ∙ part_all full slot_length (omega (arith, full_length))))
