-- A slot by three of its numbers: they are those of v exactly when its 21 bytes are v.
use Prim.Native.Nat.{ℕ, ◌+◌, ◌-◌, ◌<◌, ◌≤◌}
use mathlib.Core.Path.{◌≡◌, sym, ap, ◌∙◌}
use mathlib.Core.Bool.{Bool, true, ◌&&◌}
use mathlib.Core.List.{List}
use native.Mathlib.Omega.{arith}
use native.Mathlib.Decide.{dec_lt}
use lib.Dec.{T, eqb, eqb→eq}
use lib.ListN.{length, get_or}
use lib.Seq.{ext_get_or}
use borrow.Author.Tests.{eq-eqb}
use Rattle.words.specs.Words.{Bytes}
use Rattle.entry.proofs.Basics.{T_of, and_l, and_r}
use Rattle.meaning.specs.Layout.{slot_length}
use Rattle.meaning.specs.Slot.{part}
use Rattle.meaning.proofs.Parts.{part_length, get_d_part}
use Rattle.slots.proofs.Eight.{eight, eight_of, of_eight}

-- the numbers of the slot at i, of its first eight bytes, of eight from byte `mid` on and of its last eight, are these
abbrev pub alike : (mid : ℕ) → List ℕ → ℕ → (first second third : ℕ) → Bool
alike mid b i first second third = eqb (eight b i) first && (eqb (eight b (i + mid)) second && eqb (eight b (i + 13)) third)

pub are_alike : (mid : ℕ) (b : List ℕ) (i x y z : ℕ) → eight b i ≡ x → eight b (i + mid) ≡ y → eight b (i + 13) ≡ z
    → alike mid b i x y z ≡ true
are_alike mid b i x y z e f g = rw (eq-eqb _ _ e, eq-eqb _ _ f, eq-eqb _ _ g)

-- where the second number leaves no byte between the first and the third, the slot at i has the numbers of v exactly when it is v
module _ (mid : ℕ) (from_5 : 5 ≤ mid) (to_8 : mid ≤ 8) (b v : List ℕ) (i : ℕ) (fits : i + slot_length ≤ length b)
    (l : length v ≡ slot_length) (x : Bytes b) (y : Bytes v) where
  abbrev alike_v : Bool
  alike_v = alike mid b i (eight v 0) (eight v mid) (eight v 13)

  -- a byte within a number that is the same
  byte : (from m : ℕ) → from ≤ m → m < from + 8 → eight b (i + from) ≡ eight v from → get_or b (i + m) 0 ≡ get_or v m 0
  byte from m h k e =
      let q : i + m ≡ i + from + (m - from) = omega arith in
      let r : from + (m - from) ≡ m = omega arith in
      ap (λ (j : ℕ). get_or b j 0) q ∙ of_eight b v (i + from) from x y e (m - from) (omega arith) ∙ ap (λ (j : ℕ). get_or v j 0) r

  bytes_alike : T alike_v → (m : ℕ) → m < slot_length → get_or b (i + m) 0 ≡ get_or v m 0
  bytes_alike t m h =
      let t' = and_r (eqb (eight b i) (eight v 0)) _ t in
      let z : i + 0 ≡ i = omega arith in
      let e = ap (eight b) z ∙ eqb→eq (eight b i) (eight v 0) (and_l (eqb (eight b i) (eight v 0)) _ t) in
      let f = eqb→eq (eight b (i + mid)) (eight v mid) (and_l (eqb (eight b (i + mid)) (eight v mid)) _ t') in
      let g = eqb→eq (eight b (i + 13)) (eight v 13) (and_r (eqb (eight b (i + mid)) (eight v mid)) _ t') in
      elim (dec_lt m 8) [
        | yes k ↦ byte 0 m (omega arith) (omega arith) e
        | no k ↦
            elim (dec_lt m 13) [
              | yes j ↦ byte mid m (omega arith) (omega arith) f
              | no j ↦ byte 13 m (omega arith) (omega arith) g
            ]
      ]

  pub is_v : T alike_v → part b i slot_length ≡ v
  is_v t =
      let n = part_length b i slot_length fits in
      ext_get_or 0 (part b i slot_length) v (n ∙ sym l)
      (λ m h. get_d_part b i slot_length m (omega arith) ∙ bytes_alike t m (omega arith))

  pub of_v : part b i slot_length ≡ v → T alike_v
  of_v e =
      let here : (m : ℕ) → m < slot_length → get_or b (i + m) 0 ≡ get_or v m 0 = λ m h.
      sym (get_d_part b i slot_length m h) ∙ ap (λ (s : List ℕ). get_or s m 0) e in
      let again : (from : ℕ) → from + 8 ≤ slot_length → eight b (i + from) ≡ eight v from = λ from h.
      eight_of b v (i + from) from
      (λ m k. let q : i + from + m ≡ i + (from + m) = omega arith in ap (λ (j : ℕ). get_or b j 0) q ∙ here (from + m) (omega arith)) in
      let z : i ≡ i + 0 = omega arith in
      T_of (are_alike mid b i (eight v 0) (eight v mid) (eight v 13) (ap (eight b) z ∙ again 0 (omega arith)) (again mid (omega arith))
      (again 13 (omega arith)))
