-- Where the slots lie: each within the book, and no two on the same bytes.
use Prim.Native.Nat.{ℕ, suc, ◌+◌, ◌*◌, ◌≤◌, ◌<◌}
use mathlib.Core.Path.{◌≡◌, sym}
use mathlib.Core.Logic.{◌⊎◌, inl, inr}
use mathlib.Core.Bool.{true, and-eq-true_iff}
use native.Mathlib.Decide.{dec_lt}
use native.Mathlib.Nat.{mul-le-mul, mul-le-mul_left, mul-le-mul_right}
use native.Mathlib.Omega.{arith}
use lib.Dec.{leb}
use borrow.Author.Tests.{leb-true}
use Rattle.meaning.specs.Layout.{most_numbers, numbers_ok, helped_place, head_length, slot_length, per_entry, slot_count, length_of}
use Rattle.meaning.specs.Layout.{slot_place, entry_slot, send_slot, echo_slot, ready_slot, ready_sent_slot, delivered_slot}

-- ---- S, and the length

pub numbers_between : (s : ℕ) → numbers_ok s ≡ true → (1 ≤ s) × (s ≤ most_numbers)
unfolding numbers_ok
numbers_between s h =
    let both = (and-eq-true_iff (leb 1 s) (leb s most_numbers)).0 h in
    (leb-true 1 s both.0, leb-true s most_numbers both.1)

-- S is written in one byte
pub numbers_byte : (s : ℕ) → numbers_ok s ≡ true → s < 256
unfolding most_numbers
numbers_byte s h = let b = numbers_between s h in omega arith

count_small : (n s : ℕ) → n < 256 → s < 256 → slot_count n s ≤ 33358080
unfolding slot_count per_entry
count_small n s l k =
    let a : s ≤ 255 = omega arith in
    let b : n ≤ 255 = omega arith in
    let c : per_entry n ≤ 513 = omega arith in
    let d : s * n * per_entry n ≤ 255 * 255 * 513 = mul-le-mul (mul-le-mul a b) c in
    omega arith

-- how often each asker was helped is the last of the header
pub helped_within : (n p : ℕ) → p < n → helped_place p < head_length n
unfolding head_length
helped_within n p l = omega arith

pub length_header : (n s : ℕ) → head_length n ≤ length_of n s
unfolding length_of
length_header n s = omega arith

-- ---- a slot within the book, and two slots

pub slot_within : (n s k : ℕ) → k < slot_count n s → slot_place n k + slot_length ≤ length_of n s
unfolding length_of slot_place head_length
slot_within n s k h = let l = mul-le-mul_left slot_length h in omega arith

pub slot_past_header : (n k : ℕ) → head_length n ≤ slot_place n k
unfolding slot_place
slot_past_header n k = omega arith

pub slots_apart : (n k m : ℕ) → (k ≡ m → ⊥)
    → (slot_place n k + slot_length ≤ slot_place n m) ⊎ (slot_place n m + slot_length ≤ slot_place n k)
unfolding slot_place head_length
slots_apart n k m f =
    elim (dec_lt k m) [
      | yes a ↦ inl (omega arith)
      | no g ↦ elim (dec_lt m k) [ yes a ↦ inr (omega arith) | no h ↦ absurd (f (omega arith)) ]
    ]

-- ---- the slots of entries

-- a row and a place in it, of m each
row_below : (m r i n : ℕ) → r < n → i < m → r * m + i < n * m
row_below m r i n h l = let k : suc r * m ≤ n * m = mul-le-mul_right m h in omega arith

row_le : (m r r₂ i i₂ : ℕ) → i < m → r * m + i ≡ r₂ * m + i₂ → r₂ ≤ r
row_le m r r₂ i i₂ l e =
    elim (dec_lt r r₂) [ yes a ↦ let k : suc r * m ≤ r₂ * m = mul-le-mul_right m a in absurd (omega arith) | no f ↦ omega arith ]

same_row : (m r r₂ i i₂ : ℕ) → i < m → i₂ < m → r * m + i ≡ r₂ * m + i₂ → (r ≡ r₂) × (i ≡ i₂)
same_row m r r₂ i i₂ l l₂ e =
    let a = row_le m r r₂ i i₂ l e in
    let b = row_le m r₂ r i₂ i l₂ (sym e) in
    let q : r ≡ r₂ = omega arith in
    let h : r₂ * m + i ≡ r₂ * m + i₂ = rw q at e in
    (q, omega arith)

-- the slots of an entry that have a name
pub send_below : (n : ℕ) → send_slot < per_entry n
unfolding per_entry
send_below n = omega arith

pub echo_below : (n p : ℕ) → p < n → echo_slot p < per_entry n
unfolding per_entry
echo_below n p l = omega arith

pub ready_below : (n p : ℕ) → p < n → ready_slot n p < per_entry n
unfolding per_entry
ready_below n p l = omega arith

pub ready_sent_below : (n : ℕ) → ready_sent_slot n < per_entry n
unfolding per_entry
ready_sent_below n = omega arith

pub delivered_below : (n : ℕ) → delivered_slot n < per_entry n
unfolding per_entry
delivered_below n = omega arith

pub entry_slot_below : (n s c j i : ℕ) → c < s → j < n → i < per_entry n → entry_slot n s c j i < slot_count n s
unfolding entry_slot slot_count
entry_slot_below n s c j i hc hj hi =
    let a = row_below n c j s hc hj in
    let b = row_below (per_entry n) (c * n + j) i (s * n) a hi in
    omega arith

pub published_slot_below : (n s c : ℕ) → c < s → c < slot_count n s
unfolding slot_count
published_slot_below n s c h = omega arith

-- published slots stand before
pub entry_slot_past : (n s c j i : ℕ) → s ≤ entry_slot n s c j i
unfolding entry_slot
entry_slot_past n s c j i = omega arith

pub same_entry_row : (n s c j i i₂ : ℕ) → entry_slot n s c j i ≡ entry_slot n s c j i₂ → i ≡ i₂
unfolding entry_slot
same_entry_row n s c j i i₂ e = omega arith

pub same_entry_slot : (n s c j i c₂ j₂ i₂ : ℕ) → j < n → j₂ < n → i < per_entry n → i₂ < per_entry n
    → entry_slot n s c j i ≡ entry_slot n s c₂ j₂ i₂ → (c ≡ c₂) × (j ≡ j₂) × (i ≡ i₂)
unfolding entry_slot
same_entry_slot n s c j i c₂ j₂ i₂ hj hj₂ hi hi₂ e =
    let a = same_row (per_entry n) (c * n + j) (c₂ * n + j₂) i i₂ hi hi₂ (omega arith) in
    let b = same_row n c c₂ j j₂ hj hj₂ a.0 in
    (b.0, b.1, a.1)
