-- How long a book is at most, and for which n and S the public answer gives a length.
use Prim.Native.Nat.{ℕ, ◌*◌, ◌≤◌}
use mathlib.Core.Path.{◌≡◌, refl}
use mathlib.Core.Bool.{Bool, true, false, cond, ◌&&◌, and-eq-true_iff}
use mathlib.Core.Logic.{◌↔◌}
use native.Mathlib.Nat.{mul-le-mul}
use native.Mathlib.Omega.{arith}
use borrow.Author.Tests.{le-leb}
use Rattle.card.specs.Card.{largest, houses_ok}
use Rattle.card.proofs.Wall.{houses_between}
use Rattle.meaning.specs.Layout.{most_numbers, numbers_ok, head_length, per_entry, slot_count, length_of}
use Rattle.meaning.specs.Opening.{Length, length_answer}
use Rattle.meaning.proofs.Places.{numbers_between}

-- at the largest n and S
pub length_largest : length_of largest most_numbers ≡ 169406
unfolding length_of head_length slot_count per_entry largest most_numbers
length_largest = refl

-- no book is longer
pub longest : (n s : ℕ) → houses_ok n ≡ true → numbers_ok s ≡ true → length_of n s ≤ length_of largest most_numbers
unfolding length_of head_length slot_count per_entry
longest n s hn hs =
    let a = (houses_between n hn).1 in
    let b = (numbers_between s hs).1 in
    let c : per_entry n ≤ per_entry largest = omega arith in
    let d : s * n * per_entry n ≤ most_numbers * largest * per_entry largest = mul-le-mul (mul-le-mul b a) c in
    omega arith

-- a length is given exactly where n and S are from 1 to the largest
pub length_answered : (n s : ℕ) → ((length_answer n s).answer ≡ 0) ↔ ((1 ≤ n) × (n ≤ largest) × (1 ≤ s) × (s ≤ most_numbers))
unfolding length_answer houses_ok numbers_ok
length_answered n s = (
  λ e. between (allowed (houses_ok n && numbers_ok s) e),
  λ b. rw (le-leb 1 n b.0, le-leb n largest b.1, le-leb 1 s b.2, le-leb s most_numbers b.3),
)
  where
    given : Length
    given = record { answer = 0; length = length_of n s }

    refused : Length
    refused = record { answer = 9; length = 0 }

    allowed : (x : Bool) → (cond x given refused).answer ≡ 0 → x ≡ true
    allowed true e = refl
    allowed false e = absurd (omega (arith, e))

    between : (houses_ok n && numbers_ok s) ≡ true → (1 ≤ n) × (n ≤ largest) × (1 ≤ s) × (s ≤ most_numbers)
    between h =
        let both = (and-eq-true_iff (houses_ok n) (numbers_ok s)).0 h in
        let a = houses_between n both.0 in
        let b = numbers_between s both.1 in
        (a.0, a.1, b.0, b.1)
