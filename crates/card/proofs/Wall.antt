-- The wall card by its formulas, and what it is to be a number of houses.
use mathlib.Core.Path.{◌≡◌, ◌∙◌, ap}
use mathlib.Core.Bool.{true, and-eq-true_iff}
use mathlib.Core.List.{List, [], ◌∷◌}
use Prim.Native.Nat.{ℕ, zero, suc, ◌+◌, ◌*◌, ◌-◌, ◌<◌, ◌≤◌}
use native.Mathlib.Omega.{arith}
use lib.Dec.{leb, ltb}
use lib.ListN.{get_or}
use borrow.Author.Tests.{leb-true, ltb-true, le-leb}
use Rattle.card.specs.declared.Column.{Column}
use Rattle.card.specs.Card.{largest, most_down, houses_ok, down_ok, tolerated, column_of}

-- how many houses there may be, as numbers
pub houses_between : (n : ℕ) → houses_ok n ≡ true → (1 ≤ n) × (n ≤ largest)
unfolding houses_ok
houses_between n h =
    let both = (and-eq-true_iff (leb 1 n) (leb n largest)).0 h in
    (leb-true 1 n both.0, leb-true n largest both.1)

-- the columns of so many numbers of houses, from i + 1 on
abbrev columns : (i so_many : ℕ) → List Column
columns i zero = []
columns i (suc k) = column_of (suc i) ∷ columns (suc i) k

-- The wall card by its formulas. The code's array is compared with it, the whole of it at once; it stands nowhere else.
abbrev pub card : List Column
card = columns 0 largest

column_at : (z : Column) (i m k : ℕ) → k < m → get_or (columns i m) k z ≡ column_of (suc (i + k))
column_at z i zero k l = absurd (omega arith)
column_at z i (suc m) zero l = ap column_of (omega arith)
column_at z i (suc m) (suc k) l = column_at z (suc i) m k (omega arith) ∙ ap column_of (omega arith)

pub card_is : (z : Column) (i : ℕ) → i < largest → get_or card i z ≡ column_of (i + 1)
card_is z i l = column_at z 0 largest i l ∙ ap column_of (omega arith)

-- a number of houses is written in one byte, and so is t
pub houses_byte : (n : ℕ) → houses_ok n ≡ true → n < 256
unfolding largest
houses_byte n h = let b = houses_between n h in omega arith

pub tolerated_byte : (n : ℕ) → houses_ok n ≡ true → tolerated n < 256
unfolding tolerated
tolerated_byte n h = let l = houses_byte n h in omega arith

-- f as numbers, and n - 2f as a number of houses
pub down_between : (n f : ℕ) → down_ok n f ≡ true → (f ≤ most_down) × (2 * f < n)
unfolding down_ok
down_between n f h =
    let both = (and-eq-true_iff (leb f most_down) (ltb (2 * f) n)).0 h in
    (leb-true f most_down both.0, ltb-true (2 * f) n both.1)

pub rest_houses : (n f : ℕ) → houses_ok n ≡ true → down_ok n f ≡ true → houses_ok (n - 2 * f) ≡ true
unfolding houses_ok
rest_houses n f h d =
    let b = houses_between n h in
    let l = (down_between n f d).1 in
    (and-eq-true_iff (leb 1 (n - 2 * f)) (leb (n - 2 * f) largest)).1
    (le-leb 1 (n - 2 * f) (omega arith), le-leb (n - 2 * f) largest (omega arith))
