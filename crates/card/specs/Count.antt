-- How many houses pass a test.
use Rattle.std.specs.Prelude.{ℕ, zero, suc, ◌+◌, Bool, true, false}

-- a test as a number
abbrev pub bit : Bool → ℕ
bit true = 1
bit false = 0

-- how many of the houses 0 to n - 1 pass the test
abbrev pub count : (ℕ → Bool) → ℕ → ℕ
count P zero = 0
count P (suc n) = bit (P n) + count P n
