-- The rank of a finite reading's bits: float comparison is comparison of ranks, and both zeros have the same.
use Rattle.std.specs.Prelude.{ℕ, ◌+◌, ◌-◌, ◌%◌, cond, ltb}

unfoldable pub rank : ℕ → ℕ
rank b = cond (ltb b 0x8000_0000) (0x8000_0000 + b) (0x8000_0000 - b % 0x8000_0000)
