-- A slot: a presence byte, 0 or 1, and 20 declaration bytes, which are zero where the slot is empty.
use Rattle.std.specs.Prelude.{ℕ, ◌+◌, Bool, true, cond, ◌&&◌, List, ◌∷◌, ◌++◌, eqb, get_or, take, drop, replicate}
use Rattle.std.proofs.Math.Option.{Option, none, some}
use Rattle.entry.specs.Entry.{Decl, same}
use Rattle.meaning.specs.Layout.{slot_length}

-- the bytes of a slot: none, or a declaration's 20 bytes
unfoldable pub slot_bytes : Option Decl → List ℕ
slot_bytes none = replicate slot_length 0
slot_bytes (some v) = 1 ∷ v

-- so many bytes of b from `at` on
abbrev pub part : List ℕ → ℕ → ℕ → List ℕ
part b at size = take size (drop at b)

-- what the slot at `at` holds
unfoldable pub slot_at : List ℕ → ℕ → Option Decl
slot_at b at = cond (eqb (get_or b at 0) 1) (some (part b (at + 1) 20)) none

-- the slot at `at` has the one byte form of its meaning
unfoldable pub slot_ok : List ℕ → ℕ → Bool
unfolding same
slot_ok b at = cond (eqb (get_or b at 0) 1) true (eqb (get_or b at 0) 0 && same (part b (at + 1) 20) (replicate 20 0))

-- the bytes with v in the slot at `at`
unfoldable pub put_slot : List ℕ → ℕ → Decl → List ℕ
put_slot b at v = take at b ++ ((1 ∷ v) ++ drop (at + slot_length) b)
