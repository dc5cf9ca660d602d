-- Lists of bytes, put together and taken apart; a number below 2^32 is written in bytes.
use Prim.Native.Nat.{ℕ, zero, suc, ◌+◌, ◌^◌, ◌<◌}
use mathlib.Core.List.{List, [], ◌∷◌, ◌++◌}
use native.Mathlib.Omega.{arith}
use lib.ListN.{take, drop, replicate}
use lib.Seq.{get_or-drop}
use Rattle.words.specs.Words.{Bytes, be32}

pub bytes_append : (xs ys : List ℕ) → Bytes xs → Bytes ys → Bytes (xs ++ ys)
bytes_append [] ys p q i = q i
bytes_append (x ∷ xs) ys p q zero = p 0
bytes_append (x ∷ xs) ys p q (suc i) = bytes_append xs ys (λ k. p (suc k)) q i

pub bytes_cons : (x : ℕ) (xs : List ℕ) → x < 256 → Bytes xs → Bytes (x ∷ xs)
bytes_cons x xs l p zero = l
bytes_cons x xs l p (suc i) = p i

pub bytes_drop : (at : ℕ) (b : List ℕ) → Bytes b → Bytes (drop at b)
bytes_drop at b p i = rw get_or-drop (p (at + i))

pub bytes_take : (m : ℕ) (b : List ℕ) → Bytes b → Bytes (take m b)
bytes_take zero b p i = omega arith
bytes_take (suc m) [] p i = omega arith
bytes_take (suc m) (x ∷ b) p zero = p 0
bytes_take (suc m) (x ∷ b) p (suc i) = bytes_take m b (λ k. p (suc k)) i

pub bytes_zeros : (m : ℕ) → Bytes (replicate m 0)
bytes_zeros zero i = omega arith
bytes_zeros (suc m) zero = omega arith
bytes_zeros (suc m) (suc i) = bytes_zeros m i

pub be_bytes : (n : ℕ) → n < 2 ^ 32 → Bytes (be32 n)
be_bytes n l zero = omega arith
be_bytes n l (suc zero) = omega arith
be_bytes n l (suc (suc zero)) = omega arith
be_bytes n l (suc (suc (suc zero))) = omega arith
be_bytes n l (suc (suc (suc (suc i)))) = omega arith
