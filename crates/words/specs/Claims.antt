-- What this crate promises: a number and its four bytes settle each other.
use Rattle.std.specs.Prelude.{ℕ, ◌+◌, ◌^◌, ◌<◌, ◌≡◌, List, [], ◌∷◌, get_or}
use Rattle.words.specs.Words.{Bytes, be32, word_at}

pub record Claims : Type 0 where
  -- the number that a number's four bytes stand for
  pub number_of_bytes : (n : ℕ) → word_at (be32 n) 0 ≡ n
  -- the four bytes of the number that four bytes stand for, wherever they stand
  pub bytes_of_number : (bytes : List ℕ) → Bytes bytes → (i : ℕ)
      → get_or bytes i 0 ∷ get_or bytes (i + 1) 0 ∷ get_or bytes (i + 2) 0 ∷ get_or bytes (i + 3) 0 ∷ [] ≡ be32 (word_at bytes i)
  -- numbers of 32 bits, and bytes
  pub number_small : (bytes : List ℕ) → Bytes bytes → (i : ℕ) → word_at bytes i < 2 ^ 32
  pub bytes_are_bytes : (n : ℕ) → n < 2 ^ 32 → Bytes (be32 n)
