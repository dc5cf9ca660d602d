-- A number and its four bytes settle each other.
use Prim.Native.Nat.{ℕ, ◌+◌, ◌/◌, ◌%◌, ◌^◌, ◌<◌}
use mathlib.Core.Path.{◌≡◌}
use mathlib.Core.List.{List, [], ◌∷◌}
use native.Mathlib.Omega.{arith}
use lib.ListN.{get_or}
use Rattle.std.specs.Int.{w32, to_be_bytes}
use Rattle.words.specs.Words.{Bytes, be32, word, word_at}

-- the number that a number's bytes stand for
pub word_be : (n : ℕ) → word (n / 16777216) (n / 65536 % 256) (n / 256 % 256) (n % 256) ≡ n
word_be n = omega arith

-- the four bytes that `to_be_bytes` of std gives
pub be32_to_be_bytes : (n : ℕ) → n < 2 ^ 32 → to_be_bytes w32 n ≡ be32 n
be32_to_be_bytes n l = let e : n / 16777216 % 256 ≡ n / 16777216 = omega arith in λ i. e i ∷ n / 65536 % 256 ∷ n / 256 % 256 ∷ n % 256 ∷ []

-- the bytes of the number that four bytes stand for
be_word : (a b c d : ℕ) → b < 256 → c < 256 → d < 256 → a ∷ b ∷ c ∷ d ∷ [] ≡ be32 (word a b c d)
be_word a b c d hb hc hd =
    let n = word a b c d in
    let p : a ≡ n / 16777216 = omega arith in
    let q : b ≡ n / 65536 % 256 = omega arith in
    let r : c ≡ n / 256 % 256 = omega arith in
    let t : d ≡ n % 256 = omega arith in
    λ i. p i ∷ q i ∷ r i ∷ t i ∷ []

module _ (s : List ℕ) (bytes : Bytes s) (i : ℕ) where
  -- the same, of four bytes where they stand
  pub be_word_at : get_or s i 0 ∷ get_or s (i + 1) 0 ∷ get_or s (i + 2) 0 ∷ get_or s (i + 3) 0 ∷ [] ≡ be32 (word_at s i)
  be_word_at = be_word _ _ _ _ (bytes (i + 1)) (bytes (i + 2)) (bytes (i + 3))

  pub word_at_small : word_at s i < 2 ^ 32
  word_at_small = omega (arith, bytes i, bytes (i + 1), bytes (i + 2), bytes (i + 3))
