-- A declaration's 20 bytes and its five numbers settle each other: two declarations are the same exactly when all 20 bytes are.
use Prim.Native.Nat.{ℕ, ◌+◌}
use mathlib.Core.Path.{◌≡◌, sym, ap, ◌∙◌}
use mathlib.Core.Logic.{◌↔◌}
use mathlib.Core.List.{List, ◌++◌}
use lib.ListN.{length}
use Rattle.words.specs.Words.{Bytes, be32, word_at}
use Rattle.words.proofs.Bytes.{bytes_append, be_bytes}
use Rattle.words.proofs.Laws.{word_be, be_word_at, word_at_small}
use Rattle.words.proofs.Listed.{listed_is}
use Rattle.lot.specs.declared.Declaration.{Declaration}
use Rattle.lot.specs.Declaration.{declaration_at, bytes_of}

pub numbers_of_bytes : (d : Declaration) → declaration_at (bytes_of d) 0 ≡ d
unfolding declaration_at bytes_of
numbers_of_bytes d = λ i.
    record {
      lot = word_be d.lot i;
      colonies = word_be d.colonies i;
      kilograms = word_be d.kilograms i;
      moisture = word_be d.moisture i;
      conductivity = word_be d.conductivity i;
    }

pub bytes_of_numbers : (s : List ℕ) → length s ≡ 20 → Bytes s → bytes_of (declaration_at s 0) ≡ s
unfolding declaration_at bytes_of
bytes_of_numbers s l b =
    let w = be_word_at s b in
    sym (listed_is s 20 l ∙ (λ i. w 0 i ++ (w 4 i ++ (w 8 i ++ (w 12 i ++ w 16 i)))))

pub same_numbers : (d e : Declaration) → (bytes_of d ≡ bytes_of e) ↔ (d ≡ e)
same_numbers d e =
    (λ h. sym (numbers_of_bytes d) ∙ ap (λ (s : List ℕ). declaration_at s 0) h ∙ numbers_of_bytes e, λ h. ap bytes_of h)

pub same_bytes : (s r : List ℕ) → length s ≡ 20 → length r ≡ 20 → Bytes s → Bytes r
    → (declaration_at s 0 ≡ declaration_at r 0) ↔ (s ≡ r)
same_bytes s r l m b c =
    (λ h. sym (bytes_of_numbers s l b) ∙ ap bytes_of h ∙ bytes_of_numbers r m c, λ h. ap (λ (x : List ℕ). declaration_at x 0) h)

-- what is read from bytes is bytes
pub bytes_are_bytes : (s : List ℕ) (i : ℕ) → Bytes s → Bytes (bytes_of (declaration_at s i))
unfolding bytes_of declaration_at
bytes_are_bytes s i b =
    let w : (k : ℕ) → Bytes (be32 (word_at s k)) = λ k. be_bytes (word_at s k) (word_at_small s b k) in
    let four = be32 (word_at s (i + 12)) ++ be32 (word_at s (i + 16)) in
    let three = be32 (word_at s (i + 8)) ++ four in
    let two = be32 (word_at s (i + 4)) ++ three in
    bytes_append (be32 (word_at s i)) two (w i)
    (bytes_append (be32 (word_at s (i + 4))) three (w (i + 4))
    (bytes_append (be32 (word_at s (i + 8))) four (w (i + 8))
    (bytes_append (be32 (word_at s (i + 12))) (be32 (word_at s (i + 16))) (w (i + 12)) (w (i + 16)))))
