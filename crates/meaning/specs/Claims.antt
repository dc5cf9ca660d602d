-- What this crate promises, in document 01's order.
use Rattle.std.specs.Prelude.{ℕ, ◌^◌, ◌≤◌, ◌<◌, ◌≡◌, true, List, ◌↔◌, length}
use Rattle.card.specs.Card.{largest, houses_ok}
use Rattle.words.specs.Words.{Bytes}
use Rattle.sheet.specs.Kept.{sheet_at}
use Rattle.meaning.specs.Layout.{most_numbers, numbers_ok, length_of}
use Rattle.meaning.specs.Book.{Meaning, n_of, numbers_of, limit_of, helped_of, help_of, more_help, with_help, count_help, meant, write}
use Rattle.meaning.specs.Legal.{legal, Lent, IsBook}
use Rattle.meaning.specs.Opening.{headed, fresh_book, opened, length_answer}

-- a legal book that means B
pub record Means (b : List ℕ) (B : Meaning) : Type 0 where
  pub lent : Lent b
  pub means : meant b ≡ B

pub record Claims : Type 0 where
  -- A legal book is the bytes of what a book may mean, and nothing more is asked.
  pub legal_exactly : (b : List ℕ) → Bytes b → (legal b ≡ true) ↔ ((B : Meaning) × IsBook B × (b ≡ write B))
  -- One byte form per meaning: what is written means what was written, and two legal books that mean the same are the same bytes;
  pub written : (B : Meaning) → IsBook B → Means (write B) B
  pub same_bytes : (b c : List ℕ) → Lent b → Lent c → meant b ≡ meant c → b ≡ c
  -- a length that depends on n and S only, at most 180,224 bytes at 31 and 4, the largest.
  pub long : (b : List ℕ) → legal b ≡ true → length b ≡ length_of (n_of b) (numbers_of b)
  pub length_most : length_of largest most_numbers ≤ 180224
  pub longest : (n numbers : ℕ) → houses_ok n ≡ true → numbers_ok numbers ≡ true → length_of n numbers ≤ length_of largest most_numbers
  -- A public answer gives that length, or answer 9: it gives one exactly where n and S are from 1 to the largest.
  pub length_answered : (n numbers : ℕ)
      → ((length_answer n numbers).answer ≡ 0) ↔ ((1 ≤ n) × (n ≤ largest) × (1 ≤ numbers) × (numbers ≤ most_numbers))
  -- Opening writes the whole buffer: nothing heard, sent, delivered or published, nobody helped.
  pub opened_fresh : (b : List ℕ) (n numbers own f d season : ℕ) (sheet : List ℕ) → season < 2 ^ 32 → Bytes sheet
      → (opened b n numbers own f d season sheet).answer ≡ 0
      → Means (opened b n numbers own f d season sheet).book (fresh_book (headed n numbers own f season (sheet_at sheet 0)) d)
  -- Every refusal of it leaves the lent buffer byte for byte.
  pub opened_refused : (b : List ℕ) (n numbers own f d season : ℕ) (sheet : List ℕ)
      → ((opened b n numbers own f d season sheet).answer ≡ 0 → ⊥) → (opened b n numbers own f d season sheet).book ≡ b
  -- One more help counted for a house that was helped less than d times: that count and nothing else changes.
  pub helped : (b : List ℕ) → Lent b → (p : ℕ) → p < n_of b → helped_of b p < limit_of b
      → Means (count_help b p) (with_help (meant b) (more_help (help_of b) p))
