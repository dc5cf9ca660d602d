-- Opening a book, and the answer that gives its length.
use Rattle.std.specs.Prelude.{ℕ, Bool, cond, ◌&&◌, List, eqb, leb, ltb, length}
use Rattle.card.specs.Card.{houses_ok, down_ok}
use Rattle.sheet.specs.declared.Sheet.{Sheet}
use Rattle.sheet.specs.Kept.{is_sheet, sheet_at}
use Rattle.entry.specs.Entry.{fresh}
use Rattle.meaning.specs.Layout.{numbers_ok, most_limit, length_of}
use Rattle.meaning.specs.Book.{Header, Help, Meaning, write}

-- the header that opening writes
abbrev pub headed : (n numbers own f season : ℕ) → Sheet → Header
headed n numbers own f season sheet = record { n = n; numbers = numbers; own = own; season = season; sheet = sheet; down = f }

-- nobody helped yet
abbrev pub fresh_help : (d : ℕ) → Help
fresh_help d = record { limit = d; helped = λ p. 0 }

-- nothing heard, sent, delivered or published
abbrev pub fresh_book : Header → (d : ℕ) → Meaning
fresh_book h d = record { header = h; help = fresh_help d; entries = λ j c. fresh }

-- an answer, and the bytes of the lent buffer afterwards
pub record Opened : Type 0 where
  pub answer : ℕ
  pub book : List ℕ

-- 9: n, S, own number, f or d not allowed
unfoldable pub allowed : (n numbers own f d : ℕ) → Bool
allowed n numbers own f d = houses_ok n && (numbers_ok numbers && (ltb own n && (down_ok n f && leb d most_limit)))

-- Opening: 9, 10, 11; else it writes the whole buffer.
unfoldable pub opened : List ℕ → (n numbers own f d season : ℕ) → List ℕ → Opened
unfolding allowed
opened b n numbers own f d season sheet =
    cond (allowed n numbers own f d)
    (cond (is_sheet sheet)
    (cond (eqb (length b) (length_of n numbers))
    (record { answer = 0; book = write (fresh_book (headed n numbers own f season (sheet_at sheet 0)) d) })
    (record { answer = 11; book = b }))
    (record { answer = 10; book = b }))
    (record { answer = 9; book = b })

-- A public answer gives that length, or answer 9.
pub record Length : Type 0 where
  pub answer : ℕ
  pub length : ℕ

unfoldable pub length_answer : (n numbers : ℕ) → Length
length_answer n numbers =
    cond (houses_ok n && numbers_ok numbers) (record { answer = 0; length = length_of n numbers }) (record { answer = 9; length = 0 })
