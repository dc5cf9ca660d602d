-- What every call keeps of a legal book.
use Rattle.std.specs.Prelude.{ℕ, ◌≤◌, ◌≡◌, true, List}
use Rattle.words.specs.Words.{Bytes}
use Rattle.entry.specs.Entry.{Filled}
use Rattle.meaning.specs.Book.{limit_of, helped_of, header_of, look}
use Rattle.meaning.specs.Legal.{legal}

-- bytes a after bytes b
pub record Keeps (b a : List ℕ) : Type 0 where
  pub legal : legal a ≡ true
  pub bytes : Bytes a
  -- n, S, own number, season, sheet and f
  pub header : header_of a ≡ header_of b
  pub limit : limit_of a ≡ limit_of b
  -- help is only ever counted
  pub helped : (p : ℕ) → helped_of b p ≤ helped_of a p
  -- what stands in a slot stays
  pub fills : (j c : ℕ) → Filled (look b j c) (look a j c)
