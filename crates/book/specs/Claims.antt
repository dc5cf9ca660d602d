-- What this crate promises: each contract settles its outcome. What the answers mean, `meaning` promises.
use Rattle.std.specs.Prelude.{ℕ, ◌≡◌, Bool, List}
use Rattle.words.specs.Settled.{Settled}
use Rattle.meaning.specs.Layout.{per_entry}
use Rattle.meaning.specs.Book.{n_of}
use Rattle.meaning.specs.Legal.{legal, head_legal, row_ok}

-- Two outcomes that meet the contract of `is_legal`, of `is_head_legal` or of `is_entry_ok` are equal.
pub record Claims : Type 0 where
  -- Whether the lent bytes are a legal book.
  pub legal_settled : (b : List ℕ) → Settled (λ (r : Bool). r ≡ legal b)
  -- Whether they have a legal book's head.
  pub head_settled : (b : List ℕ) → Settled (λ (r : Bool). r ≡ head_legal b)
  -- Whether the slots of the entry that begins at `base` have their one form.
  pub entry_settled : (b : List ℕ) (base : ℕ) → Settled (λ (r : Bool). r ≡ row_ok b base (per_entry (n_of b)))
