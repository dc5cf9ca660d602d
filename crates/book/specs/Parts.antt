-- What the leaves of this crate give, where document 01 has no sentence for it.
use Rattle.std.specs.Prelude.{ℕ, Bool, ◌&&◌, List, eqb, length}
use Rattle.meaning.specs.Layout.{length_of}
use Rattle.meaning.specs.Book.{n_of, numbers_of, own_of, down_of, limit_of}
use Rattle.meaning.specs.Opening.{allowed}

-- n, S, own number, f and d are allowed, and there are as many bytes as n and S ask
unfoldable pub sized : List ℕ → Bool
sized b =
    allowed (n_of b) (numbers_of b) (own_of b) (down_of b) (limit_of b) && eqb (length b) (length_of (n_of b) (numbers_of b))
