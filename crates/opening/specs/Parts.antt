-- What the leaves of this crate give, where document 01 has no sentence for it.
use Rattle.std.specs.Prelude.{ℕ, ◌-◌, List, ◌∷◌, ◌++◌, replicate}
use Rattle.words.specs.Words.{be32}
use Rattle.meaning.specs.Layout.{helped_place}

-- so many bytes: a header with nobody helped, and zeros
unfoldable pub blank : (size n numbers own f d season : ℕ) → List ℕ → List ℕ
blank size n numbers own f d season sheet = n ∷ numbers ∷ own ∷ be32 season ++ (sheet ++ (f ∷ d ∷ replicate (size - helped_place 0) 0))
