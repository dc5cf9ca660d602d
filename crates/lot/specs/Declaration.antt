-- A declaration: its 20 bytes and its five numbers.
use Rattle.std.specs.Prelude.{ℕ, ◌+◌, List, ◌++◌}
use Rattle.words.specs.Words.{be32, word_at}
use Rattle.lot.specs.declared.Declaration.{Declaration}

-- the declaration whose 20 bytes, big-endian, stand at i: lot, colonies, kilograms, moisture's bits, conductivity's bits
unfoldable pub declaration_at : List ℕ → ℕ → Declaration
declaration_at bytes i =
    record {
      lot = word_at bytes i;
      colonies = word_at bytes (i + 4);
      kilograms = word_at bytes (i + 8);
      moisture = word_at bytes (i + 12);
      conductivity = word_at bytes (i + 16);
    }

-- a declaration is 20 bytes: its five numbers, one after the other
unfoldable pub bytes_of : Declaration → List ℕ
bytes_of d = be32 d.lot ++ (be32 d.colonies ++ (be32 d.kilograms ++ (be32 d.moisture ++ be32 d.conductivity)))
