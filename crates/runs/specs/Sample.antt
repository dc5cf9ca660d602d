-- What the computed seasons have in common: one number, season 2026, cap 20 and open gates, each house lending zeros to opening; a lot and
-- a lie; and copies consumed in their turn.
use Rattle.std.specs.Prelude.{ℕ, zero, suc, Bool, List, [], ◌∷◌, replicate}
use Rattle.lot.specs.Declaration.{declaration_at}
use Rattle.meaning.specs.Layout.{length_of}
use Rattle.calls.specs.Entered.{wired}
use Rattle.season.specs.Run.{Houses, Step, consume}

unfoldable pub sample : (n f d : ℕ) → (honest : ℕ → Bool) → Houses
unfolding length_of
sample n f d honest =
    record {
      n = n;
      numbers = 1;
      down = f;
      limit = d;
      season = 2026;
      sheet = 0 ∷ 0 ∷ 0 ∷ 20 ∷ replicate 18 0;
      honest = honest;
      lent = λ r. replicate (length_of n 1) 0;
    }

-- lot 77, 40 colonies, so many kilograms, 17.5, 0.5
abbrev of : ℕ → List ℕ
of kilograms =
    0x00 ∷ 0x00 ∷ 0x00 ∷ 0x4D ∷ 0x00 ∷ 0x00 ∷ 0x00 ∷ 0x28 ∷ 0x00 ∷ 0x00 ∷ 0x03 ∷ kilograms
    ∷ 0x41 ∷ 0x8C ∷ 0x00 ∷ 0x00 ∷ 0x3F ∷ 0x00 ∷ 0x00 ∷ 0x00 ∷ []

-- 800 kilograms, and 799
abbrev pub lot : List ℕ
lot = of 0x20

abbrev pub lie : List ℕ
lie = of 0x1F

-- a message of the kind on house 0's entry
abbrev pub says : ℕ → List ℕ → List ℕ
says kind v = wired kind 2026 0 0 (declaration_at v 0)

-- the copies from the first on, each consumed in its turn
unfoldable pub consume_from : (first count : ℕ) → List Step
consume_from i zero = []
consume_from i (suc k) = consume i ∷ consume_from (suc i) k
