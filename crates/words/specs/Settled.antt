-- A contract settles a call's outcome: two outcomes that meet it are equal.
use Rattle.std.specs.Prelude.{ℕ, ◌≡◌, List}

-- what is handed back
abbrev pub Settled : {R : Type 0} → (R → Type 0) → Type 0
Settled {R} Meets = (r r' : R) → Meets r → Meets r' → r ≡ r'

-- what is handed back, and each byte of the lent buffer afterwards
abbrev pub SettledWith : {R : Type 0} → (R → List ℕ → Type 0) → Type 0
SettledWith {R} Meets = (r r' : R) (after after' : List ℕ) → Meets r after → Meets r' after' → (r ≡ r') × (after ≡ after')
