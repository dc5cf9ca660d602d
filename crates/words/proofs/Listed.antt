-- A list is its elements, one after the other.
use Prim.Native.Nat.{ℕ, zero, suc}
use mathlib.Core.Path.{◌≡◌, refl, ap, ◌∙◌}
use mathlib.Core.List.{List, [], ◌∷◌}
use lib.ListN.{length, get_or}

abbrev pub listed : ℕ → (ℕ → ℕ) → List ℕ
listed zero f = []
listed (suc n) f = f zero ∷ listed n (λ i. f (suc i))

all : (s : List ℕ) → s ≡ listed (length s) (λ i. get_or s i 0)
all [] = refl
all (x ∷ s) = ap (λ (t : List ℕ). x ∷ t) (all s)

-- a list of n elements
pub listed_is : (s : List ℕ) (n : ℕ) → length s ≡ n → s ≡ listed n (λ i. get_or s i 0)
listed_is s n e = all s ∙ ap (λ (m : ℕ). listed m (λ i. get_or s i 0)) e
