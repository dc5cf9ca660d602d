-- Sums over the houses 0 to n - 1.
use mathlib.Core.Path.{◌≡◌, refl}
use mathlib.Core.Bool.{Bool}
use mathlib.Core.Logic.{◌≢◌}
use mathlib.Core.List.{List}
use Prim.Native.Nat.{ℕ, zero, suc, ◌+◌, ◌*◌, ◌≤◌, ◌<◌}
use native.Mathlib.Omega.{arith}
use native.Mathlib.Decide.{ℕ_discrete}
use Rattle.card.specs.Count.{bit, count}
use Rattle.entry.specs.Lists.{each, tally}
use Rattle.protocol.proofs.Mail.{tally_append}

abbrev pub total : (ℕ → ℕ) → ℕ → ℕ
total f zero = 0
total f (suc n) = f n + total f n

pub total_mono : (f g : ℕ → ℕ) (n : ℕ) → ((i : ℕ) → f i ≤ g i) → total f n ≤ total g n
total_mono f g zero l = omega arith
total_mono f g (suc n) l = omega (arith, l n, total_mono f g n l)

-- one of them grows by x
pub total_more : (f g : ℕ → ℕ) (n r x : ℕ) → r < n → f r + x ≤ g r → ((i : ℕ) → f i ≤ g i) → total f n + x ≤ total g n
total_more f g zero r x h a l = absurd (omega arith)
total_more f g (suc n) r x h a l = go (ℕ_discrete n r) (λ m. total_more f g n r x m a l)
  where
    go : Dec (n ≡ r) → (r < n → total f n + x ≤ total g n) → total f (suc n) + x ≤ total g (suc n)
    go (yes e) ih = let b : f n + x ≤ g n = rw e a in omega (arith, b, total_mono f g n l)
    go (no d) ih = omega (arith, l n, ih (omega arith))

-- all but one are zero
pub total_only : (f : ℕ → ℕ) (n r : ℕ) → ((i : ℕ) → i ≢ r → f i ≡ 0) → total f n ≤ f r
total_only f zero r z = omega arith
total_only f (suc n) r z = go (ℕ_discrete n r) (total_only f n r z)
  where
    below : (m : ℕ) → m ≤ r → total f m ≡ 0
    below zero l = refl
    below (suc m) l = omega (arith, z m (λ e. omega arith), below m (omega arith))

    go : Dec (n ≡ r) → total f n ≤ f r → total f (suc n) ≤ f r
    go (yes e) ih = let b : f n ≡ f r = rw e in omega (arith, b, below n (omega arith))
    go (no d) ih = omega (arith, z n d)

pub total_has : (f : ℕ → ℕ) (n r : ℕ) → r < n → f r ≤ total f n
total_has f zero r h = absurd (omega arith)
total_has f (suc n) r h = go (ℕ_discrete n r) (λ m. total_has f n r m)
  where
    go : Dec (n ≡ r) → (r < n → f r ≤ total f n) → f r ≤ total f (suc n)
    go (yes e) ih = let b : f n ≡ f r = rw e in omega arith
    go (no d) ih = omega (arith, ih (omega arith))

-- those that pass P are at most x, and the others nothing
pub total_most : (P : ℕ → Bool) (f : ℕ → ℕ) (n x : ℕ) → ((i : ℕ) → f i ≤ x * bit (P i)) → total f n ≤ x * count P n
total_most P f zero x l = omega arith
total_most P f (suc n) x l = omega (arith, l n, total_most P f n x l)

pub tally_each : {A : Type 0} (P : A → Bool) (f : ℕ → List A) (n : ℕ) → tally P (each f n) ≡ total (λ i. tally P (f i)) n
tally_each P f zero = refl
tally_each P f (suc n) = omega (arith, tally_append P (each f n) (f n), tally_each P f n)
