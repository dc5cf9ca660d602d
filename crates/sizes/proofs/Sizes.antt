-- The n, S and own number that are allowed: each is written in one byte.
use Prim.Native.Nat.{ℕ, ◌≤◌, ◌<◌}
use mathlib.Core.Path.{◌≡◌, refl, sym, ◌∙◌}
use mathlib.Core.Bool.{Bool, true, false, ◌&&◌, and-eq-true_iff}
use native.Mathlib.Omega.{arith}
use lib.Dec.{leb, ltb}
use borrow.Author.Tests.{leb-true, lt-ltb, le-ltb}
use Rattle.card.specs.Card.{most_down, houses_ok, down_ok}
use Rattle.card.proofs.Wall.{houses_byte, down_between}
use Rattle.meaning.specs.Layout.{most_numbers, most_limit, numbers_ok}
use Rattle.meaning.specs.Opening.{allowed}
use Rattle.meaning.proofs.Opening.{allowed_facts}

module _ (n s : ℕ) (r : Bool) (e : r ≡ (houses_ok n && numbers_ok s)) (t : r ≡ true) where
  both : (houses_ok n ≡ true) × (numbers_ok s ≡ true)
  both = (and-eq-true_iff (houses_ok n) (numbers_ok s)).0 (sym e ∙ t)

  pub n_byte : n < 256
  n_byte = houses_byte n both.0

  pub numbers_byte : s < 256
  unfolding numbers_ok most_numbers
  numbers_byte = let l = leb-true s most_numbers ((and-eq-true_iff (leb 1 s) (leb s most_numbers)).0 both.1).1 in omega arith

-- n and S, and then the own number, f and d
allowed_is : (n s own f d : ℕ) → allowed n s own f d ≡ (houses_ok n && numbers_ok s) && (ltb own n && (down_ok n f && leb d most_limit))
unfolding allowed
allowed_is n s own f d = go (houses_ok n)
  where
    go : (x : Bool) → x && (numbers_ok s && (ltb own n && (down_ok n f && leb d most_limit)))
        ≡ (x && numbers_ok s) && (ltb own n && (down_ok n f && leb d most_limit))
    go true = refl
    go false = refl

module _ (n s own f d : ℕ) (r : Bool) (e : r ≡ (houses_ok n && numbers_ok s)) where
  pub size_refused : r ≡ false → false ≡ allowed n s own f d
  size_refused x = rw (allowed_is n s own f d, ← e, x)

  module _ (t : r ≡ true) where
    pub own_refused : n ≤ own → false ≡ allowed n s own f d
    own_refused l = rw (allowed_is n s own f d, ← e, t, le-ltb own n l)

    module _ (l : own < n) (x : Bool) (q : x ≡ down_ok n f) where
      pub down_refused : x ≡ false → false ≡ allowed n s own f d
      down_refused z = rw (allowed_is n s own f d, ← e, t, lt-ltb own n l, ← q, z)

      pub all_allowed : x ≡ true → leb d most_limit ≡ allowed n s own f d
      all_allowed z = rw (allowed_is n s own f d, ← e, t, lt-ltb own n l, ← q, z)

module _ (n s own f d : ℕ) (r : Bool) (e : r ≡ allowed n s own f d) (t : r ≡ true) where
  parts : (houses_ok n ≡ true) × (numbers_ok s ≡ true) × (own < n) × (down_ok n f ≡ true) × (d ≤ most_limit)
  parts = allowed_facts n s own f d (sym e ∙ t)

  size : (houses_ok n && numbers_ok s) ≡ true
  size = (and-eq-true_iff (houses_ok n) (numbers_ok s)).1 (parts.0, parts.1)

  pub allowed_n : n < 256
  allowed_n = n_byte n s _ refl size

  pub allowed_numbers : s < 256
  allowed_numbers = numbers_byte n s _ refl size

  pub allowed_own : own < 256
  allowed_own = let l = allowed_n in omega (arith, parts.2)

  pub allowed_down : f < 256
  unfolding most_down
  allowed_down = omega (arith, (down_between n f parts.3).0)

  pub allowed_limit : d < 256
  unfolding most_limit
  allowed_limit = omega (arith, parts.4)
