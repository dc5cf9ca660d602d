-- The parts of the test for a well-formed message.
use Prim.Native.Nat.{ℕ}
use mathlib.Core.Path.{◌≡◌}
use mathlib.Core.Bool.{true, ◌&&◌, and-eq-true_iff}
use mathlib.Core.List.{List}
use lib.Dec.{eqb}
use lib.ListN.{length, get_or}
use borrow.Author.Tests.{eqb-true}
use Rattle.message.specs.Message.{is_kind, field_at, tagged, well_formed}

module _ (s : List ℕ) (h : well_formed s ≡ true) where
  pub sized : length s ≡ 36
  unfolding well_formed
  sized = eqb-true (length s) 36 ((and-eq-true_iff (eqb (length s) 36) (tagged s && is_kind (get_or s 3 0))).0 h).0

  past : (tagged s ≡ true) × (is_kind (get_or s 3 0) ≡ true)
  unfolding well_formed
  past =
      (and-eq-true_iff (tagged s) (is_kind (get_or s 3 0))).0
      ((and-eq-true_iff (eqb (length s) 36) (tagged s && is_kind (get_or s 3 0))).0 h).1

  pub known_kind : is_kind (get_or s 3 0) ≡ true
  known_kind = past.1

  -- each tag with its length
  pub tags : (field_at s 0 1 1 ≡ true) × (field_at s 4 2 6 ≡ true) × (field_at s 13 3 20 ≡ true)
  unfolding tagged
  tags =
      let a = (and-eq-true_iff (field_at s 0 1 1) (field_at s 4 2 6 && field_at s 13 3 20)).0 past.0 in
      let b = (and-eq-true_iff (field_at s 4 2 6) (field_at s 13 3 20)).0 a.1 in
      (a.0, b.0, b.1)
