-- A roll and totals are sound exactly when the plain words hold of them.
use Prim.Native.Nat.{ℕ, zero, suc, ◌+◌, ◌<◌, ◌≤◌}
use mathlib.Core.Path.{◌≡◌, refl, sym, subst}
use mathlib.Core.Logic.{◌↔◌, inl, inr}
use mathlib.Core.Bool.{true, true≢false}
use mathlib.Core.List.{List, [], ◌∷◌}
use native.Mathlib.Omega.{arith}
use lib.ListN.{length}
use lib.Dec.{eqb}
use lib.Ieee.{binary32, of_bits}
use borrow.Author.Tests.{leb-true, le-leb, eqb-true}
use Rattle.sheet.specs.Sheet.{finite}
use Rattle.roll.specs.declared.Line.{Line}
use Rattle.roll.specs.declared.Totals.{Totals}
use Rattle.roll.specs.Roll.{moisture_of, finite_readings, ordered_from, all_finite, has, totals_of}
use Rattle.roll.specs.Roll.{most_lines, in_use, sound}
use Rattle.roll.specs.Plain.{Among, lot_at, Finite, There, Sound}
use Rattle.std.proofs.lemmas.Bool.{and_parts}
use Rattle.roll.proofs.Tests.{bcase, or_then}
use Rattle.roll.proofs.Lines.{rest, has_among}
use Rattle.roll.proofs.Sound.{same_are, are_same, parts}

-- ---- ascending lot order

lots_above : (k : ℕ) (ls : List Line) → ordered_from k ls ≡ true → (j : ℕ) → j < length ls → k ≤ lot_at ls j
lots_above k [] o j h = absurd (omega arith)
lots_above k (l ∷ ls) o zero h = (rest k l ls o).0
lots_above k (l ∷ ls) o (suc j) h = through (rest k l ls o).0 (lots_above (l.lot + 1) ls (rest k l ls o).1 j (omega arith))
  where
    through : {m : ℕ} → k ≤ l.lot → l.lot + 1 ≤ m → k ≤ m
    through a b = omega arith

ascends : (k : ℕ) (ls : List Line) → ordered_from k ls ≡ true → (i j : ℕ) → i < j → j < length ls → lot_at ls i < lot_at ls j
ascends k [] o i j h l = absurd (omega arith)
ascends k (m ∷ ms) o i zero h l = absurd (omega arith)
ascends k (m ∷ ms) o zero (suc j) h l = past (lots_above (m.lot + 1) ms (rest k m ms o).1 j (omega arith))
  where
    past : {x : ℕ} → m.lot + 1 ≤ x → m.lot < x
    past a = omega arith
ascends k (m ∷ ms) o (suc i) (suc j) h l = ascends (m.lot + 1) ms (rest k m ms o).1 i j (omega arith) (omega arith)

in_order : (k : ℕ) (ls : List Line) → (0 < length ls → k ≤ lot_at ls 0)
    → ((i j : ℕ) → i < j → j < length ls → lot_at ls i < lot_at ls j) → ordered_from k ls ≡ true
in_order k [] first f = refl
in_order k (l ∷ ls) first f =
    rw (le-leb k l.lot (first (some (length ls))))
    (in_order (l.lot + 1) ls (λ h. next (f 0 1 (omega arith) (more h))) (λ i j h m. f (suc i) (suc j) (more h) (more m)))
  where
    some : (n : ℕ) → 0 < suc n
    some n = omega arith

    more : {a b : ℕ} → a < b → suc a < suc b
    more h = omega arith

    next : {m : ℕ} → l.lot < m → l.lot + 1 ≤ m
    next h = omega arith

-- ---- finite readings

pub both : (l : Line) → finite_readings l ≡ true → Finite l
unfolding finite_readings
both l e =
    record {
      moisture = (and_parts (finite (moisture_of l)) (finite (of_bits binary32 l.conductivity)) e).0;
      conductivity = (and_parts (finite (moisture_of l)) (finite (of_bits binary32 l.conductivity)) e).1;
    }

pub finite_both : (l : Line) → Finite l → finite_readings l ≡ true
unfolding finite_readings
finite_both l f = rw f.moisture f.conductivity

each_finite : (ls : List Line) → all_finite ls ≡ true → (x : Line) → Among x ls → finite_readings x ≡ true
each_finite [] a x x4 = elim x4 [ ]
each_finite (l ∷ ls) a x (inl e) =
    subst (λ (m : Line). finite_readings m ≡ true) (sym e) (and_parts (finite_readings l) (all_finite ls) a).0
each_finite (l ∷ ls) a x (inr p) = each_finite ls (and_parts (finite_readings l) (all_finite ls) a).1 x p

all_finite_lem : (ls : List Line) → ((x : Line) → Among x ls → finite_readings x ≡ true) → all_finite ls ≡ true
all_finite_lem [] f = refl
all_finite_lem (l ∷ ls) f = rw (f l (inl refl)) (all_finite_lem ls (λ x p. f x (inr p)))

-- ---- a lot that is there

pub has_there : (lot : ℕ) (ls : List Line) → has lot ls ≡ true → There lot ls
has_there lot [] h = absurd (true≢false (sym h))
has_there lot (l ∷ ls) h =
    bcase (eqb l.lot lot) (λ t. record { line = l; among = inl refl; its_lot = eqb-true l.lot lot t })
    (λ f. further (has_there lot ls (or_then (eqb l.lot lot) (has lot ls) f h)))
  where
    further : There lot ls → There lot (l ∷ ls)
    further t = record { line = t.line; among = inr t.among; its_lot = t.its_lot }

pub there_has : (lot : ℕ) (ls : List Line) → There lot ls → has lot ls ≡ true
there_has lot ls t = has_among lot ls t.line t.among t.its_lot

-- ---- sound

pub sound_exactly : (roll : List Line) (t : Totals) → (sound roll t ≡ true) ↔ Sound roll t
unfolding sound
sound_exactly roll t = (reads, holds)
  where
    reads : sound roll t ≡ true → Sound roll t
    reads e =
        let p = parts roll t e in
        record {
          not_too_long = leb-true (length roll) most_lines p.short;
          ascending = ascends 0 (in_use roll t) p.in_order;
          all_finite_lem = λ l a. both l (each_finite (in_use roll t) p.all_finite_lem l a);
          totals_are = same_are t (totals_of (in_use roll t)) p.those;
        }

    holds : Sound roll t → sound roll t ≡ true
    holds s =
        rw (
          le-leb (length roll) most_lines s.not_too_long,
          in_order 0 (in_use roll t) (λ h. least (lot_at (in_use roll t) 0)) s.ascending,
          all_finite_lem (in_use roll t) (λ x a. finite_both x (s.all_finite_lem x a)),
          are_same t (totals_of (in_use roll t)) s.totals_are,
        )
      where
        least : (k : ℕ) → 0 ≤ k
        least k = omega arith
