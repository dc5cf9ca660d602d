-- Entering and striking by the place of a lot: the lines before it, and those from it on.
use Prim.Native.Nat.{ℕ, suc, ◌+◌, ◌<◌, ◌≤◌}
use mathlib.Core.Path.{◌≡◌, refl, sym, ap, ◌∙◌}
use mathlib.Core.Bool.{true, false, true≢false}
use mathlib.Core.List.{List, [], ◌∷◌, ◌++◌}
use native.Mathlib.Omega.{arith}
use lib.ListN.{take, drop}
use lib.Dec.{ltb, eqb}
use borrow.Author.Tests.{ltb-false, eqb-true, le-ltb}
use Rattle.roll.specs.declared.Line.{Line}
use Rattle.roll.specs.Roll.{ordered_from, has, enters, strikes}
use Rattle.roll.proofs.Tests.{bcase, or_then}
use Rattle.roll.proofs.Lines.{rest, has_past}
use Rattle.lines.proofs.Scan.{belows}

-- on an ordered roll no lot past k is below it
belows_past : (lot k : ℕ) (ls : List Line) → lot ≤ k → ordered_from k ls ≡ true → belows lot ls ≡ 0
belows_past lot k [] h o = refl
belows_past lot k (l ∷ ls) h o =
    let c = rest k l ls o in
    rw (le-ltb l.lot lot (above h c.0)) (belows_past lot (l.lot + 1) ls (past h c.0) c.1)
  where
    above : lot ≤ k → k ≤ l.lot → lot ≤ l.lot
    above x y = omega arith

    past : lot ≤ k → k ≤ l.lot → lot ≤ l.lot + 1
    past x y = omega arith

-- where the first lot is not below
none_below : (lot k : ℕ) (l : Line) (ls : List Line) → ordered_from k (l ∷ ls) ≡ true → ltb l.lot lot ≡ false → belows lot ls ≡ 0
none_below lot k l ls o f = belows_past lot (l.lot + 1) ls (past (ltb-false l.lot lot f)) (rest k l ls o).1
  where
    past : lot ≤ l.lot → lot ≤ l.lot + 1
    past x = omega arith

pub enters_at : (l : Line) (k : ℕ) (ls : List Line) → ordered_from k ls ≡ true
    → enters l ls ≡ take (belows l.lot ls) ls ++ (l ∷ drop (belows l.lot ls) ls)
enters_at l k [] o = refl
enters_at l k (m ∷ ms) o =
    bcase (ltb m.lot l.lot)
    (λ t. rw t (ap (λ (x : List Line). m ∷ x) (enters_at l (m.lot + 1) ms (rest k m ms o).1)))
    (λ f. rw (f, none_below l.lot k m ms o f))

pub strikes_at : (lot k : ℕ) (ls : List Line) → ordered_from k ls ≡ true → has lot ls ≡ true
    → strikes lot ls ≡ take (belows lot ls) ls ++ drop (suc (belows lot ls)) ls
strikes_at lot k [] o h = absurd (true≢false (sym h))
strikes_at lot k (l ∷ ls) o h =
    bcase (eqb l.lot lot) here
    (λ f. bcase (ltb l.lot lot)
    (λ t. rw (f, t) (ap (λ (x : List Line). l ∷ x)
    (strikes_at lot (l.lot + 1) ls (rest k l ls o).1 (or_then (eqb l.lot lot) (has lot ls) f h))))
    (λ g. absurd (true≢false (sym (or_then (eqb l.lot lot) (has lot ls) f h) ∙ gone g))))
  where
    here : eqb l.lot lot ≡ true
        → strikes lot (l ∷ ls) ≡ take (belows lot (l ∷ ls)) (l ∷ ls) ++ drop (suc (belows lot (l ∷ ls))) (l ∷ ls)
    here t = let f = le-ltb l.lot lot (same (eqb-true l.lot lot t)) in rw (t, f, none_below lot k l ls o f)
      where
        same : {m : ℕ} → m ≡ lot → lot ≤ m
        same e = omega arith

    gone : ltb l.lot lot ≡ false → has lot ls ≡ false
    gone g = has_past lot (l.lot + 1) ls (above (ltb-false l.lot lot g)) (rest k l ls o).1
      where
        above : {m : ℕ} → lot ≤ m → lot < m + 1
        above h = omega arith
