-- What a look through the lines sees: their order and their readings, where a lot stands and what it weighs, and what all lines weigh.
use Prim.Native.Nat.{ℕ, zero, suc, ◌+◌, ◌*◌, ◌<◌, ◌≤◌, ◌^◌}
use mathlib.Core.Path.{◌≡◌, refl, sym, ap, ◌∙◌}
use mathlib.Core.Bool.{Bool, true, false, cond, ◌&&◌, ◌||◌, true≢false}
use mathlib.Core.List.{List, [], ◌∷◌}
use native.Mathlib.Omega.{arith}
use lib.ListN.{length, get_or, take}
use lib.Dec.{leb, ltb, eqb}
use borrow.Author.Tests.{eqb-true, le-ltb, ne_eqb}
use Rattle.std.specs.Prelude.{Option, None, Some, is_some}
use Rattle.roll.specs.declared.Line.{Line}
use Rattle.roll.specs.Roll.{finite_readings, ordered_from, ordered, all_finite, has, weight, zero_line}
use Rattle.std.proofs.Math.Bool.{and-true, or-false}
use Rattle.roll.proofs.Tests.{bcase, or_then}
use Rattle.roll.proofs.Lines.{rest, weighs}
use Rattle.lines.specs.declared.Seen.{Seen}
use Rattle.lines.specs.Look.{fine_next, looked, nothing_seen, scanned, seen_in, Fair, Within, Small}

-- ---- one line more

scanned_more : (lot i : ℕ) (ls : List Line) (s : Seen) → i < length ls
    → scanned lot s (take (suc i) ls) ≡ looked lot (scanned lot s (take i ls)) (get_or ls i zero_line)
scanned_more lot i [] s h = absurd (omega arith)
scanned_more lot zero (l ∷ ls) s h = refl
scanned_more lot (suc i) (l ∷ ls) s h = scanned_more lot i ls (looked lot s l) (omega arith)

pub seen_more : (lot i : ℕ) (ls : List Line) → i < length ls
    → seen_in lot (take (suc i) ls) ≡ looked lot (seen_in lot (take i ls)) (get_or ls i zero_line)
seen_more lot i ls h = scanned_more lot i ls nothing_seen h

pub small_more : (i : ℕ) (ls : List Line) → i < length ls → Small (take i ls) → (get_or ls i zero_line).kilograms < 2 ^ 32
    → Small (take (suc i) ls)
small_more i [] h s k = absurd (omega arith)
small_more zero (l ∷ ls) h s k = (k, tt)
small_more (suc i) (l ∷ ls) h s k = (s.0, small_more i ls (omega arith) s.1 k)

-- ---- order and readings

mixed : (f a b o r : Bool) → (f && (a && b)) && (o && r) ≡ f && ((a && o) && (b && r))
mixed false a b o r = refl
mixed true false b o r = refl
mixed true true true o r = refl
mixed true true false true r = refl
mixed true true false false r = refl

pub sees_fine : (ls : List Line) (lot : ℕ) (s : Seen) → (scanned lot s ls).fine ≡ s.fine && (ordered_from s.next ls && all_finite ls)
unfolding looked fine_next
sees_fine [] lot s = sym (and-true s.fine)
sees_fine (l ∷ ls) lot s =
    sees_fine ls lot (looked lot s l)
    ∙ mixed s.fine (leb s.next l.lot) (finite_readings l) (ordered_from (l.lot + 1) ls) (all_finite ls)

-- ---- the lot

found_or : (a : Bool) (k : ℕ) (f : Option ℕ) (b : Bool) → is_some (cond a (Some k) f) || b ≡ is_some f || (a || b)
found_or true k (Some w) b = refl
found_or true k None b = refl
found_or false k f b = refl

pub sees_found : (ls : List Line) (lot : ℕ) (s : Seen) → is_some (scanned lot s ls).found ≡ is_some s.found || has lot ls
unfolding looked
sees_found [] lot s = sym (or-false (is_some s.found))
sees_found (l ∷ ls) lot s = sees_found ls lot (looked lot s l) ∙ found_or (eqb l.lot lot) l.kilograms s.found (has lot ls)

-- how many lots are below
abbrev pub belows : ℕ → List Line → ℕ
belows lot [] = 0
belows lot (l ∷ ls) = cond (ltb l.lot lot) (suc (belows lot ls)) (belows lot ls)

pub sees_place : (ls : List Line) (lot : ℕ) (s : Seen) → (scanned lot s ls).place ≡ s.place + belows lot ls
unfolding looked
sees_place [] lot s = omega arith
sees_place (l ∷ ls) lot s = sees_place ls lot (looked lot s l) ∙ go (ltb l.lot lot)
  where
    go : (b : Bool) → cond b (s.place + 1) s.place + belows lot ls ≡ s.place + cond b (suc (belows lot ls)) (belows lot ls)
    go true = omega arith
    go false = refl

pub belows_within : (lot : ℕ) (ls : List Line) → belows lot ls ≤ length ls
belows_within lot [] = omega arith
belows_within lot (l ∷ ls) = go (ltb l.lot lot) (belows_within lot ls)
  where
    go : (b : Bool) → belows lot ls ≤ length ls → cond b (suc (belows lot ls)) (belows lot ls) ≤ suc (length ls)
    go true h = omega arith
    go false h = omega arith

-- the line of a lot is not below it
pub belows_found : (lot : ℕ) (ls : List Line) → has lot ls ≡ true → belows lot ls < length ls
belows_found lot [] h = absurd (true≢false (sym h))
belows_found lot (l ∷ ls) h =
    bcase (eqb l.lot lot) here (λ e. further (belows_found lot ls (or_then (eqb l.lot lot) (has lot ls) e h)))
  where
    rest : belows lot ls ≤ length ls
    rest = belows_within lot ls

    here : eqb l.lot lot ≡ true → belows lot (l ∷ ls) < suc (length ls)
    here e = rw (le-ltb l.lot lot (same (eqb-true l.lot lot e))) (more rest)
      where
        same : {m : ℕ} → m ≡ lot → lot ≤ m
        same x = omega arith

        more : {a b : ℕ} → a ≤ b → a < suc b
        more x = omega arith

    further : belows lot ls < length ls → belows lot (l ∷ ls) < suc (length ls)
    further h = go (ltb l.lot lot) h
      where
        go : (b : Bool) → belows lot ls < length ls → cond b (suc (belows lot ls)) (belows lot ls) < suc (length ls)
        go true x = omega arith
        go false x = omega arith

-- ---- kilograms

pub sees_kilograms : (ls : List Line) (lot : ℕ) (s : Seen) → (scanned lot s ls).kilograms ≡ s.kilograms + weight ls
unfolding looked
sees_kilograms [] lot s = omega arith
sees_kilograms (l ∷ ls) lot s = sees_kilograms ls lot (looked lot s l) ∙ sum s.kilograms l.kilograms (weight ls)
  where
    sum : (a b c : ℕ) → a + b + c ≡ a + (b + c)
    sum a b c = omega arith

weighs_within : (ls : List Line) (lot : ℕ) (s : Seen) → ((w : ℕ) → s.found ≡ Some w → w ≤ s.kilograms)
    → (w : ℕ) → (scanned lot s ls).found ≡ Some w → w ≤ (scanned lot s ls).kilograms
unfolding looked
weighs_within [] lot s h = h
weighs_within (l ∷ ls) lot s h = weighs_within ls lot (looked lot s l) (go (eqb l.lot lot))
  where
    go : (b : Bool) (w : ℕ) → cond b (Some l.kilograms) s.found ≡ Some w → w ≤ s.kilograms + l.kilograms
    go true w e = let k : l.kilograms ≡ w = cc in omega arith
    go false w e = let k : w ≤ s.kilograms = h w e in omega arith

-- on an ordered roll a lot stands once, and it weighs what its line does
weight_past : (lot k : ℕ) (ls : List Line) (s : Seen) → lot < k → ordered_from k ls ≡ true → (scanned lot s ls).found ≡ s.found
unfolding looked
weight_past lot k [] s h o = refl
weight_past lot k (l ∷ ls) s h o =
    let c = rest k l ls o in
    weight_past lot (l.lot + 1) ls (looked lot s l) (past h c.0) c.1 ∙ rw (ne_eqb l.lot lot (λ e. differs h c.0 e))
  where
    past : lot < k → k ≤ l.lot → lot < l.lot + 1
    past x y = omega arith

    differs : lot < k → k ≤ l.lot → l.lot ≡ lot → ⊥
    differs x y z = omega arith

sees_weight : (lot k : ℕ) (ls : List Line) (s : Seen) → ordered_from k ls ≡ true → has lot ls ≡ true
    → (scanned lot s ls).found ≡ Some (weighs lot ls)
unfolding looked
sees_weight lot k [] s o h = absurd (true≢false (sym h))
sees_weight lot k (l ∷ ls) s o h =
    let c = rest k l ls o in
    bcase (eqb l.lot lot)
    (λ t. weight_past lot (l.lot + 1) ls (looked lot s l) (here (eqb-true l.lot lot t)) c.1 ∙ rw t)
    (λ f. sees_weight lot (l.lot + 1) ls (looked lot s l) c.1 (or_then (eqb l.lot lot) (has lot ls) f h) ∙ rw f)
  where
    here : l.lot ≡ lot → lot < l.lot + 1
    here x = omega arith

pub weight_is : (lot : ℕ) (ls : List Line) → ordered ls ≡ true → has lot ls ≡ true → (seen_in lot ls).found ≡ Some (weighs lot ls)
weight_is lot ls o h = sees_weight lot 0 ls nothing_seen o h

weight_fits : (ls : List Line) → Small ls → weight ls ≤ length ls * 2 ^ 32
weight_fits [] s = omega arith
weight_fits (l ∷ ls) s = sum (length ls) s.0 (weight_fits ls s.1)
  where
    sum : (n : ℕ) {k w : ℕ} → k < 2 ^ 32 → w ≤ n * 2 ^ 32 → k + w ≤ suc n * 2 ^ 32
    sum n a b = omega arith

-- ---- the counts have room, and the place is one of the lines

length_take_within : (i : ℕ) (ls : List Line) → length (take i ls) ≤ i
length_take_within zero ls = omega arith
length_take_within (suc i) [] = omega arith
length_take_within (suc i) (l ∷ ls) = more (length_take_within i ls)
  where
    more : {a b : ℕ} → a ≤ b → suc a ≤ suc b
    more h = omega arith

fair_all : (ls : List Line) (lot : ℕ) → length ls ≤ 4096 → Small ls → Fair (seen_in lot ls)
fair_all ls lot h s =
    record {
      place_fits = few (sees_place ls lot nothing_seen) (belows_within lot ls) h;
      kilograms_fit = light (sees_kilograms ls lot nothing_seen) (weight_fits ls s) h;
      weight_within = weighs_within ls lot nothing_seen none;
    }
  where
    none : (w : ℕ) → None ≡ Some w → w ≤ 0
    none w e = cc

    few : {p b n : ℕ} → p ≡ 0 + b → b ≤ n → n ≤ 4096 → p < 2 ^ 63
    few e x y = omega arith

    light : {k w n : ℕ} → k ≡ 0 + w → w ≤ n * 2 ^ 32 → n ≤ 4096 → k < 2 ^ 63
    light e x y = omega arith

pub fair : (lot i : ℕ) (ls : List Line) → i ≤ 4096 → Small (take i ls) → Fair (seen_in lot (take i ls))
fair lot i ls h s = fair_all (take i ls) lot (through (length_take_within i ls) h) s
  where
    through : {a : ℕ} → a ≤ i → i ≤ 4096 → a ≤ 4096
    through x y = omega arith

pub within : (lot i n : ℕ) (ls : List Line) → i ≤ n → Within (seen_in lot (take i ls)) n
within lot i n ls h =
    record {
      place_within = up (sees_place (take i ls) lot nothing_seen) (belows_within lot (take i ls)) (length_take_within i ls) h;
      found_within = λ w f. below (sees_place (take i ls) lot nothing_seen)
          (belows_found lot (take i ls) (sym (sees_found (take i ls) lot nothing_seen) ∙ ap is_some f)) (length_take_within i ls) h;
    }
  where
    up : {p b k : ℕ} → p ≡ 0 + b → b ≤ k → k ≤ i → i ≤ n → p ≤ n
    up e x y z = omega arith

    below : {p b k : ℕ} → p ≡ 0 + b → b < k → k ≤ i → i ≤ n → p < n
    below e x y z = omega arith
