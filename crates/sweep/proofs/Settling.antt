-- On a sound roll what was seen settles what 2026-05 asks: striking and entering, each refusal, every line and the totals.
use Prim.Native.Nat.{ℕ, suc, ◌+◌, ◌-◌, ◌<◌, ◌≤◌}
use mathlib.Core.Path.{◌≡◌, refl, sym, ap, ◌∙◌}
use mathlib.Core.Option.{Option, none, some}
use mathlib.Core.Bool.{true, false}
use mathlib.Core.List.{List, [], ◌∷◌, ◌++◌, append_assoc}
use native.Mathlib.Omega.{arith}
use lib.ListN.{length, get_or, take, drop, take-append-drop, length-drop}
use lib.Dec.{leb, ltb, eqb}
use lib.Seq.{length-take-le, drop-cons}
use borrow.Author.Tests.{leb-true, ltb-true, ltb-false, le-leb, lt-leb, lt-ltb}
use Rattle.std.specs.Prelude as Prelude
use Rattle.std.specs.Prelude.{Some, Result, Err, is_some}
use Rattle.roll.specs.declared.Line.{Line}
use Rattle.roll.specs.declared.Totals.{Totals}
use Rattle.roll.specs.Roll.{finite_readings, ordered, all_finite, has, weight, highest, totals_with, totals_of, same_totals, sound}
use Rattle.roll.specs.Roll.{enters, strikes, zero_line, outcome, refused, accepted, entered, struck}
use Rattle.std.proofs.lemmas.Bool.{or_parts}
use Rattle.roll.proofs.Tests.{bcase}
use Rattle.roll.proofs.Lines.{weighs, weight_enters, weight_strikes, length_enters, strikes_length}
use Rattle.roll.proofs.Sound.{same_are}
use Rattle.lines.specs.declared.Seen.{Seen}
use Rattle.lines.specs.Look.{top_of, merged, nothing_seen, seen_in}
use Rattle.lines.proofs.Scan.{belows, sees_found, sees_place, weight_is, belows_within, belows_found}
use Rattle.lines.proofs.Tops.{Mark, mark_of, others_are, merged_is}
use Rattle.plans.specs.declared.Way.TheVariants.{Up, Down}
use Rattle.plans.specs.Plan.{top_totals, enter_at, enter_plan, strike_at, strike_found, strike_plan}
use Rattle.sweep.specs.Sweep.{Carried, after, carried, settled}
use Rattle.sweep.proofs.Places.{enters_at, strikes_at}
use Rattle.sweep.proofs.Carrying.{plan, up, down}

-- ---- totals with a mark

with_mark : (k n : ℕ) (b : Option Line) → top_totals k n (mark_of b) ≡ totals_with k n b
unfolding top_totals top_of
with_mark k n none = refl
with_mark k n (some l) = refl

pub marked : (k n : ℕ) (ls : List Line) → k ≡ weight ls → n ≡ length ls → top_totals k n (mark_of (highest ls)) ≡ totals_of ls
marked k n ls ek en = with_mark k n (highest ls) ∙ λ i. totals_with (ek i) (en i) (highest ls)

strikes_none : (lot : ℕ) (ls : List Line) → has lot ls ≡ false → strikes lot ls ≡ ls
strikes_none lot [] h = refl
strikes_none lot (l ∷ ls) h =
    rw (or_parts (eqb l.lot lot) (has lot ls) h).0
    (ap (λ (x : List Line). l ∷ x) (strikes_none lot ls (or_parts (eqb l.lot lot) (has lot ls) h).1))

module _ (ls : List Line) (t : Totals) (fits : leb t.lines (length ls) ≡ true) (o : ordered (take t.lines ls) ≡ true)
    (a : all_finite (take t.lines ls) ≡ true) (is_sound : sound ls t ≡ true)
    (those : same_totals t (totals_of (take t.lines ls)) ≡ true)
    (lot : ℕ) where
  abbrev n : ℕ
  n = length ls

  abbrev m : ℕ
  m = t.lines

  abbrev used : List Line
  used = take m ls

  abbrev free : List Line
  free = drop m ls

  abbrev sc : Seen
  sc = seen_in lot used

  used_long : length used ≡ m
  used_long = length-take-le m ls (leb-true m n fits)

  is_found : is_some sc.found ≡ has lot used
  is_found = sees_found used lot nothing_seen

  weighs_all : t.kilograms ≡ weight used
  weighs_all = ap (λ (u : Totals). u.kilograms) (same_are t (totals_of used) those)

  -- the roll, cut at the place and at the end of the lines in use
  abbrev p : ℕ
  p = belows lot used

  place_is : sc.place ≡ p
  place_is = sees_place used lot nothing_seen ∙ omega arith

  pre_long : length (take p used) ≡ p
  pre_long = length-take-le p used (belows_within lot used)

  mid_long : length (drop p used) ≡ m - p
  mid_long = length-drop p used ∙ ap (λ (k : ℕ). k - p) used_long

  cut : ls ≡ take p used ++ (drop p used ++ free)
  cut =
      sym (take-append-drop m ls) ∙ ap (λ (x : List Line). x ++ free) (sym (take-append-drop p used))
      ∙ append_assoc (take p used) (drop p used) free

  -- ---- striking

  absent : has lot used ≡ false → settled ls t (strike_plan t sc) ≡ struck ls t lot
  unfolding strike_plan struck
  absent h = none_found sc.found (is_found ∙ h) ∙ rw (is_sound, h)
    where
      none_found : (w : Prelude.Option ℕ) → is_some w ≡ false → settled ls t (strike_found t sc w) ≡ refused 24 ls t
      none_found Prelude.None e = refl
      none_found (Some w) e = cc

  module _ (h : has lot used ≡ true) where
    strike_is : strike_plan t sc ≡ Prelude.Ok (strike_at t sc (weighs lot used))
    unfolding strike_plan
    strike_is = ap (strike_found t sc) (weight_is lot used o h)

    struck_is : struck ls t lot ≡ accepted (strikes lot used) (zero_line ∷ free)
    unfolding struck
    struck_is = rw (is_sound, h)

    there : p < length used
    there = belows_found lot used h

    -- from the place on: the lot's line, and those after it
    rest_is : drop p used ≡ get_or used p zero_line ∷ drop (suc p) used
    rest_is = drop-cons used p zero_line there

    rest_long : m - p ≡ suc (length (drop (suc p) used))
    rest_long = sym mid_long ∙ ap length rest_is

    -- those after it come down, and the zero line stands after them
    struck_lines : (u : Totals) → (carried (plan u Down p m zero_line) ls).lines ≡ strikes lot used ++ (zero_line ∷ free)
    struck_lines u =
        ap (λ (x : List Line). (carried (plan u Down p m zero_line) x).lines)
        (cut ∙ ap (λ (x : List Line). take p used ++ (x ++ free)) rest_is)
        ∙ ap (λ (k : ℕ).
        (after (plan u Down p m zero_line) (take p used ++ (get_or used p zero_line ∷ (drop (suc p) used ++ free))) k).lines)
        rest_long
        ∙ ap (λ (c : Carried). c.lines)
        (down u (drop (suc p) used) (take p used) free (get_or used p zero_line) zero_line p m pre_long (ends rest_long there used_long))
        ∙ sym (append_assoc (take p used) (drop (suc p) used) (zero_line ∷ free))
        ∙ ap (λ (x : List Line). x ++ (zero_line ∷ free)) (sym (strikes_at lot 0 used o h))
      where
        ends : {k l : ℕ} → m - p ≡ suc k → p < l → l ≡ m → p + suc k ≡ m
        ends x y z = omega arith

    struck_totals : top_totals (t.kilograms - weighs lot used) (m - 1) sc.others ≡ totals_of (strikes lot used)
    struck_totals =
        ap (top_totals (t.kilograms - weighs lot used) (m - 1)) (others_are lot used o a)
        ∙ marked (t.kilograms - weighs lot used) (m - 1) (strikes lot used) (less (weighs lot used) weighs_all (weight_strikes lot used))
        (one_less (strikes_length lot used h) used_long)
      where
        less : (w : ℕ) {k x z : ℕ} → k ≡ z → x + w ≡ z → k - w ≡ x
        less w {k} {x} {z} e f = omega (arith, e, f)

        one_less : {x y : ℕ} → suc x ≡ y → y ≡ m → m - 1 ≡ x
        one_less e f = omega arith

    present : settled ls t (strike_plan t sc) ≡ struck ls t lot
    present =
        ap (settled ls t) strike_is
        ∙ ap (λ (k : ℕ). outcome 0 (carried (plan due Down k m zero_line) ls).lines due) place_is
        ∙ (λ i. outcome 0 (struck_lines due i) (struck_totals i))
        ∙ sym struck_is
      where
        due : Totals
        due = top_totals (t.kilograms - weighs lot used) (m - 1) sc.others

  pub strike_settles : settled ls t (strike_plan t sc) ≡ struck ls t lot
  strike_settles = bcase (has lot used) present absent

  -- ---- entering

  module _ (l : Line) (its_lot : l.lot ≡ lot) where
    not_finite : finite_readings l ≡ false → settled ls t (enter_plan n t l sc) ≡ entered ls t l
    unfolding enter_plan entered
    not_finite f = rw (f, is_sound)

    module _ (f : finite_readings l ≡ true) where
      already : has lot used ≡ true → settled ls t (enter_plan n t l sc) ≡ entered ls t l
      unfolding enter_plan entered
      already h = rw (f, is_found ∙ h, is_sound, its_lot, h)

      module _ (h : has lot used ≡ false) where
        none_free : ltb m n ≡ false → settled ls t (enter_plan n t l sc) ≡ entered ls t l
        unfolding enter_plan entered
        none_free e = rw (f, is_found ∙ h, e, is_sound, its_lot, h, le-leb n m (ltb-false m n e))

        module _ (room : m < n) where
          enter_is : enter_plan n t l sc ≡ Prelude.Ok (enter_at t l sc)
          unfolding enter_plan
          enter_is = rw (f, is_found ∙ h, lt-ltb m n room)

          entered_is : entered ls t l ≡ accepted (enters l used) (drop (m + 1) ls)
          unfolding entered
          entered_is = rw (is_sound, f, its_lot, h, lt-leb n m room)

          -- the first free line, and those after it
          free_is : free ≡ get_or ls m zero_line ∷ drop (suc m) ls
          free_is = drop-cons ls m zero_line room

          turns_are : m + 1 - p ≡ suc (length (drop p used))
          turns_are = one mid_long (belows_within lot used) used_long
            where
              one : {k u : ℕ} → k ≡ m - p → p ≤ u → u ≡ m → m + 1 - p ≡ suc k
              one e x y = omega arith

          new_lot : has l.lot used ≡ false
          new_lot = ap (λ (k : ℕ). has k used) its_lot ∙ h

          -- the lines from the place on go up, over the first free one
          entered_lines : (u : Totals) → (carried (plan u Up p (m + 1) l) ls).lines ≡ enters l used ++ drop (m + 1) ls
          entered_lines u =
              ap (λ (x : List Line). (carried (plan u Up p (m + 1) l) x).lines)
              (cut ∙ ap (λ (x : List Line). take p used ++ (drop p used ++ x)) free_is)
              ∙ ap (λ (k : ℕ).
              (after (plan u Up p (m + 1) l) (take p used ++ (drop p used ++ (get_or ls m zero_line ∷ drop (suc m) ls))) k).lines)
              turns_are
              ∙ ap (λ (c : Carried). c.lines)
              (up u (drop p used) (take p used) (drop (suc m) ls) (get_or ls m zero_line) l p (m + 1) pre_long)
              ∙ sym (append_assoc (take p used) (l ∷ drop p used) (drop (suc m) ls))
              ∙ ap (λ (x : List Line). x ++ drop (suc m) ls)
              (sym (enters_at l 0 used o ∙ ap (λ (k : ℕ). take (belows k used) used ++ (l ∷ drop (belows k used) used)) its_lot))
              ∙ ap (λ (k : ℕ). enters l used ++ drop k ls) (next m)
            where
              next : (k : ℕ) → suc k ≡ k + 1
              next k = omega arith

          others_all : sc.others ≡ mark_of (highest used)
          others_all = others_are lot used o a ∙ ap (λ (x : List Line). mark_of (highest x)) (strikes_none lot used h)

          entered_totals : top_totals (t.kilograms + l.kilograms) (m + 1) (Some (merged sc.others l)) ≡ totals_of (enters l used)
          entered_totals =
              ap (top_totals (t.kilograms + l.kilograms) (m + 1))
              (ap (λ (x : Mark). Some (merged x l)) others_all ∙ merged_is l used o a f new_lot)
              ∙ marked (t.kilograms + l.kilograms) (m + 1) (enters l used)
              (ap (λ (k : ℕ). k + l.kilograms) weighs_all ∙ sym (weight_enters l used))
              (next used_long ∙ sym (length_enters l used))
            where
              next : {k : ℕ} → k ≡ m → m + 1 ≡ suc k
              next e = omega arith

          takes : settled ls t (enter_plan n t l sc) ≡ entered ls t l
          takes =
              ap (settled ls t) enter_is
              ∙ ap (λ (k : ℕ). outcome 0 (carried (plan due Up k (m + 1) l) ls).lines due) place_is
              ∙ (λ i. outcome 0 (entered_lines due i) (entered_totals i))
              ∙ sym entered_is
            where
              due : Totals
              due = top_totals (t.kilograms + l.kilograms) (m + 1) (Some (merged sc.others l))

    pub enter_settles : settled ls t (enter_plan n t l sc) ≡ entered ls t l
    enter_settles =
        bcase (finite_readings l)
        (λ f. bcase (has lot used) (already f)
        (λ h. bcase (ltb m n) (λ e. takes f h (ltb-true m n e)) (none_free f h)))
        not_finite
