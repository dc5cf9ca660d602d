-- From an empty roll, kilograms equal the sum over lots entered less lots struck in accepted calls, for every sequence of calls; and every
-- roll on the way is sound.
use Prim.Native.Nat.{ℕ, ◌+◌, ◌-◌, ◌≤◌}
use mathlib.Core.Path.{◌≡◌, refl, sym, ap, ◌∙◌, subst}
use mathlib.Core.Bool.{Bool, true, false, cond, not, ◌&&◌}
use mathlib.Core.List.{List, [], ◌∷◌}
use native.Mathlib.Omega.{arith}
use lib.ListN.{length, drop}
use lib.Seq.{take-append_seam}
use lib.Dec.{eqb}
use borrow.Author.Tests.{eqb-true, eqb-false}
use Rattle.roll.specs.declared.Line.{Line}
use Rattle.roll.specs.declared.Totals.{Totals}
use Rattle.roll.specs.declared.Ask.{Ask}
use Rattle.roll.specs.declared.Ask.TheVariants.{Enter, Strike}
use Rattle.roll.specs.Roll.{weight, totals_of, most_lines, in_use, sound, enters, strikes, zero_line, Changed, accepted}
use Rattle.roll.specs.Roll.{entered, struck, is_strike, lot_asked, kilograms_asked, changed}
use Rattle.roll.specs.Season.{empty, next, season, is_accepted, entered_in, noted, struck_in, no_notes}
use Rattle.roll.proofs.Tests.{bcase}
use Rattle.roll.proofs.Lines.{weighs, weight_enters, weight_strikes, weighs_enters, weighs_strikes}
use Rattle.roll.proofs.Sound.{Parts, same_are, empty_sound, entered_parts, struck_parts, refused_stays, accepted_sound}

-- ---- one call

abbrev kg : Changed → ℕ
kg c = c.totals.kilograms

-- what a lot weighs on the roll
abbrev on : Changed → ℕ → ℕ
on c lot = weighs lot (in_use c.lines c.totals)

-- the kilograms that a call enters, and those that it strikes from the roll
abbrev entered_by : Changed → Ask → ℕ
entered_by c q = cond (is_accepted c q && not (is_strike q)) (kilograms_asked q) 0

abbrev struck_by : Changed → Ask → ℕ
struck_by c q = cond (is_accepted c q && is_strike q) (on c (lot_asked q)) 0

total_weight : (roll : List Line) (t : Totals) → Parts roll t → t.kilograms ≡ weight (in_use roll t)
total_weight roll t s = ap (λ (u : Totals). u.kilograms) (same_are t (totals_of (in_use roll t)) s.those)

struck_balance : (roll : List Line) (t : Totals) (lot : ℕ) → (struck roll t lot).answer ≡ 0
    → kg (struck roll t lot) + weighs lot (in_use roll t) ≡ t.kilograms + 0
struck_balance roll t lot e =
    let p = struck_parts roll t lot e in
    ap (λ (d : Changed). kg d + weighs lot (in_use roll t)) p.gives ∙ weight_strikes lot (in_use roll t)
    ∙ sym (total_weight roll t p.was_sound) ∙ none t.kilograms
  where
    none : (k : ℕ) → k ≡ k + 0
    none k = omega arith

entered_balance : (roll : List Line) (t : Totals) (l : Line) → (entered roll t l).answer ≡ 0
    → kg (entered roll t l) + 0 ≡ t.kilograms + l.kilograms
entered_balance roll t l e =
    let p = entered_parts roll t l e in
    ap (λ (d : Changed). kg d + 0) p.gives ∙ sums (weight_enters l (in_use roll t)) (total_weight roll t p.was_sound)
  where
    sums : {a b : ℕ} → a ≡ b + l.kilograms → t.kilograms ≡ b → a + 0 ≡ t.kilograms + l.kilograms
    sums x y = omega arith

by_case : (a s : Bool) (k o w l : ℕ) → (a ≡ true → k + cond s w 0 ≡ o + cond (not s) l 0) → (a ≡ false → k + 0 ≡ o + 0)
    → k + cond (a && s) w 0 ≡ o + cond (a && not s) l 0
by_case true s k o w l f g = f refl
by_case false s k o w l f g = g refl

balanced : (c : Changed) (q : Ask) → kg (next c q) + struck_by c q ≡ kg c + entered_by c q
unfolding changed
balanced c q =
    by_case (is_accepted c q) (is_strike q) (kg (next c q)) (kg c) (on c (lot_asked q)) (kilograms_asked q)
    (λ a. accepted_balance q (eqb-true (next c q).answer 0 a))
    (λ r. ap (λ (d : Changed). kg d + 0) (refused_stays c.lines c.totals q (eqb-false (next c q).answer 0 r)))
  where
    accepted_balance : (q : Ask) → (next c q).answer ≡ 0
        → kg (next c q) + cond (is_strike q) (on c (lot_asked q)) 0 ≡ kg c + cond (not (is_strike q)) (kilograms_asked q) 0
    accepted_balance (Enter l) e = entered_balance c.lines c.totals l e
    accepted_balance (Strike lot) e = struck_balance c.lines c.totals lot e

-- ---- a season

-- the kilograms struck from the roll
abbrev struck_from : List Ask → Changed → ℕ
struck_from [] c = 0
struck_from (q ∷ qs) c = struck_by c q + struck_from qs (next c q)

season_balanced : (qs : List Ask) (c : Changed) → kg (season qs c) + struck_from qs c ≡ kg c + entered_in qs c
season_balanced [] c = refl
season_balanced (q ∷ qs) c = sums (kg c) (entered_by c q) (struck_by c q) (kg (next c q)) (entered_in qs (next c q))
    (kg (season qs (next c q))) (struck_from qs (next c q)) (balanced c q) (season_balanced qs (next c q))
  where
    sums : (o x y a e k s : ℕ) → a + y ≡ o + x → k + s ≡ a + e → k + (y + s) ≡ o + (x + e)
    sums o x y a e k s h g = omega arith

-- ---- a lot is struck with the kilograms that it was entered with

-- the roll and the notes agree
abbrev Noted : Changed → (ℕ → ℕ) → Type 0
Noted c w = (x : ℕ) → on c x ≡ w x

in_use_of : (used free : List Line) → in_use (accepted used free).lines (accepted used free).totals ≡ used
in_use_of used free = take-append_seam used free

struck_notes : (roll : List Line) (t : Totals) (lot x : ℕ) → (struck roll t lot).answer ≡ 0
    → on (struck roll t lot) x ≡ cond (eqb lot x) 0 (weighs x (in_use roll t))
struck_notes roll t lot x e =
    let p = struck_parts roll t lot e in
    ap (λ (d : Changed). on d x) p.gives ∙ ap (weighs x) (in_use_of (strikes lot (in_use roll t)) (zero_line ∷ drop t.lines roll))
    ∙ weighs_strikes x lot 0 (in_use roll t) p.was_sound.in_order

entered_notes : (roll : List Line) (t : Totals) (l : Line) (x : ℕ) → (entered roll t l).answer ≡ 0
    → on (entered roll t l) x ≡ cond (eqb l.lot x) l.kilograms (weighs x (in_use roll t))
entered_notes roll t l x e =
    let p = entered_parts roll t l e in
    ap (λ (d : Changed). on d x) p.gives ∙ ap (weighs x) (in_use_of (enters l (in_use roll t)) (drop (t.lines + 1) roll))
    ∙ weighs_enters x l (in_use roll t)

by_note : (a b : Bool) (n k o w : ℕ) → o ≡ w → (a ≡ true → n ≡ cond b k o) → (a ≡ false → n ≡ o) → n ≡ cond a (cond b k w) w
by_note true b n k o w e f g = f refl ∙ ap (cond b k) e
by_note false b n k o w e f g = g refl ∙ e

next_noted : (c : Changed) (q : Ask) (w : ℕ → ℕ) → Noted c w → Noted (next c q) (noted c q w)
unfolding changed
next_noted c q w i x =
    by_note (is_accepted c q) (eqb (lot_asked q) x) (on (next c q) x) (cond (is_strike q) 0 (kilograms_asked q)) (on c x) (w x) (i x)
    (λ a. accepted_notes q (eqb-true (next c q).answer 0 a))
    (λ r. ap (λ (d : Changed). on d x) (refused_stays c.lines c.totals q (eqb-false (next c q).answer 0 r)))
  where
    accepted_notes : (q : Ask) → (next c q).answer ≡ 0
        → on (next c q) x ≡ cond (eqb (lot_asked q) x) (cond (is_strike q) 0 (kilograms_asked q)) (on c x)
    accepted_notes (Enter l) e = entered_notes c.lines c.totals l x e
    accepted_notes (Strike lot) e = struck_notes c.lines c.totals lot x e

struck_noted : (qs : List Ask) (c : Changed) (w : ℕ → ℕ) → Noted c w → struck_from qs c ≡ struck_in qs c w
struck_noted [] c w i = refl
struck_noted (q ∷ qs) c w i =
    ap (λ (k : ℕ). cond (is_accepted c q && is_strike q) k 0 + struck_from qs (next c q)) (i (lot_asked q))
    ∙ ap (λ (k : ℕ). cond (is_accepted c q && is_strike q) (w (lot_asked q)) 0 + k)
    (struck_noted qs (next c q) (noted c q w) (next_noted c q w i))

struck_as_entered : (qs : List Ask) (roll : List Line) → struck_from qs (empty roll) ≡ struck_in qs (empty roll) no_notes
struck_as_entered qs roll = struck_noted qs (empty roll) no_notes (λ x. refl)

-- ---- from an empty roll

balanced_from_empty : (qs : List Ask) (roll : List Line)
    → kg (season qs (empty roll)) + struck_in qs (empty roll) no_notes ≡ 0 + entered_in qs (empty roll)
balanced_from_empty qs roll =
    ap (λ (k : ℕ). kg (season qs (empty roll)) + k) (sym (struck_as_entered qs roll)) ∙ season_balanced qs (empty roll)

pub kilograms_are : (qs : List Ask) (roll : List Line)
    → kg (season qs (empty roll)) ≡ entered_in qs (empty roll) - struck_in qs (empty roll) no_notes
kilograms_are qs roll = omega (arith, balanced_from_empty qs roll)

pub struck_within : (qs : List Ask) (roll : List Line) → struck_in qs (empty roll) no_notes ≤ entered_in qs (empty roll)
struck_within qs roll = omega (arith, balanced_from_empty qs roll)

-- ---- every roll on the way is sound

next_sound : (c : Changed) (q : Ask) → sound c.lines c.totals ≡ true → sound (next c q).lines (next c q).totals ≡ true
next_sound c q s =
    bcase (is_accepted c q) (λ a. accepted_sound c.lines c.totals q (eqb-true (next c q).answer 0 a))
    (λ r. subst (λ (d : Changed). sound d.lines d.totals ≡ true)
    (sym (refused_stays c.lines c.totals q (eqb-false (next c q).answer 0 r))) s)

pub season_sound : (qs : List Ask) (roll : List Line) → length roll ≤ most_lines
    → sound (season qs (empty roll)).lines (season qs (empty roll)).totals ≡ true
season_sound qs roll n = go qs (empty roll) (empty_sound roll n)
  where
    go : (qs : List Ask) (c : Changed) → sound c.lines c.totals ≡ true → sound (season qs c).lines (season qs c).totals ≡ true
    go [] c s = s
    go (q ∷ qs) c s = go qs (next c q) (next_sound c q s)
