-- A roll and totals: when they are sound, what an accepted call rests on and leaves, and that a refused one leaves both as they were.
use Prim.Native.Nat.{ℕ, suc, ◌+◌, ◌-◌, ◌<◌, ◌≤◌}
use mathlib.Core.Path.{◌≡◌, refl, sym, ap, ◌∙◌, subst}
use mathlib.Core.Logic.{◌⊎◌, inl, inr}
use mathlib.Core.Bool.{Bool, true, false, ◌&&◌}
use mathlib.Core.List.{List, [], ◌∷◌, ◌++◌}
use native.Mathlib.Omega.{arith}
use lib.ListN.{length, drop, length-append, length-drop}
use lib.Dec.{leb, eqb}
use lib.Seq.{length-take-le, take-append_seam}
use borrow.Author.Tests.{leb-true, leb-false, eqb-true, le-leb, eq-eqb}
use Rattle.roll.specs.declared.Line.{Line}
use Rattle.roll.specs.declared.Totals.{Totals}
use Rattle.roll.specs.declared.Ask.{Ask}
use Rattle.roll.specs.declared.Ask.TheVariants.{Enter, Strike}
use Rattle.roll.specs.Roll.{finite_readings, ordered, all_finite, has, totals_of, no_totals, same_totals, most_lines, in_use, sound}
use Rattle.roll.specs.Roll.{enters, strikes, zero_line, Changed, refused, accepted, entered, struck, changed}
use Rattle.std.proofs.lemmas.Bool.{and_parts}
use Rattle.roll.proofs.Tests.{bcase}
use Rattle.roll.proofs.Lines.{enters_ordered, strikes_ordered, enters_finite, strikes_finite, length_enters, strikes_length}
use Rattle.roll.proofs.Lines.{take_within}

-- ---- totals that are the same

same_self : (t : Totals) → same_totals t t ≡ true
unfolding same_totals
same_self t =
    rw (
      eq-eqb t.kilograms t.kilograms refl,
      eq-eqb t.lines t.lines refl,
      eq-eqb t.moisture t.moisture refl,
      eq-eqb t.measured t.measured refl,
    )

pub same_are : (t u : Totals) → same_totals t u ≡ true → t ≡ u
unfolding same_totals
same_are t u e =
    λ i. record {
      kilograms = eqb-true t.kilograms u.kilograms (and_parts a (b && (c && d)) e).0 i;
      lines = eqb-true t.lines u.lines (and_parts b (c && d) (and_parts a (b && (c && d)) e).1).0 i;
      moisture = eqb-true t.moisture u.moisture (and_parts c d (and_parts b (c && d) (and_parts a (b && (c && d)) e).1).1).0 i;
      measured = eqb-true t.measured u.measured (and_parts c d (and_parts b (c && d) (and_parts a (b && (c && d)) e).1).1).1 i;
    }
  where
    a : Bool
    a = eqb t.kilograms u.kilograms

    b : Bool
    b = eqb t.lines u.lines

    c : Bool
    c = eqb t.moisture u.moisture

    d : Bool
    d = eqb t.measured u.measured

pub are_same : (t u : Totals) → t ≡ u → same_totals t u ≡ true
are_same t u e = subst (λ (v : Totals). same_totals t v ≡ true) e (same_self t)

-- ---- a sound roll

-- its parts
pub record Parts (roll : List Line) (t : Totals) : Type 0 where
  pub short : leb (length roll) most_lines ≡ true
  pub in_order : ordered (in_use roll t) ≡ true
  pub all_finite_lem : all_finite (in_use roll t) ≡ true
  pub those : same_totals t (totals_of (in_use roll t)) ≡ true

pub parts : (roll : List Line) (t : Totals) → sound roll t ≡ true → Parts roll t
unfolding sound
parts roll t e = record {
  short = (and_parts a (b && (c && d)) e).0;
  in_order = (and_parts b (c && d) (and_parts a (b && (c && d)) e).1).0;
  all_finite_lem = (and_parts c d (and_parts b (c && d) (and_parts a (b && (c && d)) e).1).1).0;
  those = (and_parts c d (and_parts b (c && d) (and_parts a (b && (c && d)) e).1).1).1;
}
  where
    a : Bool
    a = leb (length roll) most_lines

    b : Bool
    b = ordered (in_use roll t)

    c : Bool
    c = all_finite (in_use roll t)

    d : Bool
    d = same_totals t (totals_of (in_use roll t))

-- lines that are ordered and finite, with the free ones after them, and their totals
pub sound_of : (used free : List Line) → length used + length free ≤ most_lines → ordered used ≡ true → all_finite used ≡ true
    → sound (used ++ free) (totals_of used) ≡ true
unfolding sound
sound_of used free n o a =
    rw (
      le-leb (length (used ++ free)) most_lines (subst (λ (k : ℕ). k ≤ most_lines) (sym (length-append used free)) n),
      take-append_seam used free,
      o,
      a,
      same_self (totals_of used),
    )

-- the empty roll
pub empty_sound : (roll : List Line) → length roll ≤ most_lines → sound roll no_totals ≡ true
empty_sound roll n = sound_of [] roll (first n) refl refl
  where
    first : {k : ℕ} → k ≤ most_lines → 0 + k ≤ most_lines
    first h = omega arith

-- ---- a call

-- what an accepted one rests on
pub record Enters (roll : List Line) (t : Totals) (l : Line) (c : Changed) : Type 0 where
  pub was_sound : Parts roll t
  pub finite_line : finite_readings l ≡ true
  pub new_lot : has l.lot (in_use roll t) ≡ false
  pub line_free : t.lines < length roll
  pub gives : c ≡ accepted (enters l (in_use roll t)) (drop (t.lines + 1) roll)

pub record Strikes (roll : List Line) (t : Totals) (lot : ℕ) (c : Changed) : Type 0 where
  pub was_sound : Parts roll t
  pub on_roll : has lot (in_use roll t) ≡ true
  pub gives : c ≡ accepted (strikes lot (in_use roll t)) (zero_line ∷ drop t.lines roll)

-- it is accepted on these grounds, or refused with a number above zero, changing neither
abbrev Refused : List Line → Totals → Changed → Type 0
Refused roll t c = (k : ℕ) × (c ≡ refused (suc k) roll t)

entered_either : (roll : List Line) (t : Totals) (l : Line) → Enters roll t l (entered roll t l) ⊎ Refused roll t (entered roll t l)
unfolding entered
entered_either roll t l =
    bcase (sound roll t)
    (λ s. bcase (finite_readings l)
    (λ f. bcase (has l.lot (in_use roll t)) (λ h. inr (21, rw (s, f, h)))
    (λ h. bcase (leb (length roll) t.lines) (λ n. inr (22, rw (s, f, h, n)))
    (λ n. inl (record {
      was_sound = parts roll t s;
      finite_line = f;
      new_lot = h;
      line_free = leb-false (length roll) t.lines n;
      gives = rw (s, f, h, n);
    }))))
    (λ f. inr (20, rw (s, f))))
    (λ s. inr (19, rw s))

struck_either : (roll : List Line) (t : Totals) (lot : ℕ) → Strikes roll t lot (struck roll t lot) ⊎ Refused roll t (struck roll t lot)
unfolding struck
struck_either roll t lot =
    bcase (sound roll t)
    (λ s. bcase (has lot (in_use roll t)) (λ h. inl (record { was_sound = parts roll t s; on_roll = h; gives = rw (s, h) }))
    (λ h. inr (23, rw (s, h))))
    (λ s. inr (19, rw s))

not_zero : (roll : List Line) (t : Totals) (c : Changed) → Refused roll t c → c.answer ≡ 0 → ⊥
not_zero roll t c (k, r) e = above (sym (ap (λ (d : Changed). d.answer) r) ∙ e)
  where
    above : {k : ℕ} → suc k ≡ 0 → ⊥
    above h = omega arith

pub entered_parts : (roll : List Line) (t : Totals) (l : Line) → (entered roll t l).answer ≡ 0 → Enters roll t l (entered roll t l)
entered_parts roll t l e = elim (entered_either roll t l) [ inl p ↦ p | inr r ↦ absurd (not_zero roll t (entered roll t l) r e) ]

pub struck_parts : (roll : List Line) (t : Totals) (lot : ℕ) → (struck roll t lot).answer ≡ 0 → Strikes roll t lot (struck roll t lot)
struck_parts roll t lot e = elim (struck_either roll t lot) [ inl p ↦ p | inr r ↦ absurd (not_zero roll t (struck roll t lot) r e) ]

-- refused, changing neither
abbrev Stays : List Line → Totals → Changed → Type 0
Stays roll t c = c ≡ refused c.answer roll t

stays : (roll : List Line) (t : Totals) (c : Changed) → Refused roll t c → Stays roll t c
stays roll t c (k, r) = r ∙ ap (λ (n : ℕ). refused n roll t) (sym (ap (λ (d : Changed). d.answer) r))

pub refused_stays : (roll : List Line) (t : Totals) (q : Ask) → ((changed roll t q).answer ≡ 0 → ⊥) → Stays roll t (changed roll t q)
unfolding changed
refused_stays roll t (Enter l) d =
    elim (entered_either roll t l)
    [ inl p ↦ absurd (d (ap (λ (c : Changed). c.answer) p.gives)) | inr r ↦ stays roll t (entered roll t l) r ]
refused_stays roll t (Strike lot) d =
    elim (struck_either roll t lot)
    [ inl p ↦ absurd (d (ap (λ (c : Changed). c.answer) p.gives)) | inr r ↦ stays roll t (struck roll t lot) r ]

-- an accepted call leaves a sound roll
abbrev After : Changed → Type 0
After c = sound c.lines c.totals ≡ true

pub entered_sound : (roll : List Line) (t : Totals) (l : Line) → (entered roll t l).answer ≡ 0 → After (entered roll t l)
entered_sound roll t l e =
    let p = entered_parts roll t l e in
    subst After (sym p.gives) (sound_of (enters l (in_use roll t)) (drop (t.lines + 1) roll)
    (fits (length_enters l (in_use roll t)) (length-take-le t.lines roll (under p.line_free)) (length-drop (t.lines + 1) roll)
    p.line_free (leb-true (length roll) most_lines p.was_sound.short))
    (enters_ordered l 0 (in_use roll t) (none l.lot) p.was_sound.in_order p.new_lot)
    (enters_finite l (in_use roll t) p.finite_line p.was_sound.all_finite_lem))
  where
    none : (k : ℕ) → 0 ≤ k
    none k = omega arith

    under : t.lines < length roll → t.lines ≤ length roll
    under h = omega arith

    fits : {a b c : ℕ} → a ≡ suc b → b ≡ t.lines → c ≡ length roll - (t.lines + 1) → t.lines < length roll → length roll ≤ most_lines
        → a + c ≤ most_lines
    fits a b c d e = omega arith

pub struck_sound : (roll : List Line) (t : Totals) (lot : ℕ) → (struck roll t lot).answer ≡ 0 → After (struck roll t lot)
struck_sound roll t lot e =
    let p = struck_parts roll t lot e in
    subst After (sym p.gives) (sound_of (strikes lot (in_use roll t)) (zero_line ∷ drop t.lines roll)
    (fits (strikes_length lot (in_use roll t) p.on_roll)
    (ap (λ (u : Totals). u.lines) (same_are t (totals_of (in_use roll t)) p.was_sound.those)) (length-drop t.lines roll)
    (take_within t.lines roll) (leb-true (length roll) most_lines p.was_sound.short))
    (strikes_ordered lot 0 (in_use roll t) p.was_sound.in_order) (strikes_finite lot (in_use roll t) p.was_sound.all_finite_lem))
  where
    fits : {a b c : ℕ} → suc a ≡ b → t.lines ≡ b → c ≡ length roll - t.lines → b ≤ length roll → length roll ≤ most_lines
        → a + suc c ≤ most_lines
    fits a b c d e = omega arith

pub accepted_sound : (roll : List Line) (t : Totals) (q : Ask) → (changed roll t q).answer ≡ 0 → After (changed roll t q)
unfolding changed
accepted_sound roll t (Enter l) e = entered_sound roll t l e
accepted_sound roll t (Strike lot) e = struck_sound roll t lot e
