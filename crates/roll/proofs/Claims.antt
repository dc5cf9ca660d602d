-- What this crate promises holds.
use Prim.Native.Nat.{ℕ, suc, ◌+◌, ◌-◌, ◌<◌, ◌≤◌}
use mathlib.Core.Path.{◌≡◌, refl, sym, ap, ◌∙◌, subst}
use mathlib.Core.Logic.{inl}
use mathlib.Core.Bool.{Bool, true, false, cond, not}
use mathlib.Core.List.{List, [], ◌∷◌, ◌++◌}
use native.Mathlib.Omega.{arith}
use lib.ListN.{length, drop, length-append, length-drop}
use lib.Dec.{leb, eqb}
use lib.Seq.{length-take-le, take-append_seam}
use borrow.Author.Tests.{le-leb, lt-leb, eqb-true, eqb-false}
use Rattle.lot.specs.Declaration.{declaration_at}
use Rattle.sheet.specs.Kept.{judged}
use Rattle.sheet.proofs.Claims as sheets
use Rattle.roll.specs.declared.Line.{Line}
use Rattle.roll.specs.declared.Totals.{Totals}
use Rattle.roll.specs.declared.Ask.{Ask}
use Rattle.roll.specs.declared.Ask.TheVariants.{Enter, Strike}
use Rattle.roll.specs.Roll.{line_of, finite_readings, has, totals_of, in_use, sound, enters, strikes, zero_line, Changed, accepted}
use Rattle.roll.specs.Roll.{refused, entered, struck, changed}
use Rattle.roll.specs.Plain.{Among, Finite, There, Sound}
use Rattle.roll.specs.Season.{empty, season}
use Rattle.roll.specs.Claims.{used_in, Entering, Striking, Entered, Struck, Claims}
use Rattle.std.proofs.lemmas.Bool.{false_from_ne_true}
use Rattle.roll.proofs.Tests.{bcase}
use Rattle.roll.proofs.Ranks.{lt_rank}
use Rattle.roll.proofs.Lines.{length_enters, strikes_length, take_within, weight_enters, among_enters, enters_among}
use Rattle.roll.proofs.Lines.{among_strikes, strikes_among}
use Rattle.roll.proofs.Sound.{Parts, same_are, entered_parts, struck_parts, refused_stays, entered_sound, accepted_sound}
use Rattle.roll.proofs.Plain.{both, finite_both, has_there, there_has, sound_exactly}
use Rattle.roll.proofs.Highest.{highest_exactly, highest_none}
use Rattle.roll.proofs.Cases.{cases}
use Rattle.roll.proofs.Season.{season_sound, kilograms_are, struck_within}

-- ---- each answer

module _ (roll : List Line) (t : Totals) where
  used : List Line
  used = in_use roll t

  is_sound : Sound roll t → sound roll t ≡ true
  is_sound s = (sound_exactly roll t).1 s

  unsound : (Sound roll t → ⊥) → sound roll t ≡ false
  unsound f = false_from_ne_true (sound roll t) (λ e. f ((sound_exactly roll t).0 e))

  is_new : (lot : ℕ) → (There lot (in_use roll t) → ⊥) → has lot (in_use roll t) ≡ false
  is_new lot f = false_from_ne_true (has lot (in_use roll t)) (λ e. f (has_there lot (in_use roll t) e))

  entering : (l : Line) → Entering roll t l
  unfolding entered
  entering l = record {
    not_sound = λ s. rw (unsound s);
    not_finite = λ s f. rw (is_sound s, rough f);
    already_there = λ s f h. rw (is_sound s, finite_both l f, there_has l.lot (in_use roll t) h);
    none_free = λ s f h e. rw (is_sound s, finite_both l f, is_new l.lot h, le-leb (length roll) t.lines (omega (arith, e)));
    accepted = λ s f h e. rw (is_sound s, finite_both l f, is_new l.lot h, lt-leb (length roll) t.lines e);
  }
    where
      rough : (Finite l → ⊥) → finite_readings l ≡ false
      rough f = false_from_ne_true (finite_readings l) (λ e. f (both l e))

  striking : (lot : ℕ) → Striking roll t lot
  unfolding struck
  striking lot = record {
    not_sound = λ s. rw (unsound s);
    not_there = λ s h. rw (is_sound s, is_new lot h);
    accepted = λ s h. rw (is_sound s, there_has lot (in_use roll t) h);
  }

-- ---- what an accepted call leaves

free_of : (used free : List Line) → drop (length used) (used ++ free) ≡ free
free_of [] free = refl
free_of (l ∷ ls) free = free_of ls free

-- as many lines as the totals say
count_is : (roll : List Line) (t : Totals) → Parts roll t → t.lines ≡ length (in_use roll t)
count_is roll t p = ap (λ (u : Totals). u.lines) (same_are t (totals_of (in_use roll t)) p.those)

used_of : (used free : List Line) → used_in (accepted used free) ≡ used
used_of used free = take-append_seam used free

entered_leaves : (roll : List Line) (t : Totals) (l : Line) → (entered roll t l).answer ≡ 0 → Entered roll t l (entered roll t l)
entered_leaves roll t l e =
    let p = entered_parts roll t l e in
    subst (Entered roll t l) (sym p.gives) (record {
      lines = λ x. (
        λ a. among_enters l used x (subst (Among x) (used_of now free) a),
        λ a. subst (Among x) (sym (used_of now free)) (enters_among l used x a),
      );
      free = free_of now free;
      kilograms =
          weight_enters l used
          ∙ ap (λ (k : ℕ). k + l.kilograms) (sym (ap (λ (u : Totals). u.kilograms) (same_are t (totals_of used) p.was_sound.those)));
      count = length_enters l used ∙ one (sym (count_is roll t p.was_sound));
    })
  where
    used : List Line
    used = in_use roll t

    now : List Line
    now = enters l (in_use roll t)

    free : List Line
    free = drop (t.lines + 1) roll

    one : {k : ℕ} → k ≡ t.lines → suc k ≡ t.lines + 1
    one h = omega arith

struck_leaves : (roll : List Line) (t : Totals) (lot : ℕ) → (struck roll t lot).answer ≡ 0 → Struck roll t lot (struck roll t lot)
struck_leaves roll t lot e =
    let p = struck_parts roll t lot e in
    subst (Struck roll t lot) (sym p.gives) (record {
      lines = λ x. (
        λ a. among_strikes lot 0 used p.was_sound.in_order x (subst (Among x) (used_of now free) a),
        λ a. subst (Among x) (sym (used_of now free)) (strikes_among lot used x a.0 a.1),
      );
      free = free_of now free;
      count = one (length now) (strikes_length lot used p.on_roll) (count_is roll t p.was_sound);
    })
  where
    used : List Line
    used = in_use roll t

    now : List Line
    now = strikes lot (in_use roll t)

    free : List Line
    free = zero_line ∷ drop t.lines roll

    one : (k : ℕ) {u : ℕ} → suc k ≡ u → t.lines ≡ u → k + 1 ≡ t.lines
    one k a b = omega arith

-- ---- a roll of as many lines

abbrev AsLong : List Line → Changed → Type 0
AsLong roll c = length c.lines ≡ length roll

entered_long : (roll : List Line) (t : Totals) (l : Line) → (entered roll t l).answer ≡ 0 → AsLong roll (entered roll t l)
entered_long roll t l e =
    let p = entered_parts roll t l e in
    subst (AsLong roll) (sym p.gives) (length-append (enters l (in_use roll t)) (drop (t.lines + 1) roll)
    ∙ sum (length_enters l (in_use roll t)) (length-take-le t.lines roll (under p.line_free)) (length-drop (t.lines + 1) roll)
    p.line_free)
  where
    under : t.lines < length roll → t.lines ≤ length roll
    under h = omega arith

    sum : {a b c : ℕ} → a ≡ suc b → b ≡ t.lines → c ≡ length roll - (t.lines + 1) → t.lines < length roll → a + c ≡ length roll
    sum a b c d = omega arith

struck_long : (roll : List Line) (t : Totals) (lot : ℕ) → (struck roll t lot).answer ≡ 0 → AsLong roll (struck roll t lot)
struck_long roll t lot e =
    let p = struck_parts roll t lot e in
    subst (AsLong roll) (sym p.gives) (length-append (strikes lot (in_use roll t)) (zero_line ∷ drop t.lines roll)
    ∙ sum (strikes_length lot (in_use roll t) p.on_roll) (count_is roll t p.was_sound) (length-drop t.lines roll)
    (take_within t.lines roll))
  where
    sum : {a b c : ℕ} → suc a ≡ b → t.lines ≡ b → c ≡ length roll - t.lines → b ≤ length roll → a + suc c ≡ length roll
    sum a b c d = omega arith

as_long : (roll : List Line) (t : Totals) (q : Ask) → AsLong roll (changed roll t q)
unfolding changed
as_long roll t q =
    bcase (eqb (changed roll t q).answer 0) (λ a. accepted_long q (eqb-true (changed roll t q).answer 0 a))
    (λ r. ap (λ (c : Changed). length c.lines) (refused_stays roll t q (eqb-false (changed roll t q).answer 0 r)))
  where
    accepted_long : (q : Ask) → (changed roll t q).answer ≡ 0 → AsLong roll (changed roll t q)
    accepted_long (Enter l) e = entered_long roll t l e
    accepted_long (Strike lot) e = struck_long roll t lot e

-- ---- a sound roll is not answered 20

entered_not_20 : (roll : List Line) (t : Totals) (l : Line) → sound roll t ≡ true → (entered roll t l).answer ≡ 20 → ⊥
unfolding entered
entered_not_20 roll t l s = rw s (go (finite_readings l) (has l.lot (in_use roll t)) (leb (length roll) t.lines))
  where
    go : (f h n : Bool)
        → (cond (not f) (refused 21 roll t) (cond h (refused 22 roll t) (cond n (refused 23 roll t)
        (accepted (enters l (in_use roll t)) (drop (t.lines + 1) roll))))).answer ≡ 20 → ⊥
    go false h n e = omega arith
    go true true n e = omega arith
    go true false true e = omega arith
    go true false false e = omega arith

struck_not_20 : (roll : List Line) (t : Totals) (lot : ℕ) → sound roll t ≡ true → (struck roll t lot).answer ≡ 20 → ⊥
unfolding struck
struck_not_20 roll t lot s = rw s (go (has lot (in_use roll t)))
  where
    go : (h : Bool)
        → (cond (not h) (refused 24 roll t) (accepted (strikes lot (in_use roll t)) (zero_line ∷ drop t.lines roll))).answer ≡ 20 → ⊥
    go false e = omega arith
    go true e = omega arith

not_20 : (roll : List Line) (t : Totals) (q : Ask) → sound roll t ≡ true → (changed roll t q).answer ≡ 20 → ⊥
unfolding changed
not_20 roll t (Enter l) s e = entered_not_20 roll t l s e
not_20 roll t (Strike lot) s e = struck_not_20 roll t lot s e

-- ---- a line entered again

again : (roll : List Line) (t : Totals) (l : Line) → (entered roll t l).answer ≡ 0
    → (entered (entered roll t l).lines (entered roll t l).totals l).answer ≡ 22
again roll t l e =
    let p = entered_parts roll t l e in
    (entering (entered roll t l).lines (entered roll t l).totals l).already_there
    ((sound_exactly _ _).0 (entered_sound roll t l e)) (both l p.finite_line)
    (record { line = l; among = ((entered_leaves roll t l e).lines l).1 (inl refl); its_lot = refl })

-- ---- a declaration that is plausible

judged_finite : (sheet d : List ℕ) → judged sheet d ≡ 0 → Finite (line_of (declaration_at d 0))
judged_finite sheet d e =
    let p = (((sheets.claims).judged_exactly sheet d).0 e).1 in
    record { moisture = p.moisture_measurable.is_finite; conductivity = p.conductivity_measurable.is_finite }

finite_not_21 : (roll : List Line) (t : Totals) (l : Line) → finite_readings l ≡ true → (entered roll t l).answer ≡ 21 → ⊥
unfolding entered
finite_not_21 roll t l f = rw f (go (sound roll t) (has l.lot (in_use roll t)) (leb (length roll) t.lines))
  where
    go : (s h n : Bool)
        → (cond (not s) (refused 20 roll t) (cond h (refused 22 roll t) (cond n (refused 23 roll t)
        (accepted (enters l (in_use roll t)) (drop (t.lines + 1) roll))))).answer ≡ 21 → ⊥
    go false h n e = omega arith
    go true true n e = omega arith
    go true false true e = omega arith
    go true false false e = omega arith

-- ---- all

pub claims : Claims
claims =
    record {
      sound_exactly = sound_exactly;
      highest_exactly = highest_exactly;
      highest_none = highest_none;
      ranks = lt_rank;
      entering = entering;
      striking = striking;
      silent = refused_stays;
      entered_leaves = entered_leaves;
      struck_leaves = struck_leaves;
      as_long = as_long;
      stays_sound = accepted_sound;
      season_sound = season_sound;
      never_20 = λ qs roll q n e.
          not_20 (season qs (empty roll)).lines (season qs (empty roll)).totals q (season_sound qs roll n) e;
      again = again;
      judged_finite = judged_finite;
      never_21 = λ roll t l f h. finite_not_21 roll t l (finite_both l f) h;
      kilograms = kilograms_are;
      struck_within = struck_within;
      cases = cases;
      settled = λ c r r' ls ls' t t' p q.
          let e = p ∙ sym q in
          (ap (λ (d : Changed). d.answer) e, ap (λ (d : Changed). d.lines) e, ap (λ (d : Changed). d.totals) e);
    }
