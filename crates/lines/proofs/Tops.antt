-- The highest moisture that a look sees is that of the lines: of all of them, of the others, and of those with one more line merged in.
use Prim.Native.Nat.{ℕ, ◌+◌, ◌<◌, ◌≤◌}
use mathlib.Core.Path.{◌≡◌, refl, sym, ap, ◌∙◌, subst}
use mathlib.Core.Logic.{◌⊎◌, inl, inr}
use mathlib.Core.Option.{Option, none, some}
use mathlib.Core.Bool.{Bool, true, false, cond}
use mathlib.Core.List.{List, [], ◌∷◌}
use native.Mathlib.Omega.{arith}
use lib.Dec.{ltb, eqb}
use lib.Ieee.{lt}
use borrow.Author.Tests.{ltb-true, ltb-false, eqb-true, eqb-false, ne_eqb}
use Rattle.sheet.specs.Sheet.{finite}
use Rattle.std.specs.Prelude as Prelude
use Rattle.std.specs.Prelude.{None, Some}
use Rattle.roll.specs.declared.Line.{Line}
use Rattle.roll.specs.Rank.{rank}
use Rattle.roll.specs.Roll.{moisture_of, finite_readings, ordered_from, ordered, all_finite, has, better, best, highest, enters, strikes}
use Rattle.roll.specs.Plain.{Among}
use Rattle.std.proofs.lemmas.Bool.{and_parts}
use Rattle.roll.proofs.Tests.{bcase}
use Rattle.roll.proofs.Ranks.{lt_rank}
use Rattle.roll.proofs.Lines.{rest, enters_ordered, enters_finite, among_enters, enters_among}
use Rattle.roll.proofs.Highest.{r, moisture_finite, Top, top_is, is_top, highest_none}
use Rattle.lines.specs.declared.Seen.{Seen}
use Rattle.lines.specs.Look.{top_of, raised, merged, looked, nothing_seen, scanned, seen_in}
use Rattle.lines.specs.declared.Top as Seen_top

abbrev pub Mark : Type 0
Mark = Prelude.Option Seen_top.Top

-- the mark of the highest line, or of none
abbrev pub mark_of : Option Line → Mark
mark_of none = None
mark_of (some l) = Some (top_of l)

abbrev pub FiniteIn : Option Line → Type 0
FiniteIn none = Unit
FiniteIn (some l) = finite (moisture_of l) ≡ true

-- ---- one line more

raised_is : (b : Option Line) (l : Line) → FiniteIn b → finite (moisture_of l) ≡ true
    → Some (raised (mark_of b) (top_of l)) ≡ mark_of (better b l)
unfolding top_of better
raised_is none l f g = refl
raised_is (some b) l f g = bcase (lt (moisture_of b) (moisture_of l)) (λ t. rw (t, sym compares ∙ t)) (λ t. rw (t, sym compares ∙ t))
  where
    compares : lt (moisture_of b) (moisture_of l) ≡ ltb (rank b.moisture) (rank l.moisture)
    compares = lt_rank b.moisture l.moisture f g

better_finite : (b : Option Line) (l : Line) → FiniteIn b → finite (moisture_of l) ≡ true → FiniteIn (better b l)
unfolding better
better_finite none l f g = g
better_finite (some b) l f g = go (lt (moisture_of b) (moisture_of l))
  where
    go : (x : Bool) → FiniteIn (cond x (some l) (some b))
    go true = g
    go false = f

-- ---- all lines

sees_all : (ls : List Line) (lot : ℕ) (s : Seen) (b : Option Line) → s.all ≡ mark_of b → FiniteIn b → all_finite ls ≡ true
    → (scanned lot s ls).all ≡ mark_of (best b ls)
unfolding looked
sees_all [] lot s b e f a = e
sees_all (l ∷ ls) lot s b e f a =
    sees_all ls lot (looked lot s l) (better b l) (ap (λ (t : Mark). Some (raised t (top_of l))) e ∙ raised_is b l f g)
    (better_finite b l f g)
    (and_parts (finite_readings l) (all_finite ls) a).1
  where
    g : finite (moisture_of l) ≡ true
    g = moisture_finite l (and_parts (finite_readings l) (all_finite ls) a).0

pub all_is : (lot : ℕ) (ls : List Line) → all_finite ls ≡ true → (seen_in lot ls).all ≡ mark_of (highest ls)
all_is lot ls a = sees_all ls lot nothing_seen none refl tt a

-- ---- the others

the_lot : (lot : ℕ) (s : Seen) (l : Line) → eqb l.lot lot ≡ true → (looked lot s l).others ≡ s.others
unfolding looked
the_lot lot s l e = rw e

other : (lot : ℕ) (s : Seen) (l : Line) → eqb l.lot lot ≡ false → (looked lot s l).others ≡ Some (raised s.others (top_of l))
unfolding looked
other lot s l e = rw e

-- past the lot all lines are others
others_past : (ls : List Line) (lot k : ℕ) (s : Seen) (b : Option Line) → lot < k → ordered_from k ls ≡ true → s.others ≡ mark_of b
    → FiniteIn b → all_finite ls ≡ true → (scanned lot s ls).others ≡ mark_of (best b ls)
others_past [] lot k s b h o e f a = e
others_past (l ∷ ls) lot k s b h o e f a =
    let c = rest k l ls o in
    others_past ls lot (l.lot + 1) (looked lot s l) (better b l) (past h c.0) c.1
    (other lot s l (ne_eqb l.lot lot (λ x. differs h c.0 x)) ∙ ap (λ (t : Mark). Some (raised t (top_of l))) e ∙ raised_is b l f g)
    (better_finite b l f g) (and_parts (finite_readings l) (all_finite ls) a).1
  where
    g : finite (moisture_of l) ≡ true
    g = moisture_finite l (and_parts (finite_readings l) (all_finite ls) a).0

    past : lot < k → k ≤ l.lot → lot < l.lot + 1
    past x y = omega arith

    differs : lot < k → k ≤ l.lot → l.lot ≡ lot → ⊥
    differs x y z = omega arith

sees_others : (ls : List Line) (lot k : ℕ) (s : Seen) (b : Option Line) → ordered_from k ls ≡ true → s.others ≡ mark_of b → FiniteIn b
    → all_finite ls ≡ true → (scanned lot s ls).others ≡ mark_of (best b (strikes lot ls))
sees_others [] lot k s b o e f a = e
sees_others (l ∷ ls) lot k s b o e f a =
    let c = rest k l ls o in
    bcase (eqb l.lot lot)
    (λ t. others_past ls lot (l.lot + 1) (looked lot s l) b (here (eqb-true l.lot lot t)) c.1 (the_lot lot s l t ∙ e) f more
    ∙ ap (λ (x : Bool). mark_of (best b (cond x ls (l ∷ strikes lot ls)))) (sym t))
    (λ t. sees_others ls lot (l.lot + 1) (looked lot s l) (better b l) c.1
    (other lot s l t ∙ ap (λ (m : Mark). Some (raised m (top_of l))) e ∙ raised_is b l f g) (better_finite b l f g) more
    ∙ ap (λ (x : Bool). mark_of (best b (cond x ls (l ∷ strikes lot ls)))) (sym t))
  where
    g : finite (moisture_of l) ≡ true
    g = moisture_finite l (and_parts (finite_readings l) (all_finite ls) a).0

    more : all_finite ls ≡ true
    more = (and_parts (finite_readings l) (all_finite ls) a).1

    here : l.lot ≡ lot → lot < l.lot + 1
    here x = omega arith

pub others_are : (lot : ℕ) (ls : List Line) → ordered ls ≡ true → all_finite ls ≡ true
    → (seen_in lot ls).others ≡ mark_of (highest (strikes lot ls))
others_are lot ls o a = sees_others ls lot 0 nothing_seen none o refl tt a

-- ---- one more line merged in

-- where the ranks are equal the lower lot stands, else the higher rank
abbrev chosen : Line → Line → Line
chosen b l = cond (eqb (r b) (r l)) (cond (ltb l.lot b.lot) l b) (cond (ltb (r b) (r l)) l b)

merged_chosen : (b l : Line) → merged (Some (top_of b)) l ≡ top_of (chosen b l)
unfolding merged top_of
merged_chosen b l = go (eqb (r b) (r l)) (ltb l.lot b.lot) (ltb (r b) (r l))
  where
    go : (x y z : Bool) → cond x (cond y (top_of l) (top_of b)) (cond z (top_of l) (top_of b)) ≡ top_of (cond x (cond y l b) (cond z l b))
    go true true z = refl
    go true false z = refl
    go false y true = refl
    go false y false = refl

-- the line itself
line_top : (b l : Line) (ls : List Line) → Top (λ x. Among x ls) b → (r b < r l) ⊎ ((r b ≡ r l) × (l.lot < b.lot))
    → Top (λ x. (x ≡ l) ⊎ Among x ls) l
line_top b l ls t h = record {
  one_of = inl refl;
  none_higher = λ x p. elim p [ inl e ↦ subst (λ (y : Line). r y ≤ r l) (sym e) (self (r l)) | inr q ↦ under h (t.none_higher x q) ];
  lowest_lot = λ x p e. elim p [
    | inl i ↦ subst (λ (y : Line). l.lot ≤ y.lot) (sym i) (self l.lot)
    | inr q ↦ lower h (t.none_higher x q) e (t.lowest_lot x q)
  ];
}
  where
    self : (k : ℕ) → k ≤ k
    self k = omega arith

    under : {x : ℕ} → (r b < r l) ⊎ ((r b ≡ r l) × (l.lot < b.lot)) → x ≤ r b → x ≤ r l
    under (inl a) c = omega arith
    under (inr a) c = omega (arith, a.0)

    lower : {x m : ℕ} → (r b < r l) ⊎ ((r b ≡ r l) × (l.lot < b.lot)) → x ≤ r b → x ≡ r l → (x ≡ r b → b.lot ≤ m) → l.lot ≤ m
    lower (inl a) c e f = absurd (omega arith)
    lower (inr a) c e f = through a.1 (f (e ∙ sym a.0))
      where
        through : {x : ℕ} → l.lot < b.lot → b.lot ≤ x → l.lot ≤ x
        through x y = omega arith

-- or the highest before it
stays_top : (b l : Line) (ls : List Line) → Top (λ x. Among x ls) b → (r l < r b) ⊎ ((r b ≡ r l) × (b.lot ≤ l.lot))
    → Top (λ x. (x ≡ l) ⊎ Among x ls) b
stays_top b l ls t h = record {
  one_of = inr t.one_of;
  none_higher = λ x p. elim p [ inl e ↦ subst (λ (y : Line). r y ≤ r b) (sym e) (under h) | inr q ↦ t.none_higher x q ];
  lowest_lot = λ x p e. elim p [
    | inl i ↦ subst (λ (y : Line). b.lot ≤ y.lot) (sym i) (lower h (ap r (sym i) ∙ e))
    | inr q ↦ t.lowest_lot x q e
  ];
}
  where
    under : (r l < r b) ⊎ ((r b ≡ r l) × (b.lot ≤ l.lot)) → r l ≤ r b
    under (inl a) = omega arith
    under (inr a) = omega (arith, a.0)

    lower : (r l < r b) ⊎ ((r b ≡ r l) × (b.lot ≤ l.lot)) → r l ≡ r b → b.lot ≤ l.lot
    lower (inl a) e = absurd (omega arith)
    lower (inr a) e = a.1

chosen_top : (b l : Line) (ls : List Line) → Top (λ x. Among x ls) b → Top (λ x. (x ≡ l) ⊎ Among x ls) (chosen b l)
chosen_top b l ls t =
    bcase (eqb (r b) (r l))
    (λ e. rw e (bcase (ltb l.lot b.lot)
    (λ h. rw h (line_top b l ls t (inr (eqb-true (r b) (r l) e, ltb-true l.lot b.lot h))))
    (λ h. rw h (stays_top b l ls t (inr (eqb-true (r b) (r l) e, ltb-false l.lot b.lot h))))))
    (λ e. rw e (bcase (ltb (r b) (r l))
    (λ h. rw h (line_top b l ls t (inl (ltb-true (r b) (r l) h))))
    (λ h. rw h (stays_top b l ls t (inl (above (ltb-false (r b) (r l) h) (eqb-false (r b) (r l) e)))))))
  where
    above : r l ≤ r b → (r b ≡ r l → ⊥) → r l < r b
    above x y = omega (arith, y)

in_enters : (h l : Line) (ls : List Line) → Top (λ x. (x ≡ l) ⊎ Among x ls) h → Top (λ x. Among x (enters l ls)) h
in_enters h l ls t = record {
  one_of = enters_among l ls h t.one_of;
  none_higher = λ x p. t.none_higher x (among_enters l ls x p);
  lowest_lot = λ x p e. t.lowest_lot x (among_enters l ls x p) e;
}

-- of no line
merged_none : (l : Line) → merged None l ≡ top_of l
unfolding merged
merged_none l = refl

alone : (l : Line) (ls : List Line) → ls ≡ [] → highest (enters l ls) ≡ some l
unfolding better
alone l ls e = ap (λ (x : List Line). highest (enters l x)) e

pub merged_is : (l : Line) (ls : List Line) → ordered ls ≡ true → all_finite ls ≡ true → finite_readings l ≡ true → has l.lot ls ≡ false
    → Some (merged (mark_of (highest ls)) l) ≡ mark_of (highest (enters l ls))
merged_is l ls o a f h = go (highest ls) refl
  where
    low : 0 ≤ l.lot
    low = omega arith

    among : (g : Line) → Top (λ x. (x ≡ l) ⊎ Among x ls) g → highest (enters l ls) ≡ some g
    among g t = is_top (enters l ls) g (enters_ordered l 0 ls low o h) (enters_finite l ls f a) (in_enters g l ls t)

    go : (b : Option Line) → highest ls ≡ b → Some (merged (mark_of b) l) ≡ mark_of (highest (enters l ls))
    go none e = ap Some (merged_none l) ∙ ap mark_of (sym (alone l ls ((highest_none ls).0 e)))
    go (some b) e =
        ap Some (merged_chosen b l) ∙ ap mark_of (sym (among (chosen b l) (chosen_top b l ls (top_is ls b o a e))))
