-- `highest` is the highest: one of the lines, none higher, and among equal moistures the lowest lot's; and there is no other such line.
use Prim.Native.Nat.{ℕ, ◌+◌, ◌<◌, ◌≤◌}
use mathlib.Core.Path.{◌≡◌, refl, sym, ap, ◌∙◌, subst}
use mathlib.Core.Logic.{◌⊎◌, ◌↔◌, inl, inr}
use mathlib.Core.Option.{Option, none, some}
use mathlib.Core.Bool.{Bool, true, false, cond, true≢false}
use mathlib.Core.List.{List, [], ◌∷◌}
use native.Mathlib.Omega.{arith}
use lib.Dec.{ltb}
use lib.Ieee.{binary32, of_bits, lt, eq}
use borrow.Author.Tests.{ltb-true, ltb-false, le-ltb}
use Rattle.sheet.specs.Sheet.{finite}
use Rattle.roll.specs.declared.Line.{Line}
use Rattle.roll.specs.Rank.{rank}
use Rattle.roll.specs.Roll.{moisture_of, finite_readings, ordered_from, ordered, all_finite, better, best, highest}
use Rattle.roll.specs.Plain.{Among, Highest}
use Rattle.std.proofs.lemmas.Bool.{and_parts}
use Rattle.roll.proofs.Tests.{bcase}
use Rattle.roll.proofs.Ranks.{lt_rank, equal_not_below, neither_is_equal}
use Rattle.roll.proofs.Lines.{Rest, rest, same_lot}

-- a line's rank
abbrev pub r : Line → ℕ
r l = rank l.moisture

pub moisture_finite : (l : Line) → finite_readings l ≡ true → finite (moisture_of l) ≡ true
unfolding finite_readings
moisture_finite l e = (and_parts (finite (moisture_of l)) (finite (of_bits binary32 l.conductivity)) e).0

pub among_finite : (ls : List Line) → all_finite ls ≡ true → (x : Line) → Among x ls → finite (moisture_of x) ≡ true
among_finite [] a x x4 = elim x4 [ ]
among_finite (l ∷ ls) a x (inl e) =
    subst (λ (m : Line). finite (moisture_of m) ≡ true) (sym e) (moisture_finite l (and_parts (finite_readings l) (all_finite ls) a).0)
among_finite (l ∷ ls) a x (inr p) = among_finite ls (and_parts (finite_readings l) (all_finite ls) a).1 x p

-- ---- the highest by rank

-- among the lines of which P speaks
pub record Top (P : Line → Type 0) (h : Line) : Type 0 where
  pub one_of : P h
  pub none_higher : (l : Line) → P l → r l ≤ r h
  pub lowest_lot : (l : Line) → P l → r l ≡ r h → h.lot ≤ l.lot

-- two such of an ordered roll are the same
pub one_top : (ls : List Line) → ordered ls ≡ true → (g h : Line) → Top (λ x. Among x ls) g → Top (λ x. Among x ls) h → g ≡ h
one_top ls o g h s t =
    let e : r h ≡ r g = omega (arith, s.none_higher h t.one_of, t.none_higher g s.one_of) in
    same_lot 0 ls o g h s.one_of t.one_of
    (omega (arith, s.lowest_lot h t.one_of e, t.lowest_lot g s.one_of (sym e)))

-- it is the highest by float comparison, and back
module _ (ls : List Line) (a : all_finite ls ≡ true) (h : Line) where
  compares : (x y : Line) → Among x ls → Among y ls → lt (moisture_of x) (moisture_of y) ≡ ltb (r x) (r y)
  compares x y p q = lt_rank x.moisture y.moisture (among_finite ls a x p) (among_finite ls a y q)

  pub top_highest : Top (λ x. Among x ls) h → Highest ls h
  top_highest t = record {
    one_of = t.one_of;
    none_higher = λ l p. compares h l t.one_of p ∙ le-ltb (r h) (r l) (t.none_higher l p);
    lowest_lot = λ l p e. t.lowest_lot l p (level (t.none_higher l p) (not_above l p e));
  }
    where
      not_above : (l : Line) → Among l ls → eq (moisture_of h) (moisture_of l) ≡ true → r h ≤ r l
      not_above l p e =
          ltb-false (r l) (r h) (sym (compares l h p t.one_of)
          ∙ equal_not_below (moisture_of h) (moisture_of l) (among_finite ls a h t.one_of) (among_finite ls a l p) e)

      level : {x y : ℕ} → x ≤ y → y ≤ x → x ≡ y
      level x y = omega arith

  pub highest_top : Highest ls h → Top (λ x. Among x ls) h
  highest_top t = record {
    one_of = t.one_of;
    none_higher = λ l p. below l p;
    lowest_lot = λ l p e. t.lowest_lot l p (equal l p e);
  }
    where
      below : (l : Line) → Among l ls → r l ≤ r h
      below l p = ltb-false (r h) (r l) (sym (compares h l t.one_of p) ∙ t.none_higher l p)

      equal : (l : Line) → Among l ls → r l ≡ r h → eq (moisture_of h) (moisture_of l) ≡ true
      equal l p e =
          neither_is_equal (moisture_of h) (moisture_of l) (among_finite ls a h t.one_of) (among_finite ls a l p) (t.none_higher l p)
          (compares l h p t.one_of ∙ le-ltb (r l) (r h) (same e))
        where
          same : {x y : ℕ} → x ≡ y → y ≤ x
          same x = omega arith

-- ---- `best` is the highest by rank

-- the lines met so far: below the next lot, and finite
abbrev Met : ℕ → (Line → Type 0) → Type 0
Met k P = (x : Line) → P x → (x.lot < k) × (finite (moisture_of x) ≡ true)

abbrev with : (Line → Type 0) → Line → Line → Type 0
with P l x = P x ⊎ (x ≡ l)

met_more : (P : Line → Type 0) (k : ℕ) (l : Line) → Met k P → k ≤ l.lot → finite (moisture_of l) ≡ true → Met (l.lot + 1) (with P l)
met_more P k l met a f x (inl i) = (below (met x i).0 a, (met x i).1)
  where
    below : {m : ℕ} → m < k → k ≤ l.lot → m < l.lot + 1
    below x y = omega arith
met_more P k l met a f x (inr i) = subst (λ (y : Line). (y.lot < l.lot + 1) × (finite (moisture_of y) ≡ true)) (sym i) (omega arith, f)

-- the highest stays, or the next line takes its place
stays : (P : Line → Type 0) (k : ℕ) (b l : Line) → Met k P → Top P b → k ≤ l.lot → r l ≤ r b → Top (with P l) b
stays P k b l met h a e = record {
  one_of = inl h.one_of;
  none_higher = λ x p. elim p [ inl i ↦ h.none_higher x i | inr i ↦ subst (λ (y : Line). r y ≤ r b) (sym i) e ];
  lowest_lot = λ x p q. elim p [
    | inl i ↦ h.lowest_lot x i q
    | inr i ↦ subst (λ (y : Line). b.lot ≤ y.lot) (sym i) (lower (met b h.one_of).0 a)
  ];
}
  where
    lower : {m : ℕ} → m < k → k ≤ l.lot → m ≤ l.lot
    lower x y = omega arith

rises : (P : Line → Type 0) (b l : Line) → Top P b → r b < r l → Top (with P l) l
rises P b l h e = record {
  one_of = inr refl;
  none_higher = λ x p. elim p [ inl i ↦ under (h.none_higher x i) e | inr i ↦ subst (λ (y : Line). r y ≤ r l) (sym i) (self (r l)) ];
  lowest_lot = λ x p q. elim p [
    | inl i ↦ absurd (apart (h.none_higher x i) e q)
    | inr i ↦ subst (λ (y : Line). l.lot ≤ y.lot) (sym i) (self l.lot)
  ];
}
  where
    self : (k : ℕ) → k ≤ k
    self k = omega arith

    under : {x : ℕ} → x ≤ r b → r b < r l → x ≤ r l
    under x y = omega arith

    apart : {x : ℕ} → x ≤ r b → r b < r l → x ≡ r l → ⊥
    apart x y z = omega arith

-- the set of lines, written another way
moved : (P Q : Line → Type 0) (h : Line) → ((x : Line) → P x → Q x) → ((x : Line) → Q x → P x) → Top P h → Top Q h
moved P Q h f g t = record {
  one_of = f h t.one_of;
  none_higher = λ x q. t.none_higher x (g x q);
  lowest_lot = λ x q e. t.lowest_lot x (g x q) e;
}

abbrev Best : (Line → Type 0) → Line → List Line → Type 0
Best P b ls = (h : Line) × ((best (some b) ls ≡ some h) × Top (λ x. P x ⊎ Among x ls) h)

better_is : (b l : Line) (x : Bool) → lt (moisture_of b) (moisture_of l) ≡ x → better (some b) l ≡ some (cond x l b)
unfolding better
better_is b l true e = rw e
better_is b l false e = rw e

best_is : (ls : List Line) (P : Line → Type 0) (b : Line) (k : ℕ) → Met k P → Top P b → ordered_from k ls ≡ true → all_finite ls ≡ true
    → Best P b ls
best_is [] P b k met h o a = (
  b,
  (refl, moved P (λ x. P x ⊎ Among x []) b (λ x p. inl p) (λ x p. elim p [ inl i ↦ i | inr i ↦ absurd i ]) h),
)
best_is (l ∷ ls) P b k met h o a =
    bcase (lt (moisture_of b) (moisture_of l))
    (λ t. on l (better_is b l true t) (best_is ls (with P l) l (l.lot + 1) more
    (rises P b l h (ltb-true (r b) (r l) (sym compares ∙ t))) c.1 g))
    (λ t. on b (better_is b l false t) (best_is ls (with P l) b (l.lot + 1) more
    (stays P k b l met h c.0 (ltb-false (r b) (r l) (sym compares ∙ t))) c.1 g))
  where
    c : Rest k l ls
    c = rest k l ls o

    f : finite (moisture_of l) ≡ true
    f = moisture_finite l (and_parts (finite_readings l) (all_finite ls) a).0

    g : all_finite ls ≡ true
    g = (and_parts (finite_readings l) (all_finite ls) a).1

    more : Met (l.lot + 1) (with P l)
    more = met_more P k l met c.0 f

    compares : lt (moisture_of b) (moisture_of l) ≡ ltb (r b) (r l)
    compares = lt_rank b.moisture l.moisture (met b h.one_of).1 f

    out : (x : Line) → with P l x ⊎ Among x ls → P x ⊎ Among x (l ∷ ls)
    out x (inl (inl j)) = inl j
    out x (inl (inr j)) = inr (inl j)
    out x (inr i) = inr (inr i)

    back : (x : Line) → P x ⊎ Among x (l ∷ ls) → with P l x ⊎ Among x ls
    back x (inl i) = inl (inl i)
    back x (inr (inl j)) = inl (inr j)
    back x (inr (inr j)) = inr j

    on : (d : Line) → better (some b) l ≡ some d → Best (with P l) d ls → Best P b (l ∷ ls)
    on d e (h', (p, q)) = (
      h',
      (
        ap (λ (x : Option Line). best x ls) e ∙ p,
        moved (λ x. with P l x ⊎ Among x ls) (λ x. P x ⊎ Among x (l ∷ ls)) h' out back q,
      ),
    )

-- ordered lines with finite readings, one or more, have it
pub highest_is : (l : Line) (ls : List Line) → ordered (l ∷ ls) ≡ true → all_finite (l ∷ ls) ≡ true
    → (h : Line) × ((highest (l ∷ ls) ≡ some h) × Top (λ x. Among x (l ∷ ls)) h)
unfolding better
highest_is l ls o a =
    best_is ls (λ x. x ≡ l) l (l.lot + 1)
    (λ x p. subst (λ (y : Line). (y.lot < l.lot + 1) × (finite (moisture_of y) ≡ true)) (sym p) (omega arith, f))
    (record {
      one_of = refl;
      none_higher = λ x p. subst (λ (y : Line). r y ≤ r l) (sym p) (self (r l));
      lowest_lot = λ x p q. subst (λ (y : Line). l.lot ≤ y.lot) (sym p) (self l.lot);
    })
    (rest 0 l ls o).1 (and_parts (finite_readings l) (all_finite ls) a).1
  where
    f : finite (moisture_of l) ≡ true
    f = moisture_finite l (and_parts (finite_readings l) (all_finite ls) a).0

    self : (k : ℕ) → k ≤ k
    self k = omega arith

-- ---- exactly

abbrev is_some : Option Line → Bool
is_some none = false
is_some (some l) = true

abbrev or_line : Line → Option Line → Line
or_line d none = d
or_line d (some l) = l

some_is : (g h : Line) → some g ≡ some h → g ≡ h
some_is g h e = ap (or_line g) e

pub top_is : (ls : List Line) (h : Line) → ordered ls ≡ true → all_finite ls ≡ true → highest ls ≡ some h → Top (λ x. Among x ls) h
top_is [] h o a e = absurd (true≢false (sym (ap is_some e)))
top_is (l ∷ ls) h o a e = go (highest_is l ls o a)
  where
    go : (g : Line) × ((highest (l ∷ ls) ≡ some g) × Top (λ x. Among x (l ∷ ls)) g) → Top (λ x. Among x (l ∷ ls)) h
    go (g, (p, t)) = subst (Top (λ x. Among x (l ∷ ls))) (some_is g h (sym p ∙ e)) t

pub is_top : (ls : List Line) (h : Line) → ordered ls ≡ true → all_finite ls ≡ true → Top (λ x. Among x ls) h → highest ls ≡ some h
is_top [] h o a t = absurd t.one_of
is_top (l ∷ ls) h o a t = go (highest_is l ls o a)
  where
    go : (g : Line) × ((highest (l ∷ ls) ≡ some g) × Top (λ x. Among x (l ∷ ls)) g) → highest (l ∷ ls) ≡ some h
    go (g, (p, s)) = p ∙ ap some (one_top (l ∷ ls) o g h s t)

pub highest_exactly : (ls : List Line) (h : Line) → ordered ls ≡ true → all_finite ls ≡ true → (highest ls ≡ some h) ↔ Highest ls h
highest_exactly ls h o a = (λ e. top_highest ls a h (top_is ls h o a e), λ t. is_top ls h o a (highest_top ls a h t))

-- none when empty
best_some : (b : Line) (ls : List Line) → is_some (best (some b) ls) ≡ true
best_some b [] = refl
best_some b (l ∷ ls) =
    ap (λ (d : Option Line). is_some (best d ls)) (better_is b l (lt (moisture_of b) (moisture_of l)) refl)
    ∙ best_some (cond (lt (moisture_of b) (moisture_of l)) l b) ls

pub highest_none : (ls : List Line) → (highest ls ≡ none) ↔ (ls ≡ [])
unfolding better
highest_none [] = (λ e. refl, λ e. refl)
highest_none (l ∷ ls) = (
  λ e. absurd (true≢false (sym (best_some l ls) ∙ ap is_some e)),
  λ e. absurd (true≢false (ap some_line e)),
)
  where
    some_line : List Line → Bool
    some_line [] = false
    some_line (x ∷ xs) = true
