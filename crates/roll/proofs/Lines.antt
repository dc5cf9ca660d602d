-- Lines with one entered, and with one struck: their order, readings, number and weight, and which lines they are.
use Prim.Native.Nat.{ℕ, zero, suc, ◌+◌, ◌<◌, ◌≤◌}
use mathlib.Core.Path.{◌≡◌, refl, sym, ap, ◌∙◌, subst}
use mathlib.Core.Logic.{◌⊎◌, inl, inr}
use mathlib.Core.Bool.{Bool, true, false, cond, true≢false}
use mathlib.Core.List.{List, [], ◌∷◌}
use native.Mathlib.Omega.{arith}
use lib.ListN.{length, take}
use lib.Dec.{leb, ltb, eqb}
use borrow.Author.Tests.{leb-true, ltb-true, ltb-false, eqb-true, eqb-false, le-leb, eq-eqb, ne_eqb}
use Rattle.roll.specs.declared.Line.{Line}
use Rattle.roll.specs.Roll.{finite_readings, ordered_from, all_finite, has, weight, enters, strikes}
use Rattle.roll.specs.Plain.{Among}
use Rattle.std.proofs.lemmas.Bool.{and_parts, or_parts}
use Rattle.roll.proofs.Tests.{bcase, or_then}

-- ---- order

-- a first line, and the rest
abbrev pub Rest : ℕ → Line → List Line → Type 0
Rest k l ls = (k ≤ l.lot) × (ordered_from (l.lot + 1) ls ≡ true)

pub rest : (k : ℕ) (l : Line) (ls : List Line) → ordered_from k (l ∷ ls) ≡ true → Rest k l ls
rest k l ls o = (
  leb-true k l.lot (and_parts (leb k l.lot) (ordered_from (l.lot + 1) ls) o).0,
  (and_parts (leb k l.lot) (ordered_from (l.lot + 1) ls) o).1,
)

weaker : (j k : ℕ) (ls : List Line) → j ≤ k → ordered_from k ls ≡ true → ordered_from j ls ≡ true
weaker j k [] a o = refl
weaker j k (l ∷ ls) a o = let c = rest k l ls o in rw (le-leb j l.lot (le a c.0), c.1)
  where
    le : {x : ℕ} → j ≤ k → k ≤ x → j ≤ x
    le a b = omega arith

pub enters_ordered : (l : Line) (k : ℕ) (ls : List Line) → k ≤ l.lot → ordered_from k ls ≡ true → has l.lot ls ≡ false
    → ordered_from k (enters l ls) ≡ true
enters_ordered l k [] a o h = rw (le-leb k l.lot a)
enters_ordered l k (m ∷ ms) a o h =
    let c = rest k m ms o in
    bcase (ltb m.lot l.lot)
    (λ t. rw (t, le-leb k m.lot c.0) (enters_ordered l (m.lot + 1) ms (on (ltb-true m.lot l.lot t)) c.1
    (or_parts (eqb m.lot l.lot) (has l.lot ms) h).1))
    (λ f. rw (
      f,
      le-leb k l.lot a,
      le-leb (l.lot + 1) m.lot
          (off (ltb-false m.lot l.lot f) (eqb-false m.lot l.lot (or_parts (eqb m.lot l.lot) (has l.lot ms) h).0)),
      c.1,
    ))
  where
    on : m.lot < l.lot → m.lot + 1 ≤ l.lot
    on h = omega arith

    off : l.lot ≤ m.lot → (m.lot ≡ l.lot → ⊥) → l.lot + 1 ≤ m.lot
    off h d = omega (arith, d)

pub strikes_ordered : (lot k : ℕ) (ls : List Line) → ordered_from k ls ≡ true → ordered_from k (strikes lot ls) ≡ true
strikes_ordered lot k [] o = refl
strikes_ordered lot k (m ∷ ms) o =
    let c = rest k m ms o in
    bcase (eqb m.lot lot) (λ t. rw t (weaker k (m.lot + 1) ms (on c.0) c.1))
    (λ f. rw (f, le-leb k m.lot c.0) (strikes_ordered lot (m.lot + 1) ms c.1))
  where
    on : k ≤ m.lot → k ≤ m.lot + 1
    on h = omega arith

-- no lot stands twice on an ordered roll
pub has_past : (lot k : ℕ) (ls : List Line) → lot < k → ordered_from k ls ≡ true → has lot ls ≡ false
has_past lot k [] a o = refl
has_past lot k (l ∷ ls) a o =
    let c = rest k l ls o in
    rw (ne_eqb l.lot lot (λ e. differs a c.0 e)) (has_past lot (l.lot + 1) ls (past a c.0) c.1)
  where
    differs : {m : ℕ} → lot < k → k ≤ m → m ≡ lot → ⊥
    differs a b e = omega arith

    past : {m : ℕ} → lot < k → k ≤ m → lot < m + 1
    past a b = omega arith

-- ---- readings

pub enters_finite : (l : Line) (ls : List Line) → finite_readings l ≡ true → all_finite ls ≡ true → all_finite (enters l ls) ≡ true
enters_finite l [] e a = rw e
enters_finite l (m ∷ ms) e a =
    bcase (ltb m.lot l.lot)
    (λ t. rw (t, (and_parts (finite_readings m) (all_finite ms) a).0)
    (enters_finite l ms e (and_parts (finite_readings m) (all_finite ms) a).1))
    (λ f. rw (f, e) a)

pub strikes_finite : (lot : ℕ) (ls : List Line) → all_finite ls ≡ true → all_finite (strikes lot ls) ≡ true
strikes_finite lot [] a = refl
strikes_finite lot (m ∷ ms) a =
    bcase (eqb m.lot lot) (λ t. rw t (and_parts (finite_readings m) (all_finite ms) a).1)
    (λ f. rw (f, (and_parts (finite_readings m) (all_finite ms) a).0)
    (strikes_finite lot ms (and_parts (finite_readings m) (all_finite ms) a).1))

-- ---- number

pub length_enters : (l : Line) (ls : List Line) → length (enters l ls) ≡ suc (length ls)
length_enters l [] = refl
length_enters l (m ∷ ms) = go (ltb m.lot l.lot) (length_enters l ms)
  where
    go : (b : Bool) → length (enters l ms) ≡ suc (length ms) → length (cond b (m ∷ enters l ms) (l ∷ (m ∷ ms))) ≡ suc (suc (length ms))
    go true r = ap suc r
    go false r = refl

pub strikes_length : (lot : ℕ) (ls : List Line) → has lot ls ≡ true → suc (length (strikes lot ls)) ≡ length ls
strikes_length lot [] h = absurd (true≢false (sym h))
strikes_length lot (m ∷ ms) h =
    bcase (eqb m.lot lot) (λ t. rw t) (λ f. rw f (ap suc (strikes_length lot ms (or_then (eqb m.lot lot) (has lot ms) f h))))

pub take_within : (k : ℕ) (ls : List Line) → length (take k ls) ≤ length ls
take_within zero ls = omega arith
take_within (suc k) [] = omega arith
take_within (suc k) (l ∷ ls) = more (take_within k ls)
  where
    more : {a b : ℕ} → a ≤ b → suc a ≤ suc b
    more h = omega arith

-- ---- kilograms

-- those with which a lot stands
abbrev pub weighs : ℕ → List Line → ℕ
weighs lot [] = 0
weighs lot (l ∷ ls) = cond (eqb l.lot lot) l.kilograms (weighs lot ls)

pub weight_enters : (l : Line) (ls : List Line) → weight (enters l ls) ≡ weight ls + l.kilograms
weight_enters l [] = omega arith
weight_enters l (m ∷ ms) = go (ltb m.lot l.lot) (weight_enters l ms)
  where
    go : (b : Bool) → weight (enters l ms) ≡ weight ms + l.kilograms
        → weight (cond b (m ∷ enters l ms) (l ∷ (m ∷ ms))) ≡ m.kilograms + weight ms + l.kilograms
    go true r = omega arith
    go false r = omega arith

pub weight_strikes : (lot : ℕ) (ls : List Line) → weight (strikes lot ls) + weighs lot ls ≡ weight ls
weight_strikes lot [] = refl
weight_strikes lot (m ∷ ms) = go (eqb m.lot lot) (weight_strikes lot ms)
  where
    go : (b : Bool) → weight (strikes lot ms) + weighs lot ms ≡ weight ms
        → weight (cond b ms (m ∷ strikes lot ms)) + cond b m.kilograms (weighs lot ms) ≡ m.kilograms + weight ms
    go true r = omega arith
    go false r = omega arith

pub weighs_enters : (x : ℕ) (l : Line) (ls : List Line) → weighs x (enters l ls) ≡ cond (eqb l.lot x) l.kilograms (weighs x ls)
weighs_enters x l [] = refl
weighs_enters x l (m ∷ ms) =
    bcase (ltb m.lot l.lot)
    (λ t. rw t (bcase (eqb m.lot x)
    (λ e. rw (e, ne_eqb l.lot x (λ y. differs (ltb-true m.lot l.lot t) (eqb-true m.lot x e) y)))
    (λ f. rw f (weighs_enters x l ms))))
    (λ f. rw f)
  where
    differs : m.lot < l.lot → m.lot ≡ x → l.lot ≡ x → ⊥
    differs a b c = omega arith

weighs_none : (x : ℕ) (ls : List Line) → has x ls ≡ false → weighs x ls ≡ 0
weighs_none x [] h = refl
weighs_none x (l ∷ ls) h =
    rw (or_parts (eqb l.lot x) (has x ls) h).0 (weighs_none x ls (or_parts (eqb l.lot x) (has x ls) h).1)

pub weighs_strikes : (x lot k : ℕ) (ls : List Line) → ordered_from k ls ≡ true
    → weighs x (strikes lot ls) ≡ cond (eqb lot x) 0 (weighs x ls)
weighs_strikes x lot k [] o = bcase (eqb lot x) (λ t. rw t) (λ f. rw f)
weighs_strikes x lot k (m ∷ ms) o =
    bcase (eqb m.lot lot)
    (λ t. rw t (bcase (eqb lot x)
    (λ e. rw e (weighs_none x ms (has_past x (m.lot + 1) ms (past (eqb-true m.lot lot t) (eqb-true lot x e)) c.1)))
    (λ f. rw (f, ne_eqb m.lot x (λ y. eqb-false lot x f (sym (eqb-true m.lot lot t) ∙ y))))))
    (λ f. rw f (bcase (eqb m.lot x)
    (λ e. rw (e, ne_eqb lot x (λ y. eqb-false m.lot lot f (eqb-true m.lot x e ∙ sym y))))
    (λ g. rw g (weighs_strikes x lot (m.lot + 1) ms c.1))))
  where
    c : Rest k m ms
    c = rest k m ms o

    past : m.lot ≡ lot → lot ≡ x → x < m.lot + 1
    past a b = omega arith

-- ---- which lines

pub has_among : (lot : ℕ) (ls : List Line) (x : Line) → Among x ls → x.lot ≡ lot → has lot ls ≡ true
has_among lot [] x x4 h = elim x4 [ ]
has_among lot (l ∷ ls) x (inl e) h = rw (eq-eqb l.lot lot (ap (λ (m : Line). m.lot) (sym e) ∙ h))
has_among lot (l ∷ ls) x (inr p) h = bcase (eqb l.lot lot) (λ t. rw t) (λ f. rw f (has_among lot ls x p h))

pub lots_from : (k : ℕ) (ls : List Line) → ordered_from k ls ≡ true → (x : Line) → Among x ls → k ≤ x.lot
lots_from k [] o x x4 = elim x4 [ ]
lots_from k (l ∷ ls) o x (inl e) = subst (λ (m : Line). k ≤ m.lot) (sym e) (rest k l ls o).0
lots_from k (l ∷ ls) o x (inr p) = let c = rest k l ls o in through c.0 (lots_from (l.lot + 1) ls c.1 x p)
  where
    through : k ≤ l.lot → l.lot + 1 ≤ x.lot → k ≤ x.lot
    through a b = omega arith

-- the lots of an ordered roll tell its lines apart
pub same_lot : (k : ℕ) (ls : List Line) → ordered_from k ls ≡ true → (x y : Line) → Among x ls → Among y ls → x.lot ≡ y.lot → x ≡ y
same_lot k [] o x y x6 _ h = elim x6 [ ]
same_lot k (l ∷ ls) o x y (inl e) (inl f) h = e ∙ sym f
same_lot k (l ∷ ls) o x y (inl e) (inr q) h =
    absurd (apart (ap (λ (m : Line). m.lot) e) (lots_from (l.lot + 1) ls (rest k l ls o).1 y q) h)
  where
    apart : x.lot ≡ l.lot → l.lot + 1 ≤ y.lot → x.lot ≡ y.lot → ⊥
    apart a b c = omega arith
same_lot k (l ∷ ls) o x y (inr p) (inl f) h =
    absurd (apart (ap (λ (m : Line). m.lot) f) (lots_from (l.lot + 1) ls (rest k l ls o).1 x p) h)
  where
    apart : y.lot ≡ l.lot → l.lot + 1 ≤ x.lot → x.lot ≡ y.lot → ⊥
    apart a b c = omega arith
same_lot k (l ∷ ls) o x y (inr p) (inr q) h = same_lot (l.lot + 1) ls (rest k l ls o).1 x y p q h

pub among_enters : (l : Line) (ls : List Line) (x : Line) → Among x (enters l ls) → (x ≡ l) ⊎ Among x ls
among_enters l [] x p = p
among_enters l (m ∷ ms) x p = go (ltb m.lot l.lot) p (among_enters l ms x)
  where
    go : (b : Bool) → Among x (cond b (m ∷ enters l ms) (l ∷ (m ∷ ms))) → (Among x (enters l ms) → (x ≡ l) ⊎ Among x ms)
        → (x ≡ l) ⊎ Among x (m ∷ ms)
    go true (inl e) r = inr (inl e)
    go true (inr q) r = elim (r q) [ inl e ↦ inl e | inr s ↦ inr (inr s) ]
    go false q r = q

pub enters_among : (l : Line) (ls : List Line) (x : Line) → (x ≡ l) ⊎ Among x ls → Among x (enters l ls)
enters_among l [] x p = p
enters_among l (m ∷ ms) x p = go (ltb m.lot l.lot) p (enters_among l ms x)
  where
    go : (b : Bool) → (x ≡ l) ⊎ Among x (m ∷ ms) → ((x ≡ l) ⊎ Among x ms → Among x (enters l ms))
        → Among x (cond b (m ∷ enters l ms) (l ∷ (m ∷ ms)))
    go true (inl e) r = inr (r (inl e))
    go true (inr (inl e)) r = inl e
    go true (inr (inr q)) r = inr (r (inr q))
    go false q r = q

pub among_strikes : (lot k : ℕ) (ls : List Line) → ordered_from k ls ≡ true → (x : Line) → Among x (strikes lot ls)
    → Among x ls × (x.lot ≡ lot → ⊥)
among_strikes lot k [] o x p = elim p [ ]
among_strikes lot k (m ∷ ms) o x p =
    bcase (eqb m.lot lot) (λ t. here t (subst (λ (b : Bool). Among x (cond b ms (m ∷ strikes lot ms))) t p))
    (λ f. further f (subst (λ (b : Bool). Among x (cond b ms (m ∷ strikes lot ms))) f p) (among_strikes lot (m.lot + 1) ms c.1 x))
  where
    c : Rest k m ms
    c = rest k m ms o

    here : eqb m.lot lot ≡ true → Among x ms → Among x (m ∷ ms) × (x.lot ≡ lot → ⊥)
    here t q = (inr q, λ h. apart (eqb-true m.lot lot t) (lots_from (m.lot + 1) ms c.1 x q) h)
      where
        apart : m.lot ≡ lot → m.lot + 1 ≤ x.lot → x.lot ≡ lot → ⊥
        apart a b e = omega arith

    further : eqb m.lot lot ≡ false → (x ≡ m) ⊎ Among x (strikes lot ms) → (Among x (strikes lot ms) → Among x ms × (x.lot ≡ lot → ⊥))
        → Among x (m ∷ ms) × (x.lot ≡ lot → ⊥)
    further f (inl e) r = (inl e, λ h. eqb-false m.lot lot f (sym (ap (λ (l : Line). l.lot) e) ∙ h))
    further f (inr q) r = (inr (r q).0, (r q).1)

pub strikes_among : (lot : ℕ) (ls : List Line) (x : Line) → Among x ls → (x.lot ≡ lot → ⊥) → Among x (strikes lot ls)
strikes_among lot [] x p d = elim p [ ]
strikes_among lot (m ∷ ms) x p d = go (eqb m.lot lot) refl p (strikes_among lot ms x)
  where
    go : (b : Bool) → eqb m.lot lot ≡ b → (x ≡ m) ⊎ Among x ms → (Among x ms → (x.lot ≡ lot → ⊥) → Among x (strikes lot ms))
        → Among x (cond b ms (m ∷ strikes lot ms))
    go true t (inl e) r = absurd (d (ap (λ (l : Line). l.lot) e ∙ eqb-true m.lot lot t))
    go true t (inr q) r = q
    go false f (inl e) r = inl e
    go false f (inr q) r = inr (r q d)
