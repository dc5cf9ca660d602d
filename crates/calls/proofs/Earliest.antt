-- An entry is the earliest waiting one exactly when it waits and none earlier does; there is none exactly when none waits.
use Prim.Native.Nat.{ℕ, zero, suc, ◌<◌}
use mathlib.Core.Path.{◌≡◌, refl, sym, ap, ap₂, ◌∙◌}
use mathlib.Core.Bool.{Bool, true, false}
use mathlib.Core.List.{List}
use mathlib.Core.Logic.{◌↔◌, ◌⊎◌, inl, inr, ⊎_elim}
use mathlib.Core.Option.{Option, none, some}
use native.Mathlib.Decide.{dec_lt}
use native.Mathlib.Omega.{arith}
use Rattle.meaning.specs.Book.{n_of, numbers_of}
use Rattle.calls.specs.Search.{waits, Place, first_below, waiting_at, earliest, Earliest}

lt_or_eq : (k m : ℕ) → k < suc m → (k < m) ⊎ (k ≡ m)
lt_or_eq k m h = elim (dec_lt k m) [ yes a ↦ inl a | no f ↦ inr (omega arith) ]

abbrev number_or : Option Place → ℕ
number_or none = 0
number_or (some x) = suc x.number

abbrev place_or : Place → Option Place → Place
place_or z none = z
place_or z (some x) = x

some_none : (x : Place) → some x ≡ none → ⊥
some_none x e = let z = ap number_or e in omega arith

module _ (f : ℕ → Option Place) where
  -- nothing below m: nothing at each
  none_at : (m : ℕ) → first_below f m ≡ none → (k : ℕ) → k < m → f k ≡ none
  unfolding first_below
  none_at zero e k l = absurd (omega arith)
  none_at (suc m) e k l = go (first_below f m) refl (λ h a. none_at m h k a)
    where
      go : (o : Option Place) → first_below f m ≡ o → (first_below f m ≡ none → k < m → f k ≡ none) → f k ≡ none
      go none h ih = ⊎_elim (ih h) (λ q. rw q (rw h at e)) (lt_or_eq k m l)
      go (some x) h ih = absurd (some_none x (rw h at e))

  none_below : (m : ℕ) → ((k : ℕ) → k < m → f k ≡ none) → first_below f m ≡ none
  unfolding first_below
  none_below zero h = refl
  none_below (suc m) h = rw (none_below m (λ k l. h k (omega arith))) (h m (omega arith))

  -- something at k and nothing below k
  pub first_at : (m k : ℕ) (x : Place) → k < m → f k ≡ some x → first_below f k ≡ none → first_below f m ≡ some x
  unfolding first_below
  first_at zero k x l e h = absurd (omega arith)
  first_at (suc m) k x l e h = ⊎_elim (λ a. rw (first_at m k x a e h)) (λ q. rw (← q, h) e) (lt_or_eq k m l)

  at_first : (m : ℕ) (x : Place) → first_below f m ≡ some x → (k : ℕ) × (k < m) × (f k ≡ some x) × (first_below f k ≡ none)
  unfolding first_below
  at_first zero x e = absurd (some_none x (sym e))
  at_first (suc m) x e = go (first_below f m) refl (λ h. at_first m x h)
    where
      go : (o : Option Place) → first_below f m ≡ o
          → (first_below f m ≡ some x → (k : ℕ) × (k < m) × (f k ≡ some x) × (first_below f k ≡ none))
          → (k : ℕ) × (k < suc m) × (f k ≡ some x) × (first_below f k ≡ none)
      go none h ih = (m, omega arith, rw h at e, h)
      go (some y) h ih = let z = ih (h ∙ (rw h at e)) in (z.0, omega arith, z.2, z.3)

-- an entry that waits, and one that does not
module _ (b : List ℕ) (c j : ℕ) where
  pub waiting_some : waits b j c ≡ true → waiting_at b c j ≡ some (record { number = c; sender = j })
  unfolding waiting_at
  waiting_some e = rw e

  pub waiting_none : waits b j c ≡ false → waiting_at b c j ≡ none
  unfolding waiting_at
  waiting_none e = rw e

  none_waits : waiting_at b c j ≡ none → waits b j c ≡ false
  unfolding waiting_at
  none_waits e = go (waits b j c) refl
    where
      go : (t : Bool) → waits b j c ≡ t → t ≡ false
      go true h = absurd (some_none _ (rw h at e))
      go false h = refl

  some_waits : (x : Place) → waiting_at b c j ≡ some x → (waits b j c ≡ true) × (record { number = c; sender = j } ≡ x)
  unfolding waiting_at
  some_waits x e = go (waits b j c) refl
    where
      go : (t : Bool) → waits b j c ≡ t → (t ≡ true) × (record { number = c; sender = j } ≡ x)
      go true h = let q : some (record { number = c; sender = j }) ≡ some x = rw h at e in (refl, ap (place_or x) q)
      go false h = absurd (some_none x (sym (rw h at e)))

module _ (b : List ℕ) where
  -- under one number
  abbrev row : ℕ → Option Place
  row c = first_below (waiting_at b c) (n_of b)

  row_none : (c : ℕ) → row c ≡ none → (j : ℕ) → j < n_of b → waits b j c ≡ false
  row_none c e j l = none_waits b c j (none_at (waiting_at b c) (n_of b) e j l)

  none_row : (c : ℕ) → ((j : ℕ) → j < n_of b → waits b j c ≡ false) → row c ≡ none
  none_row c h = none_below (waiting_at b c) (n_of b) (λ j l. waiting_none b c j (h j l))

  pub none_exactly : (earliest b ≡ none) ↔ ((j c : ℕ) → j < n_of b → c < numbers_of b → waits b j c ≡ false)
  unfolding earliest
  none_exactly = (
    λ e j c l m. row_none c (none_at row (numbers_of b) e c m) j l,
    λ h. none_below row (numbers_of b) (λ c m. none_row c (λ j l. h j c l m)),
  )

  pub earliest_exactly : (x : Place) → (earliest b ≡ some x) ↔ Earliest b x
  unfolding earliest
  earliest_exactly x = (to, from)
    where
      to : earliest b ≡ some x → Earliest b x
      to e =
          let outer = at_first row (numbers_of b) x e in
          let c = outer.0 in
          let inner = at_first (waiting_at b c) (n_of b) x outer.2 in
          let j = inner.0 in
          let w = some_waits b c j x inner.2 in
          let n : c ≡ x.number = ap (λ (y : Place). y.number) w.1 in
          let s : j ≡ x.sender = ap (λ (y : Place). y.sender) w.1 in
          record {
            in_numbers = omega (arith, outer.1);
            in_senders = omega (arith, inner.1);
            waiting = ap₂ (waits b) (sym s) (sym n) ∙ w.0;
            lower_number = λ i d l m. row_none d (none_at row c outer.3 d (omega arith)) i l;
            lower_sender = λ i l.
                ap (waits b i) (sym n) ∙ none_waits b c i (none_at (waiting_at b c) j inner.3 i (omega arith));
          }

      from : Earliest b x → earliest b ≡ some x
      from p =
          let c = x.number in
          let j = x.sender in
          let below = none_below (waiting_at b c) j (λ i l. waiting_none b c i (p.lower_sender i l)) in
          let here = first_at (waiting_at b c) (n_of b) j x p.in_senders (waiting_some b c j p.waiting) below in
          first_at row (numbers_of b) c x p.in_numbers here
          (none_below row c (λ d m. none_row d (λ i l. p.lower_number i d l m)))
