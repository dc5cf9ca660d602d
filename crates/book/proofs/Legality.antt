-- Legality, part by part: the numbers and the length, the help given, the sheet; the slots, and those of an entry.
use Prim.Native.Nat.{ℕ, zero, suc, ◌+◌, ◌<◌, ◌≤◌}
use mathlib.Core.Path.{◌≡◌, refl, sym, ap, ap₂, subst, ◌∙◌}
use mathlib.Core.Bool.{Bool, true, false, ◌&&◌, and-eq-true_iff, and_assoc}
use mathlib.Core.List.{List, [], ◌∷◌, ◌++◌}
use native.Mathlib.Omega.{arith}
use native.Mathlib.Numerals.{add-one}
use lib.Dec.{eqb, leb}
use lib.ListN.{length, get_or}
use borrow.Author.Tests.{eqb-true, ne_eqb}
use Rattle.std.specs.List.{list_all, range_with_len}
use Rattle.std.proofs.lemmas.List.Folds.{list_all-map}
use Rattle.std.proofs.lemmas.List.FromFn.{map-range_with_len_more}
use Rattle.std.specs.Prelude.{map}
use Rattle.sheet.specs.Kept.{sheet_legal_at}
use Rattle.entry.proofs.Basics.{T_of, true_of, and_l, and_r, and_mk, and_false}
use Rattle.entry.proofs.Basics as basics
use Rattle.meaning.specs.Layout.{helped_place, head_length, slot_count, length_of, slot_place, limit_place, sheet_place}
use Rattle.meaning.specs.Layout.{place_from}
use Rattle.meaning.specs.Book.{n_of, numbers_of, own_of, down_of, limit_of}
use Rattle.meaning.specs.Legal.{helps_ok, legal, head_legal, row_ok}
use Rattle.meaning.specs.Opening.{allowed}
use Rattle.meaning.proofs.Legality.{legal_facts, legal_head, head_legal_lem, head_facts, slots_row}
use Rattle.meaning.proofs.Room.{head_room}
use Rattle.book.specs.Parts.{sized}

-- ---- the help given, one more

module _ (b : List ℕ) (d : ℕ) where
  helps_more : (k : ℕ) → helps_ok b d (k + 1) ≡ helps_ok b d k && leb (get_or b (helped_place k) 0) d
  unfolding helps_ok
  helps_more k = rw (add-one k)

  -- whether asker p was helped at most d times
  abbrev pub help_at : ℕ → Bool
  help_at p = leb (get_or b (helped_place p) 0) d

  all_more : (xs : List Bool) (x : Bool) → list_all (λ y. y) (xs ++ x ∷ []) ≡ list_all (λ y. y) xs && x
  all_more [] true = refl
  all_more [] false = refl
  all_more (y ∷ xs) x = ap (λ z. y && z) (all_more xs x) ∙ sym (and_assoc y (list_all (λ y. y) xs) x)

  abbrev Mapped : ℕ → Type 0
  Mapped k = list_all (λ y. y) (map help_at (range_with_len 0 k)) ≡ helps_ok b d k

  mapped_more : (k : ℕ) → Mapped k → Mapped (k + 1)
  mapped_more k h =
      rw (map-range_with_len_more help_at 0 k k (omega arith), all_more (map help_at (range_with_len 0 k)) (help_at k), helps_more k, h)

  mapped : (k : ℕ) → Mapped k
  unfolding helps_ok
  mapped zero = refl
  mapped (suc k) = subst Mapped (add-one k) (mapped_more k (mapped k))

  pub helps_all : (k : ℕ) → list_all help_at (range_with_len 0 k) ≡ helps_ok b d k
  helps_all k = sym (list_all-map (λ y. y) help_at (range_with_len 0 k)) ∙ mapped k

-- ---- the numbers and the length

module _ (b : List ℕ) where
  both : sized b ≡ true
      → (allowed (n_of b) (numbers_of b) (own_of b) (down_of b) (limit_of b) ≡ true)
      × (eqb (length b) (length_of (n_of b) (numbers_of b)) ≡ true)
  unfolding sized
  both h =
      (and-eq-true_iff (allowed (n_of b) (numbers_of b) (own_of b) (down_of b) (limit_of b))
      (eqb (length b) (length_of (n_of b) (numbers_of b)))).0 h

  sized_long : sized b ≡ true → length b ≡ length_of (n_of b) (numbers_of b)
  sized_long h = eqb-true (length b) (length_of (n_of b) (numbers_of b)) (both h).1

  pub sized_room : (r : Bool) (k : ℕ) → r ≡ sized b → r ≡ true → k ≤ limit_place → k < length b
  unfolding length_of head_length
  sized_room r k e t h = let l = sized_long (sym e ∙ t) in omega arith

  -- so there is room for what is said of each house
  pub helps_room : (n : ℕ) (r : Bool) → r ≡ sized b → r ≡ true → n ≡ n_of b → helped_place n ≤ length b
  unfolding length_of head_length
  helps_room n r e t u = let l = sized_long (sym e ∙ t) in omega arith

  pub not_sized : length b ≤ limit_place → false ≡ sized b
  unfolding sized length_of head_length
  not_sized l =
      sym (and_false (allowed (n_of b) (numbers_of b) (own_of b) (down_of b) (limit_of b)) _
      (ne_eqb (length b) (length_of (n_of b) (numbers_of b)) (λ e. omega arith)))

  module _ (n s own f d : ℕ) (r : Bool) (e0 : n ≡ n_of b) (e1 : s ≡ numbers_of b) (e2 : own ≡ own_of b) (e3 : f ≡ down_of b)
      (e4 : d ≡ limit_of b) (a : r ≡ allowed n s own f d) where
    allowed_is : r ≡ allowed (n_of b) (numbers_of b) (own_of b) (down_of b) (limit_of b)
    allowed_is = a ∙ (λ i. allowed (e0 i) (e1 i) (e2 i) (e3 i) (e4 i))

    pub not_allowed : r ≡ false → false ≡ sized b
    unfolding sized
    not_allowed f = rw (← allowed_is, f)

    pub sized_is : (l : ℕ) → r ≡ true → l ≡ length_of n s → eqb (length b) l ≡ sized b
    unfolding sized
    sized_is l t q = rw (← allowed_is, t, q, e0, e1)

-- ---- the head, and the slots

module _ (b : List ℕ) where
  abbrev helps : Bool
  helps = helps_ok b (limit_of b) (n_of b)

  head_is : head_legal b ≡ sized b && (helps && sheet_legal_at b sheet_place)
  unfolding head_legal sized
  head_is =
      go (allowed (n_of b) (numbers_of b) (own_of b) (down_of b) (limit_of b)) (eqb (length b) (length_of (n_of b) (numbers_of b)))
      (sheet_legal_at b sheet_place) helps
    where
      turned : (x y : Bool) → (x && y) ≡ (y && x)
      turned true true = refl
      turned true false = refl
      turned false true = refl
      turned false false = refl

      go : (a l x y : Bool) → (a && (l && (x && y))) ≡ (a && l) && (y && x)
      go true true x y = turned x y
      go true false x y = refl
      go false l x y = refl

  abbrev slots : Bool
  slots = row_ok b (slot_place (n_of b) 0) (slot_count (n_of b) (numbers_of b))

  legal_is : legal b ≡ head_legal b && slots
  legal_is =
      let row = slots_row b (n_of b) (slot_count (n_of b) (numbers_of b)) in
      basics.both (legal b) (head_legal b && slots)
      (λ t.
      let h = true_of (legal b) t in
      and_mk (head_legal b) slots (T_of (legal_head b h)) (T_of (sym row ∙ (legal_facts b h).slots)))
      (λ t.
      T_of (head_legal_lem b (head_facts b (true_of (head_legal b) (and_l (head_legal b) slots t)))
      (row ∙ true_of slots (and_r (head_legal b) slots t))))

  -- the answers of `is_head_legal`, by what its parts answered
  pub head_unsized : (r : Bool) → r ≡ sized b → r ≡ false → false ≡ head_legal b
  head_unsized r e f = rw (head_is, ← e, f)

  module _ (r o : Bool) (n d : ℕ) (e : r ≡ sized b) (t : r ≡ true) (u : n ≡ n_of b) (v : d ≡ limit_of b) (w : o ≡ helps_ok b d n) where
    helps_are : o ≡ helps
    helps_are = w ∙ (λ i. helps_ok b (v i) (u i))

    pub head_bad_help : o ≡ false → false ≡ head_legal b
    head_bad_help f = rw (head_is, ← e, t, ← helps_are, f)

    pub head_sheet : (x : Bool) → o ≡ true → x ≡ sheet_legal_at b sheet_place → x ≡ head_legal b
    head_sheet x f q = rw (head_is, ← e, t, ← helps_are, f) q

  -- those of `is_legal`
  pub legal_bad_head : (r : Bool) → r ≡ head_legal b → r ≡ false → false ≡ legal b
  legal_bad_head r e f = rw (legal_is, ← e, f)

  module _ (r : Bool) (e : r ≡ head_legal b) (t : r ≡ true) where
    pub head_places : (k : ℕ) → k ≤ limit_place → k < length b
    head_places k h = omega (arith, head_room b (sym e ∙ t))

    module _ (n s at k : ℕ) (u : n ≡ n_of b) (v : s ≡ numbers_of b) (p : at ≡ slot_place n 0) (w : k ≡ slot_count n s) where
      pub slots_room : place_from at k ≤ length b
      unfolding length_of slot_place
      slots_room =
          let l = (head_facts b (sym e ∙ t)).long in
          let q : k ≡ slot_count (n_of b) (numbers_of b) = w ∙ ap₂ slot_count u v in
          omega (arith, ap head_length u)

      pub legal_slots : (y : Bool) → y ≡ row_ok b at k → y ≡ legal b
      legal_slots y z =
          rw (legal_is, ← e, t) (z ∙ (λ i. row_ok b ((p ∙ ap (λ (m : ℕ). slot_place m 0) u) i) ((w ∙ ap₂ slot_count u v) i)))

-- what `is_head_legal` and `is_legal` need, under one name each
pub ruleset head_rules = (sized_room, helps_room, head_unsized, head_bad_help, head_sheet)

pub ruleset slots_rules = (head_places, slots_room, legal_bad_head, legal_slots)
