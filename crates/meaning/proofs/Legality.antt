-- The test for a legal book, as facts: its parts, and its slots one by one.
use Prim.Native.Nat.{ℕ, zero, suc, ◌+◌, ◌≤◌, ◌<◌}
use mathlib.Core.Path.{◌≡◌, refl, sym, ap, ap₂, ◌∙◌}
use mathlib.Core.Bool.{Bool, true, false, ◌&&◌, and-eq-true_iff}
use mathlib.Core.List.{List}
use native.Mathlib.Decide.{dec_lt}
use native.Mathlib.Omega.{arith}
use lib.Dec.{eqb, leb, ltb}
use lib.ListN.{length, get_or}
use borrow.Author.Tests.{eqb-true, eq-eqb, ltb-true, lt-ltb, leb-true, le-leb}
use Rattle.card.specs.Card.{houses_ok, down_ok}
use Rattle.sheet.specs.Kept.{sheet_legal_at}
use Rattle.meaning.specs.Slot.{slot_ok}
use Rattle.meaning.specs.Layout.{numbers_ok, most_limit, helped_place, head_length, slot_count, length_of, slot_place, slot_length}
use Rattle.meaning.specs.Layout.{sheet_place, place_from, per_entry, entry_slot}
use Rattle.meaning.specs.Book.{n_of, numbers_of, own_of, down_of, limit_of, place_in}
use Rattle.meaning.specs.Opening.{allowed}
use Rattle.meaning.specs.Legal.{slots_ok, helps_ok, help_ok, legal, Legal, head_legal, Head, row_ok, entry_legal}
use Rattle.meaning.proofs.Places.{length_header, slot_within, entry_slot_below}

-- where slots lie, counted from another
place_from_lem : (n k : ℕ) → slot_place n k ≡ place_from (slot_place n 0) k
unfolding slot_place
place_from_lem n k = omega arith

pub place_in_lem : (b : List ℕ) (j c i : ℕ) → place_from (place_in b j c 0) i ≡ place_in b j c i
unfolding slot_place entry_slot
place_in_lem b j c i = omega arith

module _ (b : List ℕ) where
  -- the test's parts, from the last to the second
  abbrev slots : Bool
  slots = slots_ok b (n_of b) (slot_count (n_of b) (numbers_of b))

  abbrev help : Bool
  help = help_ok b && slots

  abbrev down : Bool
  down = down_ok (n_of b) (down_of b) && help

  abbrev sheet : Bool
  sheet = sheet_legal_at b sheet_place && down

  abbrev long : Bool
  long = eqb (length b) (length_of (n_of b) (numbers_of b)) && sheet

  abbrev own : Bool
  own = ltb (own_of b) (n_of b) && long

  helps_at : (d m : ℕ) → helps_ok b d m ≡ true → (p : ℕ) → p < m → get_or b (helped_place p) 0 ≤ d
  unfolding helps_ok
  helps_at d zero h p l = absurd (omega arith)
  helps_at d (suc m) h p l =
      let both = (and-eq-true_iff (helps_ok b d m) (leb (get_or b (helped_place m) 0) d)).0 h in
      elim (dec_lt p m) [
        | yes a ↦ helps_at d m both.0 p a
        | no f ↦ let e : p ≡ m = omega arith in rw e (leb-true (get_or b (helped_place m) 0) d both.1)
      ]

  helps_all : (d m : ℕ) → ((p : ℕ) → p < m → get_or b (helped_place p) 0 ≤ d) → helps_ok b d m ≡ true
  unfolding helps_ok
  helps_all d zero f = refl
  helps_all d (suc m) f = rw (helps_all d m (λ p l. f p (omega arith)), le-leb (get_or b (helped_place m) 0) d (f m (omega arith)))

  abbrev Helps : Type 0
  Helps = (limit_of b ≤ most_limit) × ((p : ℕ) → p < n_of b → get_or b (helped_place p) 0 ≤ limit_of b)

  help_facts : help_ok b ≡ true → Helps
  unfolding help_ok
  help_facts h =
      let q = (and-eq-true_iff (leb (limit_of b) most_limit) (helps_ok b (limit_of b) (n_of b))).0 h in
      (leb-true (limit_of b) most_limit q.0, helps_at (limit_of b) (n_of b) q.1)

  facts_help : Helps → help_ok b ≡ true
  unfolding help_ok
  facts_help f = rw (le-leb (limit_of b) most_limit f.0, helps_all (limit_of b) (n_of b) f.1)

  pub legal_facts : legal b ≡ true → Legal b
  unfolding legal
  legal_facts h =
      let p = (and-eq-true_iff (houses_ok (n_of b)) (numbers_ok (numbers_of b) && own)).0 h in
      let q = (and-eq-true_iff (numbers_ok (numbers_of b)) own).0 p.1 in
      let r = (and-eq-true_iff (ltb (own_of b) (n_of b)) long).0 q.1 in
      let s = (and-eq-true_iff (eqb (length b) (length_of (n_of b) (numbers_of b))) sheet).0 r.1 in
      let t = (and-eq-true_iff (sheet_legal_at b sheet_place) down).0 s.1 in
      let u = (and-eq-true_iff (down_ok (n_of b) (down_of b)) help).0 t.1 in
      let v = (and-eq-true_iff (help_ok b) slots).0 u.1 in
      let w = help_facts v.0 in
      record {
        n = p.0;
        numbers = q.0;
        own = ltb-true (own_of b) (n_of b) r.0;
        long = eqb-true (length b) (length_of (n_of b) (numbers_of b)) s.0;
        sheet = t.0;
        down = u.0;
        limit = w.0;
        helped = w.1;
        slots = v.1;
      }

  pub facts_legal : Legal b → legal b ≡ true
  unfolding legal
  facts_legal l =
      let own = lt-ltb (own_of b) (n_of b) l.own in
      let long = eq-eqb (length b) (length_of (n_of b) (numbers_of b)) l.long in
      rw (l.n, l.numbers, own, long, l.sheet, l.down, facts_help (l.limit, l.helped), l.slots)

  -- the head's facts: those of a legal book but its slots
  pub head_facts : head_legal b ≡ true → Head b
  unfolding head_legal allowed
  head_facts h =
      let last : Bool = down_ok (n_of b) (down_of b) && leb (limit_of b) most_limit in
      let from_own : Bool = ltb (own_of b) (n_of b) && last in
      let rest : Bool = sheet_legal_at b sheet_place && helps_ok b (limit_of b) (n_of b) in
      let numbers : Bool = numbers_ok (numbers_of b) && from_own in
      let long : Bool = eqb (length b) (length_of (n_of b) (numbers_of b)) in
      let both = (and-eq-true_iff (houses_ok (n_of b) && numbers) (long && rest)).0 h in
      let p = (and-eq-true_iff (houses_ok (n_of b)) numbers).0 both.0 in
      let q = (and-eq-true_iff (numbers_ok (numbers_of b)) from_own).0 p.1 in
      let r = (and-eq-true_iff (ltb (own_of b) (n_of b)) last).0 q.1 in
      let s = (and-eq-true_iff (down_ok (n_of b) (down_of b)) (leb (limit_of b) most_limit)).0 r.1 in
      let t = (and-eq-true_iff long rest).0 both.1 in
      let u = (and-eq-true_iff (sheet_legal_at b sheet_place) (helps_ok b (limit_of b) (n_of b))).0 t.1 in
      record {
        n = p.0;
        numbers = q.0;
        own = ltb-true (own_of b) (n_of b) r.0;
        long = eqb-true (length b) (length_of (n_of b) (numbers_of b)) t.0;
        sheet = u.0;
        down = s.0;
        limit = leb-true (limit_of b) most_limit s.1;
        helped = helps_at (limit_of b) (n_of b) u.1;
      }

  pub facts_head : Head b → head_legal b ≡ true
  unfolding head_legal allowed
  facts_head l =
      let own = lt-ltb (own_of b) (n_of b) l.own in
      let long = eq-eqb (length b) (length_of (n_of b) (numbers_of b)) l.long in
      let limit = le-leb (limit_of b) most_limit l.limit in
      rw (l.n, l.numbers, own, l.down, limit, long, l.sheet) (helps_all (limit_of b) (n_of b) l.helped)

  -- a legal book is a legal head, and its slots
  pub legal_parts : Legal b → Head b
  legal_parts l =
      record {
        n = l.n;
        numbers = l.numbers;
        own = l.own;
        long = l.long;
        sheet = l.sheet;
        down = l.down;
        limit = l.limit;
        helped = l.helped;
      }

  pub legal_head : legal b ≡ true → head_legal b ≡ true
  legal_head h = facts_head (legal_parts (legal_facts h))

  pub head_legal_lem : Head b → slots_ok b (n_of b) (slot_count (n_of b) (numbers_of b)) ≡ true → legal b ≡ true
  head_legal_lem l o =
      facts_legal
      (record {
        n = l.n;
        numbers = l.numbers;
        own = l.own;
        long = l.long;
        sheet = l.sheet;
        down = l.down;
        limit = l.limit;
        helped = l.helped;
        slots = o;
      })

  pub not_legal : (Legal b → ⊥) → false ≡ legal b
  not_legal f = go (legal b) refl
    where
      go : (t : Bool) → legal b ≡ t → false ≡ t
      go true e = absurd (f (legal_facts e))
      go false e = refl

  module _ (n : ℕ) where
    pub slots_at : (m : ℕ) → slots_ok b n m ≡ true → (k : ℕ) → k < m → slot_ok b (slot_place n k) ≡ true
    unfolding slots_ok
    slots_at zero h k l = absurd (omega arith)
    slots_at (suc m) h k l =
        let both = (and-eq-true_iff (slots_ok b n m) (slot_ok b (slot_place n m))).0 h in
        elim (dec_lt k m) [ yes a ↦ slots_at m both.0 k a | no f ↦ let e : k ≡ m = omega arith in rw e both.1 ]

    pub slots_all : (m : ℕ) → ((k : ℕ) → k < m → slot_ok b (slot_place n k) ≡ true) → slots_ok b n m ≡ true
    unfolding slots_ok
    slots_all zero f = refl
    slots_all (suc m) f = rw (slots_all m (λ k l. f k (omega arith)), f m (omega arith))

  -- k slots from the one at `at` on
  module _ (at : ℕ) where
    pub row_at : (m : ℕ) → row_ok b at m ≡ true → (k : ℕ) → k < m → slot_ok b (place_from at k) ≡ true
    unfolding row_ok
    row_at zero h k l = absurd (omega arith)
    row_at (suc m) h k l =
        let both = (and-eq-true_iff (row_ok b at m) (slot_ok b (place_from at m))).0 h in
        elim (dec_lt k m) [ yes a ↦ row_at m both.0 k a | no f ↦ let e : k ≡ m = omega arith in rw e both.1 ]

    pub row_all : (m : ℕ) → ((k : ℕ) → k < m → slot_ok b (place_from at k) ≡ true) → row_ok b at m ≡ true
    unfolding row_ok
    row_all zero f = refl
    row_all (suc m) f = rw (row_all m (λ k l. f k (omega arith)), f m (omega arith))

  -- the slots of a book are a row
  pub slots_row : (n k : ℕ) → slots_ok b n k ≡ row_ok b (slot_place n 0) k
  unfolding slots_ok row_ok
  slots_row n zero = refl
  slots_row n (suc k) = ap₂ ◌&&◌ (slots_row n k) (ap (slot_ok b) (place_from_lem n k))

  module _ (j c : ℕ) where
    pub entry_at : entry_legal b j c ≡ true → (i : ℕ) → i < per_entry (n_of b) → slot_ok b (place_in b j c i) ≡ true
    unfolding entry_legal
    entry_at h i l = ap (slot_ok b) (sym (place_in_lem b j c i)) ∙ row_at (place_in b j c 0) (per_entry (n_of b)) h i l

    pub entry_all : ((i : ℕ) → i < per_entry (n_of b) → slot_ok b (place_in b j c i) ≡ true) → entry_legal b j c ≡ true
    unfolding entry_legal
    entry_all f = row_all (place_in b j c 0) (per_entry (n_of b)) (λ i l. ap (slot_ok b) (place_in_lem b j c i) ∙ f i l)

    -- the row from where the entry begins
    pub entry_row : (base : ℕ) → base ≡ place_in b j c 0 → row_ok b base (per_entry (n_of b)) ≡ entry_legal b j c
    unfolding entry_legal
    entry_row base e = ap (λ (x : ℕ). row_ok b x (per_entry (n_of b))) e

    -- a legal book's entries are legal
    pub legal_entry : legal b ≡ true → j < n_of b → c < numbers_of b → entry_legal b j c ≡ true
    legal_entry h hj hc =
        entry_all
        (λ i l. slots_at (n_of b) (slot_count (n_of b) (numbers_of b)) (legal_facts h).slots (entry_slot (n_of b) (numbers_of b) c j i)
        (entry_slot_below (n_of b) (numbers_of b) c j i hc hj l))

  -- the header and each slot lie within a book with a legal head
  module _ (l : Head b) where
    pub header_within : head_length (n_of b) ≤ length b
    header_within = omega (arith, length_header (n_of b) (numbers_of b), l.long)

    pub slot_within_book : (k : ℕ) → k < slot_count (n_of b) (numbers_of b) → slot_place (n_of b) k + slot_length ≤ length b
    slot_within_book k h = omega (arith, slot_within (n_of b) (numbers_of b) k h, l.long)
