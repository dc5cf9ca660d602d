-- The turns of the waiting search: what each shows of the entries passed, and of the one it stops at.
use Prim.Native.Nat.{ℕ, ◌+◌, ◌<◌, ◌≤◌}
use mathlib.Core.Path.{◌≡◌, refl, sym, ap, ◌∙◌}
use mathlib.Core.Bool.{Bool, true, false, cond, not}
use mathlib.Core.List.{List}
use mathlib.Core.Option.{Option, none, some}
use native.Mathlib.Numerals.{add-one}
use native.Mathlib.Omega.{arith}
use Rattle.entry.specs.Entry.{Decl, SEND, is_none, is_some}
use Rattle.meaning.specs.Slot.{slot_at}
use Rattle.meaning.specs.Layout.{place_from, send_slot, delivered_slot}
use Rattle.meaning.specs.Book.{n_of, numbers_of, look}
use Rattle.meaning.specs.Legal.{legal, Has}
use Rattle.calls.specs.declared.Waiting.{Waiting}
use Rattle.calls.specs.Search as search
use Rattle.std.specs.Prelude as std
use Rattle.std.specs.Prelude.{Some, None}
use Rattle.waiting.specs.declared.Place.{Place}
use Rattle.layout.specs.Places.{Begins}
use Rattle.calls.specs.Search as search
use Rattle.calls.specs.Search.{waits, first_below, waiting_at, earliest, found, waiting}
use Rattle.waiting.specs.Found.{told}
use Rattle.calls.proofs.Earliest.{first_at, waiting_some, waiting_none}
use Rattle.meaning.proofs.Seen.{from_base, heard_seen, delivered_seen}

not_some : (o : Option Decl) → not (is_some o) ≡ is_none o
not_some none = refl
not_some (some v) = refl

-- one entry
module _ (b : List ℕ) (j c : ℕ) (has : Has b j c) (base : ℕ) (at : Begins b j c base) (send : ℕ) (es : send ≡ place_from base send_slot)
    (r : Bool) (er : r ≡ is_some (slot_at b send)) where
  heard : r ≡ is_some (look b j c).send
  heard =
      let place = es ∙ from_base b j c has base at.is send_slot in
      er ∙ ap (λ (x : ℕ). is_some (slot_at b x)) place ∙ ap is_some (sym (heard_seen b j c has SEND j has.sender))

  pub waits_heard : (n delivered : ℕ) (q : Bool) → r ≡ true → n ≡ n_of b → delivered ≡ place_from base (delivered_slot n)
      → q ≡ is_some (slot_at b delivered) → not q ≡ waits b j c
  unfolding waits
  waits_heard n delivered q t en ed eq =
      let from = ap (λ (x : ℕ). place_from base (delivered_slot x)) en in
      let place = ed ∙ from ∙ from_base b j c has base at.is (delivered_slot (n_of b)) in
      let done = eq ∙ ap (λ (x : ℕ). is_some (slot_at b x)) place ∙ ap is_some (sym (delivered_seen b j c has)) in
      rw (← heard, t) (ap not done ∙ not_some (look b j c).delivered)

  pub waits_unheard : r ≡ false → r ≡ waits b j c
  unfolding waits
  waits_unheard t = rw (← heard, t)

-- what stands below a place of the search
abbrev pub row : List ℕ → ℕ → ℕ → Option search.Place
row b n c = first_below (waiting_at b c) n

pub none_yet : (f : ℕ → Option search.Place) → first_below f 0 ≡ none
unfolding first_below
none_yet f = refl

none_more : (f : ℕ → Option search.Place) (k : ℕ) → first_below f k ≡ none → f k ≡ none → first_below f (k + 1) ≡ none
unfolding first_below
none_more f k h e = rw (add-one k, h) e

module _ (b : List ℕ) (n c : ℕ) where
  -- a sender passed, and a number passed
  pub sender_passed : (j : ℕ) (r : Bool) → r ≡ waits b j c → r ≡ false → first_below (waiting_at b c) j ≡ none
      → first_below (waiting_at b c) (j + 1) ≡ none
  sender_passed j r er t h = none_more (waiting_at b c) j h (waiting_none b c j (sym er ∙ t))

  pub number_passed : (j : ℕ) → j ≤ n → n ≤ j → first_below (row b n) c ≡ none → first_below (waiting_at b c) j ≡ none
      → first_below (row b n) (c + 1) ≡ none
  number_passed j l m h e = let z : j ≡ n = omega arith in none_more (row b n) c h (rw z at e)

  -- the first that waits
  pub stops_at : (j s : ℕ) (r : Bool) → n ≡ n_of b → s ≡ numbers_of b → r ≡ waits b j c → r ≡ true → first_below (waiting_at b c) j ≡ none
      → first_below (row b n) c ≡ none → j < n → c < s → told (Some (record { number = c; sender = j })) ≡ found (earliest b)
  unfolding earliest
  stops_at j s r en es er t h g lj lc =
      let here = first_at (waiting_at b c) n j (record { number = c; sender = j }) lj (waiting_some b c j (sym er ∙ t)) h in
      let all = first_at (row b n) s c (record { number = c; sender = j }) lc here g in
      ap found (sym all ∙ (λ i. first_below (row b (en i)) (es i)))

  pub stops_nowhere : (s : ℕ) (x : std.Option Place) → n ≡ n_of b → s ≡ numbers_of b → x ≡ None → c ≤ s → s ≤ c
      → first_below (row b n) c ≡ none → told x ≡ found (earliest b)
  unfolding earliest
  stops_nowhere s x en es e l m h =
      let z : c ≡ numbers_of b = omega arith in
      ap told e ∙ ap found (sym h ∙ (λ i. first_below (row b (en i)) (z i)))

-- ---- the answer

-- the number and values of the search's cases settle the case
abbrev pub case_of : Waiting → std.Option Place
case_of w = cond w.waits (Some (record { number = w.number; sender = w.sender })) None

case_of_told : (x : std.Option Place) → case_of (told x) ≡ x
case_of_told (Some p) = refl
case_of_told None = refl

pub told_injective : (x y : std.Option Place) → told x ≡ told y → x ≡ y
told_injective x y h = sym (case_of_told x) ∙ ap case_of h ∙ case_of_told y

module _ (b : List ℕ) where
  pub waiting_found : legal b ≡ true → (w : Waiting) → w ≡ found (earliest b) → w ≡ waiting b
  unfolding waiting
  waiting_found h w e = rw h e

  pub waiting_no_book : legal b ≡ false → (answer : ℕ) → answer ≡ 1
      → record { answer = answer; waits = false; number = 0; sender = 0 } ≡ waiting b
  unfolding waiting
  waiting_no_book h answer e = rw (h, e)

-- the place told, or none
abbrev place_of : Waiting → Option search.Place
place_of w = cond w.waits (some (record { number = w.number; sender = w.sender })) none

place_of_found : (x : Option search.Place) → place_of (search.found x) ≡ x
place_of_found (some x) = refl
place_of_found none = refl

pub found_injective : (x y : Option search.Place) → search.found x ≡ search.found y → x ≡ y
found_injective x y h = sym (place_of_found x) ∙ ap place_of h ∙ place_of_found y
