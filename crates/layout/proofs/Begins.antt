-- An entry of a book with a legal head begins where its first slot stands, and lies within the book, slot by slot.
use Prim.Native.Nat.{ℕ, ◌+◌, ◌<◌, ◌≤◌, ◌*◌}
use mathlib.Core.Path.{◌≡◌, refl, ◌∙◌}
use mathlib.Core.List.{List}
use native.Mathlib.Omega.{arith}
use lib.ListN.{length}
use Rattle.meaning.specs.Layout.{per_entry, slot_length, place_from, slot_place, entry_slot, echo_slot, ready_slot}
use Rattle.meaning.specs.Layout.{send_slot, ready_sent_slot, delivered_slot}
use Rattle.meaning.specs.Book.{n_of, numbers_of, place_in}
use Rattle.meaning.specs.Legal.{Has}
use Rattle.meaning.proofs.Legality.{head_facts}
use Rattle.layout.specs.declared.EntryAt.{EntryAt}
use Rattle.layout.specs.Places.{Within, Begins, Lies, Opens}
use Rattle.meaning.proofs.Room.{head_room, entry_room}
use Rattle.meaning.proofs.Places.{send_below, echo_below, ready_below, ready_sent_below, delivered_below}

pub begins : (b : List ℕ) (j c n s k r : ℕ) → Has b j c → n ≡ n_of b → s ≡ numbers_of b → k ≡ entry_slot n s c j 0
    → r ≡ slot_place n k → r < 4294967296 → Begins b j c r
begins b j c n s k r has en es ek er small =
    let is : r ≡ place_in b j c 0 = er ∙ (λ i. slot_place (en i) ((ek ∙ (λ m. entry_slot (en m) (es m) c j 0)) i)) in
    record {
      is = is;
      within = record {
        n = (head_facts b has.head).n;
        down = (head_facts b has.head).down;
        some = omega (arith, head_room b has.head);
        room = omega (arith, entry_room b j c has);
        small = small;
      };
    }

-- what the code holds of an entry
pub opens : (b : List ℕ) (j c n s : ℕ) (e : EntryAt) → Has b j c → n ≡ n_of b → s ≡ numbers_of b → e.n ≡ n
    → e.base ≡ slot_place n (entry_slot n s c j 0) → e.base < 4294967296 → Opens b j c e
opens b j c n s e has en es m is small =
    record { n = m ∙ en; begins = begins b j c n s _ _ has en es refl is small }

pub lies : (b : List ℕ) (e : EntryAt) → e.n ≡ n_of b → Within b e.base → Lies b e
lies b e n w = record { n = n; within = w }

pub slot_room : (b : List ℕ) (base i : ℕ) → Within b base → i < per_entry (n_of b) → place_from base i + slot_length ≤ length b
slot_room b base i w l = omega (arith, w.room)

-- a row of n slots from slot i on
pub row_within : (b : List ℕ) (base i : ℕ) → Within b base → i + n_of b ≤ per_entry (n_of b)
    → place_from base i + slot_length * n_of b ≤ length b
row_within b base i W l = omega (arith, W.room, l)

pub echoes_below : (n : ℕ) → echo_slot 0 + n ≤ per_entry n
unfolding per_entry
echoes_below n = omega arith

pub readies_below : (n : ℕ) → ready_slot n 0 + n ≤ per_entry n
unfolding per_entry
readies_below n = omega arith

-- ---- the room for each slot of an entry that the code holds

module _ (b : List ℕ) (e : EntryAt) (l : Lies b e) where
  room_at : (i : ℕ) → i < per_entry (n_of b) → place_from e.base i + slot_length ≤ length b
  room_at i h = slot_room b e.base i l.within h

  pub send_room : place_from e.base send_slot + slot_length ≤ length b
  send_room = room_at send_slot (send_below (n_of b))

  pub echo_room : (p : ℕ) → p < n_of b → place_from e.base (echo_slot p) + slot_length ≤ length b
  echo_room p h = room_at (echo_slot p) (echo_below (n_of b) p h)

  pub ready_room : (p : ℕ) → p < n_of b → place_from e.base (ready_slot e.n p) + slot_length ≤ length b
  ready_room p h = let q = l.n in rw q (room_at (ready_slot (n_of b) p) (ready_below (n_of b) p h))

  pub ready_sent_room : place_from e.base (ready_sent_slot e.n) + slot_length ≤ length b
  ready_sent_room = let q = l.n in rw q (room_at (ready_sent_slot (n_of b)) (ready_sent_below (n_of b)))

  pub delivered_room : place_from e.base (delivered_slot e.n) + slot_length ≤ length b
  delivered_room = let q = l.n in rw q (room_at (delivered_slot (n_of b)) (delivered_below (n_of b)))

  pub echoes_room : place_from (place_from e.base (echo_slot 0)) e.n ≤ length b
  echoes_room = let q = l.n in rw q (row_within b e.base (echo_slot 0) l.within (echoes_below (n_of b)))

  pub readies_room : place_from (place_from e.base (ready_slot e.n 0)) e.n ≤ length b
  readies_room = let q = l.n in rw q (row_within b e.base (ready_slot (n_of b) 0) l.within (readies_below (n_of b)))
