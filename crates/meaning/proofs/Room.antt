-- A book with a legal head has room for its header, and for each of its entries.
use Prim.Native.Nat.{ℕ, ◌+◌, ◌-◌, ◌<◌, ◌≤◌}
use mathlib.Core.Path.{◌≡◌}
use mathlib.Core.Bool.{true}
use mathlib.Core.List.{List}
use native.Mathlib.Omega.{arith}
use lib.ListN.{length}
use Rattle.meaning.specs.Layout.{helped_place, head_length, per_entry, slot_place, entry_slot, slot_length, delivered_slot, place_from}
use Rattle.meaning.specs.Layout.{send_slot}
use Rattle.meaning.specs.Book.{n_of, numbers_of, own_of, place_in}
use Rattle.meaning.specs.Legal.{legal, head_legal, Has}
use Rattle.meaning.proofs.Legality.{legal_facts, legal_head, head_facts}
use Rattle.meaning.proofs.Places.{numbers_byte, length_header, slot_within, delivered_below, entry_slot_below, published_slot_below}

-- past how often the last house was helped
pub head_room : (b : List ℕ) → head_legal b ≡ true → helped_place (n_of b) ≤ length b
unfolding head_length
head_room b h = omega (arith, (head_facts b h).long, length_header (n_of b) (numbers_of b))

pub header_room : (b : List ℕ) → legal b ≡ true → helped_place (n_of b) ≤ length b
header_room b h = head_room b (legal_head b h)

pub own_below : (b : List ℕ) → legal b ≡ true → own_of b < n_of b
own_below b h = (legal_facts b h).own

-- the whole entry lies within the book
pub entry_room : (b : List ℕ) (j c : ℕ) → Has b j c → place_from (place_in b j c send_slot) (per_entry (n_of b)) ≤ length b
unfolding per_entry slot_place entry_slot
entry_room b j c has =
    let n = n_of b in
    let s = numbers_of b in
    let below = entry_slot_below n s c j (delivered_slot n) has.number has.sender (delivered_below n) in
    omega (arith, slot_within n s (entry_slot n s c j (delivered_slot n)) below, (head_facts b has.head).long)

-- the slot of the own number c lies within the book
pub published_room : (b : List ℕ) (c : ℕ) → head_legal b ≡ true → c < numbers_of b → slot_place (n_of b) c + slot_length ≤ length b
published_room b c h l =
    omega (arith, slot_within (n_of b) (numbers_of b) c (published_slot_below (n_of b) (numbers_of b) c l), (head_facts b h).long)

-- entry numbers are written in one byte
pub numbers_small : (b : List ℕ) → legal b ≡ true → numbers_of b < 256
numbers_small b h = numbers_byte (numbers_of b) (legal_facts b h).numbers
