-- The worked example of docs/BOOK.md, computed: a book of one house and one number, freshly opened, and with a SEND recorded.
use Prim.Native.Nat.{ℕ, suc}
use mathlib.Core.Path.{◌≡◌, refl}
use mathlib.Core.Bool.{true}
use mathlib.Core.List.{List, [], ◌∷◌, ◌++◌}
use mathlib.Core.Option.{some}
use lib.ListN.{replicate}
use Rattle.card.specs.Card.{largest, houses_ok, down_ok}
use Rattle.sheet.specs.Kept.{sheet_bytes, sheet_at, is_sheet, sheet_legal_at}
use Rattle.entry.specs.Entry.{Decl}
use Rattle.meaning.specs.Slot.{slot_at, put_slot}
use Rattle.meaning.specs.Layout.{most_numbers, numbers_ok, most_limit, length_of, slot_place, entry_slot, send_slot, echo_slot, ready_slot}
use Rattle.meaning.specs.Layout.{ready_sent_slot, delivered_slot, slot_length}
use Rattle.meaning.specs.Book.{look, write}
use Rattle.meaning.specs.Legal.{legal}
use Rattle.meaning.specs.Opening.{opened, length_answer}

-- cap 20, moisture at most 20.0, conductivity open
abbrev sheet : List ℕ
sheet =
    0 ∷ 0 ∷ 0 ∷ 0x14
    ∷ 1 ∷ 0 ∷ 0 ∷ 0 ∷ 0 ∷ 0x41 ∷ 0xA0 ∷ 0 ∷ 0
    ∷ 0 ∷ 0 ∷ 0 ∷ 0 ∷ 0 ∷ 0 ∷ 0 ∷ 0 ∷ 0 ∷ []

-- n 1, S 1, own number 0, season 2026, the sheet, f 0, d 8, house 0 helped 0 times; then six slots
abbrev header : List ℕ
header = 1 ∷ 1 ∷ 0 ∷ 0 ∷ 0 ∷ 0x07 ∷ 0xEA ∷ sheet ++ (0 ∷ 8 ∷ 0 ∷ [])

abbrev freshly : List ℕ
freshly = header ++ replicate 126 0

-- lot 77, 40 colonies, 800 kilograms, 17.5, 0.5
abbrev lot : Decl
lot =
    0 ∷ 0 ∷ 0 ∷ 0x4D ∷ 0 ∷ 0 ∷ 0 ∷ 0x28 ∷ 0 ∷ 0 ∷ 0x03 ∷ 0x20 ∷ 0x41 ∷ 0x8C ∷ 0 ∷ 0 ∷ 0x3F ∷ 0 ∷ 0 ∷ 0 ∷ []

abbrev sent : List ℕ
sent = header ++ (replicate slot_length 0 ++ (1 ∷ lot ++ replicate 84 0))

length_here : length_answer 1 1 ≡ record { answer = 0; length = 158 }
unfolding length_answer houses_ok numbers_ok length_of
length_here = refl

-- the longest, and one house more
longest_here : length_answer largest most_numbers ≡ record { answer = 0; length = 169406 }
unfolding length_answer houses_ok numbers_ok length_of largest most_numbers
longest_here = refl

too_many_here : length_answer (suc largest) 1 ≡ record { answer = 9; length = 0 }
unfolding length_answer houses_ok numbers_ok length_of largest
too_many_here = refl

opened_here : opened (replicate 158 9) 1 1 0 0 8 2026 sheet ≡ record { answer = 0; book = freshly }
unfolding opened down_ok houses_ok numbers_ok length_of is_sheet sheet_at sheet_bytes write most_limit
opened_here = refl

-- slot i of the one entry
abbrev place : ℕ → ℕ
place i = slot_place 1 (entry_slot 1 1 0 0 i)

-- published, SEND, ECHO and READY from house 0, READY sent, delivered
abbrev places : List ℕ
places =
    slot_place 1 0 ∷ place send_slot ∷ place (echo_slot 0) ∷ place (ready_slot 1 0) ∷ place (ready_sent_slot 1)
    ∷ place (delivered_slot 1) ∷ []

places_here : places ≡ 32 ∷ 53 ∷ 74 ∷ 95 ∷ 116 ∷ 137 ∷ []
unfolding slot_place entry_slot
places_here = refl

sent_here : put_slot freshly (place send_slot) lot ≡ sent
unfolding put_slot slot_place entry_slot
sent_here = refl

legal_here : legal sent ≡ true
unfolding legal down_ok houses_ok numbers_ok length_of sheet_legal_at most_limit
legal_here = refl

meant_here : (look sent 0 0).send ≡ some lot
unfolding look slot_at slot_place entry_slot
meant_here = refl
