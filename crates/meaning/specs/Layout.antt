-- Where a book's parts lie: a header; what this house published, a slot for each number; then the entries, number first and then
-- sender, each a row of slots: SEND, an ECHO from each house, a READY from each house, READY sent, delivered. Definitions and proofs
-- take the numbers from here.
use Rattle.std.specs.Prelude.{ℕ, ◌+◌, ◌*◌, Bool, ◌&&◌, leb}
use Rattle.entry.specs.Entry.{Kind, SEND, ECHO, READY}

-- entry numbers S: 1 to 4 per sender
unfoldable pub most_numbers : ℕ
most_numbers = 4

unfoldable pub numbers_ok : ℕ → Bool
unfolding most_numbers
numbers_ok numbers = leb 1 numbers && leb numbers most_numbers

-- the recovery limit d: 0 to 8
unfoldable pub most_limit : ℕ
most_limit = 8

-- where n, S, the own number, the season, the sheet, f, d and how often asker p was helped stand
abbrev pub n_place : ℕ
n_place = 0

abbrev pub numbers_place : ℕ
numbers_place = 1

abbrev pub own_place : ℕ
own_place = 2

abbrev pub season_place : ℕ
season_place = 3

abbrev pub sheet_place : ℕ
sheet_place = 7

abbrev pub down_place : ℕ
down_place = 29

abbrev pub limit_place : ℕ
limit_place = 30

abbrev pub helped_place : ℕ → ℕ
helped_place p = 31 + p

-- the bytes before the slots
unfoldable pub head_length : ℕ → ℕ
head_length n = helped_place n

-- a presence byte and a declaration's 20
abbrev pub slot_length : ℕ
slot_length = 21

-- where the slot i slots on from the one at `base` begins
abbrev pub place_from : (base i : ℕ) → ℕ
place_from base i = base + slot_length * i

-- the slots of an entry
unfoldable pub per_entry : ℕ → ℕ
per_entry n = 2 * n + 3

-- the slots of a book
unfoldable pub slot_count : ℕ → ℕ → ℕ
unfolding per_entry
slot_count n numbers = numbers + numbers * n * per_entry n

-- a length that depends on n and S only
unfoldable pub length_of : ℕ → ℕ → ℕ
unfolding head_length slot_count
length_of n numbers = head_length n + slot_length * slot_count n numbers

-- where slot k of a book of n houses begins
unfoldable pub slot_place : ℕ → ℕ → ℕ
unfolding head_length
slot_place n k = place_from (head_length n) k

-- what this house published at number c, counted over the book
abbrev pub published_slot : ℕ → ℕ
published_slot c = c

-- slot i of the entry of number c and sender j, counted over the book
unfoldable pub entry_slot : (n numbers c j i : ℕ) → ℕ
unfolding per_entry
entry_slot n numbers c j i = numbers + (c * n + j) * per_entry n + i

-- within an entry
abbrev pub send_slot : ℕ
send_slot = 0

abbrev pub echo_slot : ℕ → ℕ
echo_slot p = 1 + p

abbrev pub ready_slot : ℕ → ℕ → ℕ
ready_slot n p = 1 + n + p

abbrev pub ready_sent_slot : ℕ → ℕ
ready_sent_slot n = 1 + 2 * n

abbrev pub delivered_slot : ℕ → ℕ
delivered_slot n = 2 + 2 * n

-- the slot of an entry in which a message of the kind from house p is recorded
abbrev pub heard_slot : ℕ → Kind → ℕ → ℕ
heard_slot n SEND p = send_slot
heard_slot n ECHO p = echo_slot p
heard_slot n READY p = ready_slot n p
