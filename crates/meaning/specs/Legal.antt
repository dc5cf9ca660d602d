-- Which bytes are a legal book, and which meanings a legal book has.
use Rattle.std.specs.Prelude.{ℕ, zero, suc, ◌^◌, ◌≤◌, ◌<◌, ◌≡◌, Bool, true, ◌&&◌, List, eqb, leb, ltb, length, get_or}
use Rattle.std.proofs.Math.Option.{Option, none, some}
use Rattle.card.specs.Card.{houses_ok, down_ok}
use Rattle.words.specs.Words.{Bytes}
use Rattle.sheet.specs.Sheet.{GateFits, sheet_legal}
use Rattle.sheet.specs.Kept.{sheet_legal_at}
use Rattle.entry.specs.Entry.{Decl, Entry, fresh, PerEntry}
use Rattle.meaning.specs.Slot.{slot_ok}
use Rattle.meaning.specs.Layout.{numbers_ok, most_limit, sheet_place, helped_place, slot_count, length_of, slot_place, per_entry}
use Rattle.meaning.specs.Layout.{place_from}
use Rattle.meaning.specs.Opening.{allowed}
use Rattle.meaning.specs.Book.{Header, Help, Meaning, n_of, numbers_of, own_of, down_of, limit_of, place_in}

-- the first k slots of a book of n houses have one byte form per meaning
unfoldable pub slots_ok : List ℕ → (n k : ℕ) → Bool
unfolding slot_ok slot_place
slots_ok b n zero = true
slots_ok b n (suc k) = slots_ok b n k && slot_ok b (slot_place n k)

-- each of the first p askers was helped at most d times
unfoldable pub helps_ok : List ℕ → (d p : ℕ) → Bool
helps_ok b d zero = true
helps_ok b d (suc p) = helps_ok b d p && leb (get_or b (helped_place p) 0) d

-- d is allowed, and each asker was helped at most d times
unfoldable pub help_ok : List ℕ → Bool
unfolding helps_ok
help_ok b = leb (limit_of b) most_limit && helps_ok b (limit_of b) (n_of b)

-- A legal book has n, S, sheet, f and d as above, own number below n; nothing more is asked of its entries.
unfoldable pub legal : List ℕ → Bool
unfolding slots_ok help_ok
legal b =
    houses_ok (n_of b) && (numbers_ok (numbers_of b) && (ltb (own_of b) (n_of b)
    && (eqb (length b) (length_of (n_of b) (numbers_of b))
    && (sheet_legal_at b sheet_place && (down_ok (n_of b) (down_of b)
    && (help_ok b && slots_ok b (n_of b) (slot_count (n_of b) (numbers_of b))))))))

-- the same, as facts
pub record Legal (b : List ℕ) : Type 0 where
  pub n : houses_ok (n_of b) ≡ true
  pub numbers : numbers_ok (numbers_of b) ≡ true
  pub own : own_of b < n_of b
  pub long : length b ≡ length_of (n_of b) (numbers_of b)
  pub sheet : sheet_legal_at b sheet_place ≡ true
  pub down : down_ok (n_of b) (down_of b) ≡ true
  pub limit : limit_of b ≤ most_limit
  pub helped : (p : ℕ) → p < n_of b → get_or b (helped_place p) 0 ≤ limit_of b
  pub slots : slots_ok b (n_of b) (slot_count (n_of b) (numbers_of b)) ≡ true

-- ---- what receiving by entry tests: the head, and the slots of one entry

-- all that is asked of a legal book but its slots: n, S, own number, f and d that opening allows, the length, the sheet, the help given
unfoldable pub head_legal : List ℕ → Bool
unfolding helps_ok
head_legal b =
    allowed (n_of b) (numbers_of b) (own_of b) (down_of b) (limit_of b)
    && (eqb (length b) (length_of (n_of b) (numbers_of b)) && (sheet_legal_at b sheet_place && helps_ok b (limit_of b) (n_of b)))

-- the same, as facts
pub record Head (b : List ℕ) : Type 0 where
  pub n : houses_ok (n_of b) ≡ true
  pub numbers : numbers_ok (numbers_of b) ≡ true
  pub own : own_of b < n_of b
  pub long : length b ≡ length_of (n_of b) (numbers_of b)
  pub sheet : sheet_legal_at b sheet_place ≡ true
  pub down : down_ok (n_of b) (down_of b) ≡ true
  pub limit : limit_of b ≤ most_limit
  pub helped : (p : ℕ) → p < n_of b → get_or b (helped_place p) 0 ≤ limit_of b

-- the k slots from the one at `at` on have one byte form per meaning
unfoldable pub row_ok : List ℕ → (at k : ℕ) → Bool
unfolding slot_ok
row_ok b at zero = true
row_ok b at (suc k) = row_ok b at k && slot_ok b (place_from at k)

-- each slot of the entry of sender j and number c has one byte form per meaning
unfoldable pub entry_legal : List ℕ → (sender number : ℕ) → Bool
unfolding row_ok per_entry
entry_legal b j c = row_ok b (place_in b j c 0) (per_entry (n_of b))

-- lent bytes that are a legal book
pub record Lent (b : List ℕ) : Type 0 where
  pub legal : legal b ≡ true
  pub bytes : Bytes b

-- a book with a legal head that has the entry of sender j and number c
pub record Has (b : List ℕ) (j c : ℕ) : Type 0 where
  pub head : head_legal b ≡ true
  pub sender : j < n_of b
  pub number : c < numbers_of b

-- and that entry's slots have one byte form per meaning
pub record Fits (b : List ℕ) (j c : ℕ) : Type 0 where
  pub has : Has b j c
  pub entry : entry_legal b j c ≡ true

-- any 20 bytes may stand as a recorded declaration
pub record IsDecl (v : Decl) : Type 0 where
  pub long : length v ≡ 20
  pub bytes : Bytes v

abbrev pub IsSlot : Option Decl → Type 0
IsSlot none = Unit
IsSlot (some v) = IsDecl v

-- an entry of a book of n houses: each slot none or any 20 bytes, and no slot for a house that there is not
pub record IsEntry (n : ℕ) (e : Entry) : Type 0 where
  pub send : IsSlot e.send
  pub echo : (p : ℕ) → IsSlot (e.echo p)
  pub ready : (p : ℕ) → IsSlot (e.ready p)
  pub ready_sent : IsSlot e.ready_sent
  pub delivered : IsSlot e.delivered
  pub published : IsSlot e.published
  pub echo_past : (p : ℕ) → n ≤ p → e.echo p ≡ none
  pub ready_past : (p : ℕ) → n ≤ p → e.ready p ≡ none

-- what the header of a legal book may be
pub record IsHeader (h : Header) : Type 0 where
  pub n : houses_ok h.n ≡ true
  pub numbers : numbers_ok h.numbers ≡ true
  pub own : h.own < h.n
  pub season : h.season < 2 ^ 32
  pub cap : h.sheet.cap < 2 ^ 32
  pub moisture : GateFits h.sheet.moisture
  pub conductivity : GateFits h.sheet.conductivity
  pub sheet : sheet_legal h.sheet ≡ true
  pub down : down_ok h.n h.down ≡ true

-- the help that may have been given in a book of n houses
pub record IsHelp (n : ℕ) (w : Help) : Type 0 where
  pub limit : w.limit ≤ most_limit
  pub most : (p : ℕ) → w.helped p ≤ w.limit
  pub past : (p : ℕ) → n ≤ p → w.helped p ≡ 0

-- the entries of a book with that header
pub record AreEntries (h : Header) (entries : PerEntry Entry) : Type 0 where
  pub each : (j c : ℕ) → IsEntry h.n (entries j c)
  -- what was published stands at the own sender alone, and nothing stands outside the book
  pub others : (j c : ℕ) → (j ≡ h.own → ⊥) → (entries j c).published ≡ none
  pub past_sender : (j c : ℕ) → h.n ≤ j → entries j c ≡ fresh
  pub past_number : (j c : ℕ) → h.numbers ≤ c → entries j c ≡ fresh

-- what a legal book may mean
pub record IsBook (B : Meaning) : Type 0 where
  pub header : IsHeader B.header
  pub help : IsHelp B.header.n B.help
  pub entries : AreEntries B.header B.entries
