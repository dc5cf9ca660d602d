-- Where the slots of an entry stand, and what the code asks of the book it works on.
use Rattle.std.specs.Prelude.{ℕ, ◌≤◌, ◌<◌, ◌≡◌, true, List, length}
use Rattle.std.proofs.Math.Option.{Option}
use Rattle.card.specs.Card.{houses_ok, down_ok}
use Rattle.entry.specs.Entry.{Decl}
use Rattle.meaning.specs.Slot.{slot_at}
use Rattle.meaning.specs.Layout.{down_place, per_entry, place_from}
use Rattle.meaning.specs.Book.{n_of, down_of, place_in}
use Rattle.layout.specs.declared.EntryAt.{EntryAt}

-- n is a number of houses, f a number that may be down, and the slots of an entry that begins at `base` lie within the bytes
pub record Within (b : List ℕ) (base : ℕ) : Type 0 where
  pub n : houses_ok (n_of b) ≡ true
  pub down : down_ok (n_of b) (down_of b) ≡ true
  pub some : down_place < length b
  pub room : place_from base (per_entry (n_of b)) ≤ length b
  pub small : base < 4294967296

-- the entry of sender j and number c begins at `base`
pub record Begins (b : List ℕ) (j c base : ℕ) : Type 0 where
  pub is : base ≡ place_in b j c 0
  pub within : Within b base

-- the same of an entry as the code holds it: its n is the book's, and its slots lie within the bytes
pub record Lies (b : List ℕ) (e : EntryAt) : Type 0 where
  pub n : e.n ≡ n_of b
  pub within : Within b e.base

-- and it is the entry of sender j and number c
pub record Opens (b : List ℕ) (j c : ℕ) (e : EntryAt) : Type 0 where
  pub n : e.n ≡ n_of b
  pub begins : Begins b j c e.base

-- slot i of the entry whose first slot begins at `base`
abbrev pub slot_from : List ℕ → (base i : ℕ) → Option Decl
slot_from b base i = slot_at b (place_from base i)
