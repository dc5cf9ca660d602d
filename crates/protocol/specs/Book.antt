-- A book of entries and the calls on it. A call names one entry.
use Rattle.std.specs.Prelude.{Bool, cond, ◌&&◌, ℕ, zero, suc, ltb, List}
use Rattle.std.proofs.Math.Option.{Option, none, some}
use Rattle.entry.specs.Entry.{Decl, Kind, Entry, PerEntry, put_at}
use Rattle.protocol.specs.Steps.{Rules, Out, refused, receive, publish}
use Rattle.entry.specs.Lists.{upd, push}

-- A book has one entry for each sender and number.
abbrev pub Book : Type 0
Book = PerEntry Entry

-- one more declaration, or none, on house r's list for an entry
abbrev pub noted : (ℕ → PerEntry (List Decl)) → (house sender number : ℕ) → Option Decl → ℕ → PerEntry (List Decl)
noted f r j c x = upd f r (put_at (f r) j c (push x (f r j c)))

abbrev pub in_book : Rules → ℕ → ℕ → ℕ → Bool
in_book R numbers j c = ltb j R.n && ltb c numbers

-- an own number and a declaration; or the house that a message came from, and what the message says
pub data Call : Type 0 where
  publishing : (number : ℕ) → Decl → Call
  receiving : (from : ℕ) → Kind → (sender number : ℕ) → Decl → Call

-- the entry that a call at house `own` names
abbrev pub sender_of : ℕ → Call → ℕ
sender_of own (publishing c v) = own
sender_of own (receiving p k j c v) = j

abbrev pub number_of : Call → ℕ
number_of (publishing c v) = c
number_of (receiving p k j c v) = c

abbrev pub on_entry : Rules → Call → ℕ → Entry → Out
on_entry R (publishing c v) j e = publish R v e
on_entry R (receiving p k j₂ c v) j e = receive R j p k v e

-- 4: sender or entry number not in the book
unfoldable pub outcome : Rules → (numbers own : ℕ) → Call → Book → Out
outcome R S own a b =
    let j : ℕ = sender_of own a in
    let c : ℕ = number_of a in
    cond (in_book R S j c) (on_entry R a j (b j c)) (refused 4 (b j c))

-- the book after the call
unfoldable pub after : Rules → (numbers own : ℕ) → Call → Book → Book
after R S own a b = put_at b (sender_of own a) (number_of a) (outcome R S own a b).entry

-- the declaration of an accepted publication
abbrev pub publication : Call → ℕ → Option Decl
publication (publishing c v) zero = some v
publication (publishing c v) (suc a) = none
publication (receiving p k j c v) a = none
