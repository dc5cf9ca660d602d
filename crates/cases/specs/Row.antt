-- What a row of the table says, and when it holds: equations between what is defined and what document 01 writes, so that a reader
-- has no test of ours to believe.
use Rattle.std.specs.Prelude.{ℕ, ◌<◌, ◌≡◌, ◌⊎◌, Bool, true, false, List, [], ◌∷◌, replicate}
use Rattle.std.proofs.Math.Option.{Option, none, some}
use Rattle.card.specs.Card.{counts_of}
use Rattle.sheet.specs.declared.Gate.{Gate}
use Rattle.sheet.specs.declared.Gate.TheVariants.{Open}
use Rattle.sheet.specs.declared.Sheet.{Sheet}
use Rattle.lot.specs.declared.Declaration.{Declaration}
use Rattle.lot.specs.Declaration.{bytes_of}
use Rattle.sheet.specs.Kept.{sheet_bytes, judged}
use Rattle.message.specs.Message.{Five, wire, read_as, read_of, written_of}
use Rattle.meaning.specs.Layout.{length_of}
use Rattle.meaning.specs.Opening.{opened, length_answer}
use Rattle.calls.specs.Entered.{handed}
use Rattle.calls.specs.Call.{received}

-- one call: a message of the kind from the house, on the entry of sender 0 and number 0; the message given, by its kind, and the delivery
pub record Heard : Type 0 where
  pub house : ℕ
  pub kind : ℕ
  pub gives : Option ℕ
  pub delivers : Bool

-- a case, by what it speaks of
pub data Row : Type 0 where
  -- so many houses: t, and the quorum
  card : (n t q : ℕ) → Row
  -- among so many houses, this many vouchers are short of the quorum
  short : (n vouchers : ℕ) → Row
  -- so many houses and numbers: the answer to how long their book is, and the length
  size : (n numbers answer length : ℕ) → Row
  -- judging this declaration by this sheet: the answer
  judge : Sheet → Declaration → (answer : ℕ) → Row
  -- these five things, and the bytes: they write so, and these bytes read so
  form : Five → List ℕ → Row
  -- a freshly opened book of so many houses, own number 0, one number, f and d at zero: what each message in turn gives
  calls : (n : ℕ) → List Heard → Row

-- a sheet with this cap and moisture gate, conductivity open; a lot with these numbers and moisture, conductivity 0.5
abbrev pub sheet : ℕ → Gate → Sheet
sheet cap moisture = record { cap = cap; moisture = moisture; conductivity = Open }

abbrev pub lot : ℕ → ℕ → ℕ → Declaration
lot colonies kilograms moisture =
    record { lot = 77; colonies = colonies; kilograms = kilograms; moisture = moisture; conductivity = 0x3f000000 }

-- 17.5, as its bits
abbrev pub seventeen_half : ℕ
seventeen_half = 0x418c0000

-- the one declaration throughout, and a message of the kind with it
abbrev pub sample : Declaration
sample = lot 40 800 seventeen_half

abbrev pub says : ℕ → List ℕ
says kind = wire (record { kind = kind; season = 2026; sender = 0; number = 0; declaration = sample })

abbrev pub message_for : Option ℕ → Option (List ℕ)
message_for none = none
message_for (some kind) = some (says kind)

abbrev pub delivered : Bool → Option (List ℕ)
delivered true = some (bytes_of sample)
delivered false = none

-- each call's outcome, one after the other
abbrev pub Calls : List ℕ → List Heard → Type 0
Calls b [] = Unit
Calls b (h ∷ hs) =
    ((received b h.house (says h.kind)).given ≡ handed 0 (message_for h.gives) (delivered h.delivers))
    × Calls (received b h.house (says h.kind)).book hs

-- the book that the first call finds
abbrev pub fresh_book : ℕ → List ℕ
fresh_book n = (opened (replicate (length_of n 1) 0) n 1 0 0 0 2026 (sheet_bytes (sheet 20 Open))).book

abbrev pub Holds : Row → Type 0
Holds (card n t q) = ((counts_of n 0).t ≡ t) × ((counts_of n 0).quorum ≡ q)
Holds (short n vouchers) = vouchers < (counts_of n 0).quorum
Holds (size n numbers answer length) = length_answer n numbers ≡ record { answer = answer; length = length }
Holds (judge sheet d answer) = judged (sheet_bytes sheet) (bytes_of d) ≡ answer
Holds (form m bytes) =
    (written_of m.kind m.season m.sender m.number m.declaration ≡ record { answer = 0; message = bytes })
    × (read_of bytes ≡ read_as m)
Holds (calls n hs) = Calls (fresh_book n) hs

-- every row of a table holds; a row stands beside its case's number in document 01
abbrev pub All : List (ℕ × Row) → Type 0
All [] = Unit
All (r ∷ rs) = Holds r.1 × All rs

-- the case of this number has a row
abbrev pub Has : ℕ → List (ℕ × Row) → Type 0
Has c [] = ⊥
Has c (r ∷ rs) = (r.0 ≡ c) ⊎ Has c rs
