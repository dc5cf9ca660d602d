-- An accepted call at the bytes: what it gives, and the bytes that mean the book with the named entry as the step leaves it.
use Rattle.std.specs.Prelude.{ℕ, ◌≡◌, Bool, true, false, cond, ◌&&◌, List, [], ◌∷◌, eqb, ltb, length, replicate}
use Rattle.std.proofs.Math.Option.{Option, none, some}
use Rattle.card.specs.Card.{fitting}
use Rattle.lot.specs.declared.Declaration.{Declaration}
use Rattle.sheet.specs.declared.Sheet.{Sheet}
use Rattle.lot.specs.Declaration.{declaration_at}
use Rattle.sheet.specs.Sheet.{plausible}
use Rattle.message.specs.Message.{Five, wire}
use Rattle.entry.specs.Entry.{Decl, Kind, SEND, ECHO, READY, Entry, put_at}
use Rattle.protocol.specs.Steps.{Rules, Say, say, Out, publishes}
use Rattle.protocol.specs.Thresholds.{rules_of}
use Rattle.meaning.specs.Book.{Header, Meaning, meant, look, write, own_of, season_of, sheet_of}
use Rattle.meaning.specs.Legal.{IsDecl}
use Rattle.calls.specs.declared.Outcome.{Outcome}

-- what a call gives, and each byte of the lent buffer afterwards
pub record Result : Type 0 where
  pub given : Outcome
  pub book : List ℕ

abbrev pub result_of : Outcome → List ℕ → Result
result_of o b = record { given = o; book = b }

abbrev pub is_there : {A : Type 0} → Option A → Bool
is_there none = false
is_there (some x) = true

-- an absent message or declaration is zeros
abbrev pub or_zeros : ℕ → Option (List ℕ) → List ℕ
or_zeros k none = replicate k 0
or_zeros k (some l) = l

abbrev pub handed : ℕ → Option (List ℕ) → Option Decl → Outcome
handed answer message delivery =
    record {
      answer = answer;
      gives = is_there message;
      message = or_zeros 36 message;
      delivers = is_there delivery;
      declaration = or_zeros 20 delivery;
      helps = false;
    }

-- an accepted request: no message, no delivery, and the asker is to be helped
abbrev pub helping : Outcome
helping =
    record {
      answer = 0;
      gives = false;
      message = replicate 36 0;
      delivers = false;
      declaration = replicate 20 0;
      helps = true;
    }

-- 20 bytes
abbrev pub all_bytes : List ℕ → Bool
all_bytes [] = true
all_bytes (x ∷ xs) = ltb x 256 && all_bytes xs

unfoldable pub is_decl : Decl → Bool
is_decl v = eqb (length v) 20 && all_bytes v

-- what is plausible by the book's sheet: a declaration's 20 bytes, judged
unfoldable pub ok_by : Sheet → Decl → Bool
unfolding is_decl
ok_by sheet v = is_decl v && plausible sheet (declaration_at v 0)

-- 20 bytes, plausible by the book's sheet
pub record Plausible (b : List ℕ) (v : Decl) : Type 0 where
  pub decl : IsDecl v
  pub ok : ok_by (sheet_of b) v ≡ true

-- the rules of a book: t and the quorum from the wall card
unfoldable pub rules_by : Header → Rules
unfolding ok_by
rules_by h = rules_of h.n (fitting h.n h.down) h.down (ok_by h.sheet)

-- 1 SEND, 2 ECHO, 3 READY
abbrev pub kind_number : Kind → ℕ
kind_number SEND = 1
kind_number ECHO = 2
kind_number READY = 3

-- the kind of a number, or none
abbrev pub kind_of : ℕ → Option Kind
kind_of k = cond (eqb k 1) (some SEND) (cond (eqb k 2) (some ECHO) (cond (eqb k 3) (some READY) none))

-- the five things, and the writer's 36 bytes of them
abbrev pub five_of : (kind season sender number : ℕ) → Declaration → Five
five_of kind season j c d = record { kind = kind; season = season; sender = j; number = c; declaration = d }

abbrev pub wired : (kind season sender number : ℕ) → Declaration → List ℕ
wired kind season j c d = wire (five_of kind season j c d)

-- Each message given is the writer's 36 bytes, with the book's season and that entry's sender and number.
unfoldable pub letter : (season sender number : ℕ) → Say → List ℕ
letter season j c (say k v) = wired (kind_number k) season j c (declaration_at v 0)

abbrev pub letters : (season sender number : ℕ) → Option Say → Option (List ℕ)
letters season j c none = none
letters season j c (some m) = some (letter season j c m)

-- what a book means with another entry of sender j and number c
abbrev pub with_entry : Meaning → (sender number : ℕ) → Entry → Meaning
with_entry B j c e = record { header = B.header; help = B.help; entries = put_at B.entries j c e }

-- an accepted call: its message and delivery, and the bytes that mean the book with the named entry as the step leaves it
unfoldable pub entered : List ℕ → (sender number : ℕ) → Out → Result
unfolding letter
entered b j c o =
    record {
      given = handed o.answer (letters (season_of b) j c o.message) o.delivery;
      book = write (with_entry (meant b) j c o.entry);
    }

-- an accepted publication at number c
unfoldable pub published_at : List ℕ → (number : ℕ) → Decl → Result
unfolding entered
published_at b c v = entered b (own_of b) c (publishes v (look b (own_of b) c))
