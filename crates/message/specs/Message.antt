-- One message, 36 bytes: how it is written, and what reading bytes gives.
use Rattle.std.specs.Prelude.{ℕ, ◌+◌, ◌*◌, ◌/◌, ◌%◌, Bool, cond, ◌&&◌, List, [], ◌∷◌, ◌++◌, leb, eqb, length, get_or, replicate}
use Rattle.std.specs.Prelude.{Some, None}
use Rattle.std.specs.Prelude as std
use Rattle.std.proofs.Math.Option.{Option, none, some}
use Rattle.words.specs.Words.{be32, word_at}
use Rattle.lot.specs.declared.Declaration.{Declaration}
use Rattle.lot.specs.Declaration.{declaration_at, bytes_of}
use Rattle.message.specs.declared.Kind.{Kind}
use Rattle.message.specs.declared.Kind.TheVariants.{Send, Echo, Ready}
use Rattle.message.specs.declared.Message.{Message}
use Rattle.message.specs.declared.Written.{Written}

-- the five things of a message
pub record Five : Type 0 where
  pub kind : ℕ
  pub season : ℕ
  pub sender : ℕ
  pub number : ℕ
  pub declaration : Declaration

-- kind, 1 SEND, 2 ECHO, 3 READY
unfoldable pub is_kind : ℕ → Bool
is_kind k = leb 1 k && leb k 3

abbrev pub number_of : Kind → ℕ
number_of Send = 1
number_of Echo = 2
number_of Ready = 3

-- a tagged field: one-byte tag, two-byte big-endian length, content
abbrev pub field : ℕ → List ℕ → List ℕ
field tag content = tag ∷ length content / 256 ∷ length content % 256 ∷ content

-- tag 1: kind; tag 2: season (4 bytes), sender, number (1 byte each); tag 3: declaration
abbrev pub fields : (kind season sender number : ℕ) → List ℕ → List ℕ
fields kind season sender number d =
    field 1 (kind ∷ []) ++ (field 2 (be32 season ++ (sender ∷ number ∷ [])) ++ field 3 d)

unfoldable pub wire : Five → List ℕ
wire m = fields m.kind m.season m.sender m.number (bytes_of m.declaration)

-- at i stand a tag and a two-byte length
abbrev pub field_at : List ℕ → ℕ → ℕ → ℕ → Bool
field_at bytes i tag len = eqb (get_or bytes i 0) tag && eqb (get_or bytes (i + 1) 0 * 256 + get_or bytes (i + 2) 0) len

-- tag 1, length 1; tag 2, length 6; tag 3, length 20
unfoldable pub tagged : List ℕ → Bool
tagged bytes = field_at bytes 0 1 1 && (field_at bytes 4 2 6 && field_at bytes 13 3 20)

-- exactly these, in this order
unfoldable pub well_formed : List ℕ → Bool
unfolding is_kind tagged
well_formed bytes = eqb (length bytes) 36 && (tagged bytes && is_kind (get_or bytes 3 0))

-- reading alone answers 2 or gives the same five things
pub record Told : Type 0 where
  pub answer : ℕ
  pub five : Option Five

abbrev pub read_as : Five → Told
read_as m = record { answer = 0; five = some m }

abbrev pub malformed : Told
malformed = record { answer = 2; five = none }

unfoldable pub five_at : List ℕ → Five
unfolding declaration_at
five_at bytes =
    record {
      kind = get_or bytes 3 0;
      season = word_at bytes 7;
      sender = get_or bytes 11 0;
      number = get_or bytes 12 0;
      declaration = declaration_at bytes 16;
    }

unfoldable pub read_of : List ℕ → Told
unfolding well_formed five_at
read_of bytes = cond (well_formed bytes) (read_as (five_at bytes)) malformed

-- the five things of a message that was read
abbrev pub five_of : Message → Five
five_of m =
    record {
      kind = number_of m.kind;
      season = m.season;
      sender = m.sender;
      number = m.number;
      declaration = m.declaration;
    }

-- the answer and the five things of what the reader found, if anything
abbrev pub told : std.Option Message → Told
told (Some m) = read_as (five_of m)
told None = malformed

-- the writer hands back the 36 bytes; for another kind it answers 2 and hands back no message, which is zeros
unfoldable pub written_of : ℕ → ℕ → ℕ → ℕ → Declaration → Written
unfolding is_kind wire
written_of kind season sender number d =
    cond (is_kind kind)
    (record {
      answer = 0;
      message = wire (record { kind = kind; season = season; sender = sender; number = number; declaration = d });
    })
    (record { answer = 2; message = replicate 36 0 })

-- a request for help: tag 1, kind 9; tag 2, the season alone
unfoldable pub request_wire : ℕ → List ℕ
request_wire season = field 1 (9 ∷ []) ++ field 2 (be32 season)

unfoldable pub is_request : List ℕ → Bool
is_request bytes = eqb (length bytes) 11 && (field_at bytes 0 1 1 && (field_at bytes 4 2 4 && eqb (get_or bytes 3 0) 9))

-- the season that a request names
unfoldable pub request_of : List ℕ → Option ℕ
unfolding is_request
request_of bytes = cond (is_request bytes) (some (word_at bytes 7)) none
