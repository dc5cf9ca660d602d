-- What a book means, and the bytes that mean it.
use Rattle.std.specs.Prelude.{ℕ, zero, suc, cond, ◌&&◌, List, [], ◌∷◌, ◌++◌, eqb, ltb, get_or, set, take, drop}
use Rattle.std.proofs.Math.Option.{Option, none}
use Rattle.words.specs.Words.{be32, word_at}
use Rattle.sheet.specs.declared.Sheet.{Sheet}
use Rattle.sheet.specs.Kept.{sheet_bytes, sheet_at}
use Rattle.entry.specs.Entry.{Decl, Entry, fresh, PerEntry}
use Rattle.entry.specs.Lists.{upd}
use Rattle.meaning.specs.Slot.{slot_bytes, slot_at}
use Rattle.meaning.specs.Layout.{n_place, numbers_place, own_place, season_place, sheet_place, down_place, limit_place, helped_place}
use Rattle.meaning.specs.Layout.{slot_place, per_entry, published_slot, entry_slot, send_slot, echo_slot, ready_slot, ready_sent_slot}
use Rattle.meaning.specs.Layout.{delivered_slot}

-- n, S, own number, season, sheet and f: all that publishing, and receiving a message, read beside the entry
pub record Header : Type 0 where
  pub n : ℕ
  pub numbers : ℕ
  pub own : ℕ
  pub season : ℕ
  pub sheet : Sheet
  pub down : ℕ

-- d, and how often each asker was helped, which requests alone read; so the rule between entries asks nothing of it
pub record Help : Type 0 where
  pub limit : ℕ
  pub helped : ℕ → ℕ

-- a header, the help given, and an entry for each sender and number
pub record Meaning : Type 0 where
  pub header : Header
  pub help : Help
  pub entries : PerEntry Entry

-- ---- from bytes to their meaning

abbrev pub n_of : List ℕ → ℕ
n_of b = get_or b n_place 0

abbrev pub numbers_of : List ℕ → ℕ
numbers_of b = get_or b numbers_place 0

abbrev pub own_of : List ℕ → ℕ
own_of b = get_or b own_place 0

abbrev pub season_of : List ℕ → ℕ
season_of b = word_at b season_place

abbrev pub sheet_of : List ℕ → Sheet
sheet_of b = sheet_at b sheet_place

abbrev pub down_of : List ℕ → ℕ
down_of b = get_or b down_place 0

abbrev pub limit_of : List ℕ → ℕ
limit_of b = get_or b limit_place 0

-- how often asker p was helped; none past the last house
unfoldable pub helped_of : List ℕ → ℕ → ℕ
helped_of b p = cond (ltb p (n_of b)) (get_or b (helped_place p) 0) 0

unfoldable pub header_of : List ℕ → Header
header_of b =
    record {
      n = n_of b;
      numbers = numbers_of b;
      own = own_of b;
      season = season_of b;
      sheet = sheet_of b;
      down = down_of b;
    }

unfoldable pub help_of : List ℕ → Help
unfolding helped_of
help_of b = record { limit = limit_of b; helped = helped_of b }

-- one more help for asker p
abbrev pub more_help : Help → ℕ → Help
more_help w p = record { limit = w.limit; helped = upd w.helped p (suc (w.helped p)) }

-- what it means with other help
abbrev pub with_help : Meaning → Help → Meaning
with_help B w = record { header = B.header; help = w; entries = B.entries }

-- the bytes with one more help for asker p counted
unfoldable pub count_help : List ℕ → ℕ → List ℕ
count_help b p = set b (helped_place p) (suc (get_or b (helped_place p) 0))

-- slot k of the book
unfoldable pub slot_of : List ℕ → ℕ → Option Decl
slot_of b k = slot_at b (slot_place (n_of b) k)

-- slot i of the entry of sender j and number c
unfoldable pub slot_in : List ℕ → (sender number i : ℕ) → Option Decl
unfolding slot_of
slot_in b j c i = slot_of b (entry_slot (n_of b) (numbers_of b) c j i)

-- where slot i of the entry of sender j and number c begins
abbrev pub place_in : List ℕ → (sender number i : ℕ) → ℕ
place_in b j c i = slot_place (n_of b) (entry_slot (n_of b) (numbers_of b) c j i)

-- a slot for each house below n
abbrev pub for_houses : ℕ → (ℕ → Option Decl) → ℕ → Option Decl
for_houses n f p = cond (ltb p n) (f p) none

-- the entry of sender j and number c; what it published stands at the own sender alone
unfoldable pub entry_of : List ℕ → (sender number : ℕ) → Entry
unfolding slot_in
entry_of b j c =
    record {
      send = slot_in b j c send_slot;
      echo = for_houses (n_of b) (λ p. slot_in b j c (echo_slot p));
      ready = for_houses (n_of b) (λ p. slot_in b j c (ready_slot (n_of b) p));
      ready_sent = slot_in b j c (ready_sent_slot (n_of b));
      delivered = slot_in b j c (delivered_slot (n_of b));
      published = cond (eqb j (own_of b)) (slot_of b (published_slot c)) none;
    }

-- every entry in the book, and nothing outside
unfoldable pub look : List ℕ → PerEntry Entry
unfolding entry_of
look b j c = cond (ltb j (n_of b) && ltb c (numbers_of b)) (entry_of b j c) fresh

unfoldable pub meant : List ℕ → Meaning
unfolding header_of help_of look
meant b = record { header = header_of b; help = help_of b; entries = look b }

-- ---- from a meaning to its bytes

-- f 0 to f (n - 1), one after the other
unfoldable pub rows : ℕ → (ℕ → List ℕ) → List ℕ
rows zero f = []
rows (suc n) f = rows n f ++ f n

-- d, and a byte for each house
unfoldable pub help_bytes : ℕ → Help → List ℕ
unfolding rows
help_bytes n w = w.limit ∷ rows n (λ p. w.helped p ∷ [])

-- the bytes before the slots
unfoldable pub head : Header → Help → List ℕ
unfolding help_bytes
head h w = h.n ∷ h.numbers ∷ h.own ∷ be32 h.season ++ (sheet_bytes h.sheet ++ (h.down ∷ help_bytes h.n w))

-- a row of slots: SEND, an ECHO from each house, a READY from each house, READY sent, delivered
unfoldable pub entry_bytes : ℕ → Entry → List ℕ
unfolding slot_bytes rows
entry_bytes n e =
    slot_bytes e.send
    ++ (rows n (λ p. slot_bytes (e.echo p))
    ++ (rows n (λ p. slot_bytes (e.ready p)) ++ (slot_bytes e.ready_sent ++ slot_bytes e.delivered)))

unfoldable pub write : Meaning → List ℕ
unfolding head rows slot_bytes entry_bytes
write B =
    let h = B.header in
    head h B.help
    ++ (rows h.numbers (λ c. slot_bytes (B.entries h.own c).published)
    ++ rows h.numbers (λ c. rows h.n (λ j. entry_bytes h.n (B.entries j c))))

-- the bytes with e as the entry of sender j and number c: its row of slots is written, and every other byte stays
unfoldable pub with_row : List ℕ → (sender number : ℕ) → Entry → List ℕ
unfolding entry_bytes
with_row b j c e = take (place_in b j c 0) b ++ (entry_bytes (n_of b) e ++ drop (place_in b j c (per_entry (n_of b))) b)
