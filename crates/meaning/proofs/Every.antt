-- For every meaning that a book may have there are legal bytes that mean exactly that; and legal bytes are no others.
use Prim.Native.Nat.{ℕ, ◌+◌, ◌*◌, ◌<◌}
use mathlib.Core.Path.{◌≡◌, refl, sym, ap, ◌∙◌, fun_ext}
use mathlib.Core.Logic.{◌↔◌}
use mathlib.Core.Bool.{Bool, true, false, cond}
use mathlib.Core.List.{List, [], ◌∷◌, ◌++◌}
use native.Mathlib.Omega.{arith}
use lib.Dec.{ltb}
use lib.ListN.{length, get_or, length-append}
use borrow.Author.Tests.{ltb-true, ltb-false}
use Rattle.card.specs.Card.{most_down}
use Rattle.card.proofs.Wall.{houses_byte, down_between}
use Rattle.words.specs.Words.{Bytes, be32}
use Rattle.words.proofs.Bytes.{bytes_append, bytes_cons, bytes_zeros, be_bytes}
use Rattle.words.proofs.Laws.{word_be}
use Rattle.sheet.specs.Kept.{sheet_bytes, sheet_at, sheet_legal_at, is_sheet}
use Rattle.sheet.proofs.OneForm.{sheet_of_bytes, legal_bytes, sheet_bytes_lem}
use Rattle.entry.specs.Entry.{Entry, PerEntry}
use Rattle.meaning.specs.Slot.{slot_bytes, part, slot_at, slot_ok}
use Rattle.meaning.specs.Layout.{most_limit, helped_place, head_length, slot_count, length_of, slot_place, slot_length, sheet_place}
use Rattle.meaning.specs.Book.{Header, Help, Meaning, n_of, numbers_of, own_of, season_of, down_of, limit_of, helped_of, slot_of, sheet_of}
use Rattle.meaning.specs.Book.{look, header_of, help_of, meant, help_bytes, head, rows, write}
use Rattle.meaning.specs.Legal.{legal, IsBook}
use Rattle.meaning.proofs.Parts.{get_d_first, part_before, part_after}
use Rattle.meaning.proofs.Legality.{facts_legal, slots_all}
use Rattle.meaning.proofs.Places.{numbers_byte}
use Rattle.meaning.proofs.Slots.{slot_part, ok_part, slot_of_bytes, ok_of_bytes, slot_bytes_length, slot_bytes_bytes}
use Rattle.meaning.proofs.Entries.{entries_in, look_is, entries_same}
use Rattle.meaning.proofs.Rows.{rows_length, part_rows, rows_bytes}
use Rattle.meaning.proofs.OneForm.{written}
use Rattle.meaning.proofs.Meant.{meant_is_book}
use Rattle.meaning.proofs.Written.{with_entries, write_slots, head_length_lem}
use Rattle.meaning.proofs.Numbered.{slots_of, slots_are_slots, slots_entries}

module _ (B : Meaning) (ok : IsBook B) where
  abbrev h : Header
  h = B.header

  abbrev w : Help
  w = B.help

  abbrev top : List ℕ
  top = head h w

  top_long : length top ≡ head_length h.n
  top_long = head_length_lem h w

  abbrev all : ℕ
  all = slot_count h.n h.numbers

  abbrev each : ℕ → List ℕ
  each k = slot_bytes (slots_of B k)

  each_long : (k : ℕ) → k < all → length (each k) ≡ slot_length
  each_long k l = slot_bytes_length (slots_of B k) (slots_are_slots B ok k)

  written_slots : write B ≡ top ++ rows all each
  written_slots =
      ap (λ (e : PerEntry Entry). write (with_entries B e)) (sym (slots_entries B ok))
      ∙ write_slots h w (slots_of B) ok.header.own

  written_length : length (write B) ≡ length_of h.n h.numbers
  unfolding length_of
  written_length =
      ap length written_slots ∙ length-append top (rows all each) ∙ omega (arith, top_long, rows_length slot_length all each each_long)

  slot_written : (k : ℕ) → k < all → part (write B) (slot_place h.n k) slot_length ≡ each k
  unfolding slot_place
  slot_written k l =
      ap (λ (b : List ℕ). part b (slot_place h.n k) slot_length) written_slots
      ∙ part_after top (rows all each) (slot_place h.n k) (k * slot_length) slot_length (omega (arith, top_long))
      ∙ part_rows slot_length all each each_long k l

  -- ---- the header

  n_written : n_of (write B) ≡ h.n
  unfolding write
  n_written = refl

  numbers_written : numbers_of (write B) ≡ h.numbers
  unfolding write
  numbers_written = refl

  own_written : own_of (write B) ≡ h.own
  unfolding write
  own_written = refl

  season_written : season_of (write B) ≡ h.season
  unfolding write
  season_written = word_be h.season

  sheet_written : sheet_of (write B) ≡ h.sheet
  unfolding write sheet_at sheet_bytes
  sheet_written = sheet_of_bytes h.sheet ok.header.moisture ok.header.conductivity

  down_written : down_of (write B) ≡ h.down
  unfolding write sheet_bytes
  down_written = refl

  limit_written : limit_of (write B) ≡ w.limit
  unfolding write sheet_bytes
  limit_written = refl

  abbrev helps : List ℕ
  helps = rows h.n (λ p. w.helped p ∷ [])

  helps_long : length helps ≡ h.n * 1
  helps_long = rows_length 1 h.n (λ p. w.helped p ∷ []) (λ p l. refl)

  helped_written : (p : ℕ) → p < h.n → get_or (write B) (helped_place p) 0 ≡ w.helped p
  unfolding head sheet_bytes help_bytes
  helped_written p l =
      let before : List ℕ =
      h.n ∷ h.numbers ∷ h.own ∷ be32 h.season ++ (sheet_bytes h.sheet ++ (h.down ∷ w.limit ∷ [])) in
      let e : p ≡ p * 1 = omega arith in
      get_d_first (write B) (helped_place p) 1 (omega arith)
      ∙ ap (λ (l : List ℕ). get_or l 0 0)
      (ap (λ (b : List ℕ). part b (helped_place p) 1) written_slots
      ∙ part_after before (helps ++ rows all each) (helped_place p) p 1 (omega arith)
      ∙ part_before helps (rows all each) p 1 (omega (arith, helps_long))
      ∙ ap (λ (k : ℕ). part helps k 1) e
      ∙ part_rows 1 h.n (λ p. w.helped p ∷ []) (λ p l. refl) p l)

  header_written : header_of (write B) ≡ h
  unfolding header_of
  header_written =
      λ i.
      record {
        n = n_written i;
        numbers = numbers_written i;
        own = own_written i;
        season = season_written i;
        sheet = sheet_written i;
        down = down_written i;
      }

  help_written : help_of (write B) ≡ w
  unfolding help_of helped_of
  help_written = λ i. record { limit = limit_written i; helped = helped i }
    where
      go : (p : ℕ) (t : Bool) → ltb p h.n ≡ t → cond t (get_or (write B) (helped_place p) 0) 0 ≡ w.helped p
      go p true e = helped_written p (ltb-true p h.n e)
      go p false e = sym (ok.help.past p (ltb-false p h.n e))

      helped : (λ (p : ℕ). cond (ltb p (n_of (write B))) (get_or (write B) (helped_place p) 0) 0) ≡ w.helped
      helped = fun_ext (λ p. ap (λ (n : ℕ). cond (ltb p n) (get_or (write B) (helped_place p) 0) 0) n_written ∙ go p (ltb p h.n) refl)

  sheet_legal_written : sheet_legal_at (write B) sheet_place ≡ true
  unfolding write sheet_legal_at is_sheet sheet_bytes
  sheet_legal_written = legal_bytes h.sheet ok.header.moisture ok.header.conductivity ∙ ok.header.sheet

  -- ---- legal

  ok_written : (k : ℕ) → k < all → slot_ok (write B) (slot_place h.n k) ≡ true
  ok_written k l =
      ok_part (write B) (slot_place h.n k) ∙ ap (λ (p : List ℕ). slot_ok p 0) (slot_written k l) ∙ ok_of_bytes (slots_of B k)

  pub written_legal : legal (write B) ≡ true
  written_legal =
      facts_legal (write B)
      (record {
        n = rw n_written ok.header.n;
        numbers = rw numbers_written ok.header.numbers;
        own = rw (own_written, n_written) ok.header.own;
        long = rw (n_written, numbers_written) written_length;
        sheet = sheet_legal_written;
        down = rw (n_written, down_written) ok.header.down;
        limit = rw limit_written ok.help.limit;
        helped = λ p l. let q : p < h.n = omega (arith, n_written) in omega (arith, helped_written p q, limit_written, ok.help.most p);
        slots = rw (n_written, numbers_written) (slots_all (write B) h.n all ok_written);
      })

  -- ---- and it means that

  slot_meant : (k : ℕ) → k < all → slot_of (write B) k ≡ slots_of B k
  unfolding slot_of
  slot_meant k l =
      ap (λ (n : ℕ). slot_at (write B) (slot_place n k)) n_written
      ∙ slot_part (write B) (slot_place h.n k)
      ∙ ap (λ (p : List ℕ). slot_at p 0) (slot_written k l)
      ∙ slot_of_bytes (slots_of B k) (slots_are_slots B ok k)

  look_written : look (write B) ≡ B.entries
  look_written =
      look_is (write B)
      ∙ (λ i. entries_in (n_written i) (numbers_written i) (own_written i) (slot_of (write B)))
      ∙ entries_same h.n h.numbers h.own (slot_of (write B)) (slots_of B) slot_meant
      ∙ slots_entries B ok

  pub written_meant : meant (write B) ≡ B
  unfolding meant
  written_meant = λ i. record { header = header_written i; help = help_written i; entries = look_written i }

  -- ---- and it is bytes

  help_is_bytes : Bytes (help_bytes h.n w)
  unfolding help_bytes most_limit
  help_is_bytes =
      bytes_cons w.limit helps (omega (arith, ok.help.limit))
      (rows_bytes h.n (λ p. w.helped p ∷ [])
      (λ p l. bytes_cons (w.helped p) [] (omega (arith, ok.help.most p, ok.help.limit)) (bytes_zeros 0)))

  top_bytes : Bytes top
  unfolding head most_down
  top_bytes =
      let n = houses_byte h.n ok.header.n in
      let down = down_between h.n h.down ok.header.down in
      let last = h.down ∷ help_bytes h.n w in
      let rest = be32 h.season ++ (sheet_bytes h.sheet ++ last) in
      bytes_cons h.n (h.numbers ∷ h.own ∷ rest) n
      (bytes_cons h.numbers (h.own ∷ rest) (numbers_byte h.numbers ok.header.numbers)
      (bytes_cons h.own rest (omega (arith, ok.header.own))
      (bytes_append (be32 h.season) (sheet_bytes h.sheet ++ last) (be_bytes h.season ok.header.season)
      (bytes_append (sheet_bytes h.sheet) last
      (sheet_bytes_lem h.sheet ok.header.cap ok.header.moisture ok.header.conductivity)
      (bytes_cons h.down (help_bytes h.n w) (omega (arith, down.0)) help_is_bytes)))))

  pub written_bytes : Bytes (write B)
  written_bytes =
      rw written_slots
      (bytes_append top (rows all each) top_bytes (rows_bytes all each (λ k l. slot_bytes_bytes (slots_of B k) (slots_are_slots B ok k))))

-- legal means just that: the bytes of some meaning that a book may have
pub legal_exactly : (b : List ℕ) → Bytes b → (legal b ≡ true) ↔ ((B : Meaning) × IsBook B × (b ≡ write B))
legal_exactly b bytes =
    (λ h. (meant b, meant_is_book b h bytes, sym (written b h bytes)), λ m. rw m.2 (written_legal m.0 m.1))

-- a legal book's slots are those of its meaning
pub slot_is : (b : List ℕ) → legal b ≡ true → Bytes b → (k : ℕ) → k < slot_count (n_of b) (numbers_of b)
    → slot_of b k ≡ slots_of (meant b) k
unfolding meant
slot_is b h bytes k l =
    ap (λ (x : List ℕ). slot_of x k) (sym (written b h bytes)) ∙ slot_meant (meant b) (meant_is_book b h bytes) k l
