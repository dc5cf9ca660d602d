-- A legal book means what a book may mean: each slot none or 20 bytes, and nothing outside the book.
use Prim.Native.Nat.{ℕ, ◌+◌, ◌≤◌, ◌<◌}
use mathlib.Core.Path.{◌≡◌, refl}
use mathlib.Core.Bool.{Bool, true, false, cond, ◌&&◌}
use mathlib.Core.List.{List}
use mathlib.Core.Option.{Option, none}
use native.Mathlib.Omega.{arith}
use lib.Dec.{eqb, ltb}
use lib.ListN.{get_or}
use borrow.Author.Tests.{ltb-true, le-ltb, ne_eqb}
use Rattle.words.specs.Words.{Bytes}
use Rattle.words.proofs.Laws.{word_at_small}
use Rattle.sheet.specs.Kept.{kept_at, sheet_at}
use Rattle.sheet.proofs.OneForm.{gate_fits}
use Rattle.entry.specs.Entry.{Decl, fresh}
use Rattle.meaning.specs.Layout.{helped_place, per_entry, slot_count, slot_place, entry_slot, send_slot, echo_slot, ready_slot}
use Rattle.meaning.specs.Layout.{ready_sent_slot}
use Rattle.meaning.specs.Layout.{delivered_slot, season_place, sheet_place}
use Rattle.meaning.specs.Book.{n_of, numbers_of, own_of, limit_of, helped_of, header_of, help_of, slot_of, for_houses, look, meant}
use Rattle.meaning.specs.Legal.{legal, IsSlot, IsEntry, IsHeader, IsHelp, AreEntries, IsBook}
use Rattle.meaning.proofs.Legality.{legal_facts, legal_parts, header_within, slot_within_book}
use Rattle.meaning.proofs.Places.{send_below, echo_below, ready_below, ready_sent_below, delivered_below, entry_slot_below}
use Rattle.meaning.proofs.Places.{published_slot_below}
use Rattle.meaning.proofs.Slots.{slot_is_slot}
use Rattle.meaning.proofs.Header.{header_sheet_legal}
use Rattle.meaning.proofs.Entries.{row_in, entry_in, entries_in}

pub fresh_is_entry : (n : ℕ) → IsEntry n fresh
fresh_is_entry n =
    record {
      send = tt;
      echo = λ p. tt;
      ready = λ p. tt;
      ready_sent = tt;
      delivered = tt;
      published = tt;
      echo_past = λ p l. refl;
      ready_past = λ p l. refl;
    }

module _ (n s own : ℕ) (slot : ℕ → Option Decl) (ok : (k : ℕ) → k < slot_count n s → IsSlot (slot k)) where
  houses_slots : (f : ℕ → Option Decl) → ((p : ℕ) → p < n → IsSlot (f p)) → (p : ℕ) → IsSlot (for_houses n f p)
  houses_slots f h p = go (ltb p n) refl
    where
      go : (t : Bool) → ltb p n ≡ t → IsSlot (cond t (f p) none)
      go true e = h p (ltb-true p n e)
      go false e = tt

  past_houses : (f : ℕ → Option Decl) (p : ℕ) → n ≤ p → for_houses n f p ≡ none
  past_houses f p l = rw (le-ltb p n l)

  module _ (j c : ℕ) (hj : j < n) (hc : c < s) where
    row_slot : (i : ℕ) → i < per_entry n → IsSlot (row_in n s slot j c i)
    row_slot i l = ok (entry_slot n s c j i) (entry_slot_below n s c j i hc hj l)

    published_slot_lem : (t : Bool) → IsSlot (cond t (slot c) none)
    published_slot_lem true = ok c (published_slot_below n s c hc)
    published_slot_lem false = tt

    entry_is_entry : IsEntry n (entry_in n s own slot j c)
    entry_is_entry =
        record {
          send = row_slot send_slot (send_below n);
          echo = houses_slots (λ p. row_in n s slot j c (echo_slot p)) (λ p l. row_slot (echo_slot p) (echo_below n p l));
          ready = houses_slots (λ p. row_in n s slot j c (ready_slot n p)) (λ p l. row_slot (ready_slot n p) (ready_below n p l));
          ready_sent = row_slot (ready_sent_slot n) (ready_sent_below n);
          delivered = row_slot (delivered_slot n) (delivered_below n);
          published = published_slot_lem (eqb j own);
          echo_past = past_houses (λ p. row_in n s slot j c (echo_slot p));
          ready_past = past_houses (λ p. row_in n s slot j c (ready_slot n p));
        }

  entries_are_entries : (j c : ℕ) → IsEntry n (entries_in n s own slot j c)
  entries_are_entries j c = go (ltb j n) (ltb c s) refl refl
    where
      go : (t u : Bool) → ltb j n ≡ t → ltb c s ≡ u → IsEntry n (cond (t && u) (entry_in n s own slot j c) fresh)
      go true true a b = entry_is_entry j c (ltb-true j n a) (ltb-true c s b)
      go true false a b = fresh_is_entry n
      go false u a b = fresh_is_entry n

module _ (n s own : ℕ) (slot : ℕ → Option Decl) where
  -- what was published stands at the own sender alone, and nothing stands outside the book
  pub others_published : (j c : ℕ) → (j ≡ own → ⊥) → (entries_in n s own slot j c).published ≡ none
  others_published j c d = go (ltb j n && ltb c s)
    where
      go : (t : Bool) → (cond t (entry_in n s own slot j c) fresh).published ≡ none
      go true = rw (ne_eqb j own d)
      go false = refl

  past_sender_fresh : (j c : ℕ) → n ≤ j → entries_in n s own slot j c ≡ fresh
  past_sender_fresh j c l = rw (le-ltb j n l)

  past_number_fresh : (j c : ℕ) → s ≤ c → entries_in n s own slot j c ≡ fresh
  past_number_fresh j c l = go (ltb j n) (ltb c s) (le-ltb c s l)
    where
      go : (t u : Bool) → u ≡ false → cond (t && u) (entry_in n s own slot j c) fresh ≡ fresh
      go true u e = rw e
      go false u e = refl

module _ (b : List ℕ) (h : legal b ≡ true) (bytes : Bytes b) where
  slots_are_slots : (k : ℕ) → k < slot_count (n_of b) (numbers_of b) → IsSlot (slot_of b k)
  unfolding slot_of
  slots_are_slots k l = slot_is_slot b (slot_place (n_of b) k) (slot_within_book b (legal_parts b (legal_facts b h)) k l) bytes

  helped_most : (p : ℕ) → helped_of b p ≤ limit_of b
  unfolding helped_of
  helped_most p = go (ltb p (n_of b)) refl
    where
      go : (t : Bool) → ltb p (n_of b) ≡ t → cond t (get_or b (helped_place p) 0) 0 ≤ limit_of b
      go true e = (legal_facts b h).helped p (ltb-true p (n_of b) e)
      go false e = omega arith

  header_is : IsHeader (header_of b)
  unfolding header_of sheet_at
  header_is =
      let f = legal_facts b h in
      record {
        n = f.n;
        numbers = f.numbers;
        own = f.own;
        season = word_at_small b bytes season_place;
        cap = word_at_small b bytes sheet_place;
        moisture = gate_fits (kept_at b (sheet_place + 4));
        conductivity = gate_fits (kept_at b (sheet_place + 13));
        sheet = header_sheet_legal b (header_within b (legal_parts b f)) bytes f.sheet;
        down = f.down;
      }

  help_is : IsHelp (n_of b) (help_of b)
  unfolding help_of helped_of
  help_is = record { limit = (legal_facts b h).limit; most = helped_most; past = λ p l. rw (le-ltb p (n_of b) l) }

  entries_are : AreEntries (header_of b) (look b)
  unfolding header_of look
  entries_are =
      record {
        each = entries_are_entries (n_of b) (numbers_of b) (own_of b) (slot_of b) slots_are_slots;
        others = others_published (n_of b) (numbers_of b) (own_of b) (slot_of b);
        past_sender = past_sender_fresh (n_of b) (numbers_of b) (own_of b) (slot_of b);
        past_number = past_number_fresh (n_of b) (numbers_of b) (own_of b) (slot_of b);
      }

  pub meant_is_book : IsBook (meant b)
  unfolding meant
  meant_is_book = record { header = header_is; help = help_is; entries = entries_are }
