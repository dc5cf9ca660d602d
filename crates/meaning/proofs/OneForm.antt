-- A legal book is the bytes of its meaning, so two legal books with the same meaning are the same bytes; and the bytes after a store.
use Prim.Native.Nat.{ℕ, ◌+◌, ◌*◌}
use mathlib.Core.Path.{◌≡◌, sym, ap, ap₂, ◌∙◌}
use mathlib.Core.Bool.{true}
use mathlib.Core.List.{List, ◌++◌}
use native.Mathlib.Omega.{arith}
use Rattle.words.specs.Words.{Bytes}
use Rattle.entry.specs.Entry.{Entry, put_at}
use Rattle.meaning.specs.Slot.{slot_bytes, part}
use Rattle.meaning.specs.Layout.{head_length, slot_count, length_of, slot_place, slot_length}
use Rattle.meaning.specs.Book.{n_of, numbers_of, header_of, help_of, slot_of, look, meant, rows, write}
use Rattle.meaning.specs.Legal.{legal, Legal}
use Rattle.meaning.proofs.Parts.{part_all, part_add}
use Rattle.meaning.proofs.Legality.{legal_facts, legal_parts, slots_at, header_within, slot_within_book}
use Rattle.meaning.proofs.Slots.{ok_bytes}
use Rattle.meaning.proofs.Header.{header_bytes}
use Rattle.meaning.proofs.Stores.{Stored}
use Rattle.meaning.proofs.Rows.{rows_parts}
use Rattle.meaning.proofs.Written.{with_entries, write_slots}

-- ---- a legal book is the bytes of its meaning

module _ (b : List ℕ) (h : legal b ≡ true) (bytes : Bytes b) where
  facts : Legal b
  facts = legal_facts b h

  slots_part : rows (slot_count (n_of b) (numbers_of b)) (λ k. slot_bytes (slot_of b k))
      ≡ part b (head_length (n_of b)) (slot_count (n_of b) (numbers_of b) * slot_length)
  unfolding slot_of slot_place head_length
  slots_part =
      rows_parts slot_length b (head_length (n_of b)) (slot_count (n_of b) (numbers_of b)) (λ k. slot_bytes (slot_of b k))
      (λ k l.
      let e : head_length (n_of b) + slot_length * k ≡ head_length (n_of b) + k * slot_length = omega arith in
      ok_bytes b (slot_place (n_of b) k) (slot_within_book b (legal_parts b facts) k l)
      (slots_at b (n_of b) (slot_count (n_of b) (numbers_of b)) facts.slots k l)
      ∙ ap (λ (at : ℕ). part b at slot_length) e)

  pub written : write (meant b) ≡ b
  unfolding meant length_of head_length
  written =
      let e : head_length (n_of b) ≡ 0 + (head_length (n_of b)) = omega arith in
      write_slots (header_of b) (help_of b) (slot_of b) facts.own
      ∙ ap₂ ◌++◌ (header_bytes b (header_within b (legal_parts b facts)) bytes facts.sheet) slots_part
      ∙ ap (λ (k : ℕ). part b 0 (head_length (n_of b)) ++ part b k (slot_count (n_of b) (numbers_of b) * slot_length)) e
      ∙ sym (part_add b 0 (head_length (n_of b)) (slot_count (n_of b) (numbers_of b) * slot_length))
      ∙ part_all b (head_length (n_of b) + slot_count (n_of b) (numbers_of b) * slot_length) (omega (arith, facts.long))

-- one byte form per meaning
pub same_bytes : (b c : List ℕ) → legal b ≡ true → legal c ≡ true → Bytes b → Bytes c → meant b ≡ meant c → b ≡ c
same_bytes b c h k p q e = sym (written b h p) ∙ ap write e ∙ written c k q

-- ---- the bytes after a store are those of the meaning after it

module _ (b a : List ℕ) (j c : ℕ) (e : Entry) (s : Stored b a j c e) where
  pub stored_meant : meant a ≡ with_entries (meant b) (put_at (look b) j c e)
  unfolding meant
  stored_meant = λ i. record { header = s.header i; help = s.help i; entries = s.entries i }

  pub stored_bytes : a ≡ write (with_entries (meant b) (put_at (look b) j c e))
  stored_bytes = sym (written a s.legal s.bytes) ∙ ap write stored_meant
