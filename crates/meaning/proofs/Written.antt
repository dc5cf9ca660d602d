-- The bytes of a meaning are its header and then its slots, one after the other.
use Prim.Native.Nat.{ℕ, ◌+◌, ◌*◌, ◌<◌}
use mathlib.Core.Path.{◌≡◌, refl, sym, ap, ◌∙◌}
use mathlib.Core.List.{List, [], ◌∷◌, ◌++◌}
use lib.ListN.{length}
use Rattle.sheet.specs.Kept.{sheet_bytes}
use mathlib.Core.Option.{Option}
use native.Mathlib.Nat.{add_assoc}
use native.Mathlib.Omega.{arith}
use borrow.Author.Tests.{eq-eqb, lt-ltb}
use Rattle.entry.specs.Entry.{Decl, Entry, PerEntry}
use Rattle.meaning.specs.Slot.{slot_bytes}
use Rattle.meaning.specs.Layout.{head_length, per_entry, slot_count, entry_slot, echo_slot, ready_slot, ready_sent_slot, delivered_slot}
use Rattle.meaning.specs.Book.{Header, Help, Meaning, for_houses, help_bytes, head, rows, entry_bytes, write}
use Rattle.meaning.proofs.Rows.{rows_same, rows_add, rows_flat, rows_length}
use Rattle.meaning.proofs.Entries.{entry_from, row_in, published_in, entries_in, entries_in_lem}

-- the same book with other entries
abbrev pub with_entries : Meaning → PerEntry Entry → Meaning
with_entries B entries = record { header = B.header; help = B.help; entries = entries }

in_houses : (n : ℕ) (f : ℕ → Option Decl) (p : ℕ) → p < n → f p ≡ for_houses n f p
in_houses n f p l = rw (lt-ltb p n l)

-- the entry's bytes are its row's
pub entry_rows : (n : ℕ) (row : ℕ → Option Decl) (o : Option Decl)
    → entry_bytes n (entry_from n row o) ≡ rows (per_entry n) (λ i. slot_bytes (row i))
unfolding entry_bytes per_entry rows
entry_rows n row o =
    let count : per_entry n ≡ 1 + (n + (n + 2)) = omega arith in
    let echo = rows_same n (λ p. f (1 + p)) (λ p. slot_bytes (for_houses n echoes p)) (λ p l. ap slot_bytes (in_houses n echoes p l)) in
    let ready =
    rows_same n (λ p. f (1 + (n + p))) (λ p. slot_bytes (for_houses n readies p))
    (λ p l. let e : 1 + (n + p) ≡ ready_slot n p = omega arith in ap f e ∙ ap slot_bytes (in_houses n readies p l))
    in
    let sent : 1 + (n + (n + 0)) ≡ ready_sent_slot n = omega arith in
    let delivered : 1 + (n + (n + 1)) ≡ delivered_slot n = omega arith in
    sym
    (ap (λ (x : ℕ). rows x f) count
    ∙ rows_add 1 (n + (n + 2)) f
    ∙ ap (λ (l : List ℕ). f 0 ++ l) (rows_add n (n + 2) (λ k. f (1 + k)))
    ∙ ap (λ (l : List ℕ). f 0 ++ (rows n (λ k. f (1 + k)) ++ l)) (rows_add n 2 (λ k. f (1 + (n + k))))
    ∙ (λ i. f 0 ++ (echo i ++ (ready i ++ (f (sent i) ++ f (delivered i))))))
  where
    f : ℕ → List ℕ
    f i = slot_bytes (row i)

    echoes : ℕ → Option Decl
    echoes p = row (echo_slot p)

    readies : ℕ → Option Decl
    readies p = row (ready_slot n p)

module _ (h : Header) (w : Help) (slot : ℕ → Option Decl) (below : h.own < h.n) where
  abbrev n : ℕ
  n = h.n

  abbrev s : ℕ
  s = h.numbers

  abbrev own : ℕ
  own = h.own

  -- the slots after the published ones, and those of one entry
  abbrev past : ℕ → List ℕ
  past k = slot_bytes (slot (s + k))

  abbrev one_row : ℕ → List ℕ
  one_row r = rows (per_entry n) (λ i. past (r * per_entry n + i))

  published_written : rows s (λ c. slot_bytes (entries_in n s own slot own c).published) ≡ rows s (λ c. slot_bytes (slot c))
  published_written =
      rows_same s (λ c. slot_bytes (entries_in n s own slot own c).published) (λ c. slot_bytes (slot c))
      (λ c l. ap (λ (e : Entry). slot_bytes e.published) (entries_in_lem n s own slot own c below l) ∙ rw (eq-eqb own own refl))

  entry_written : (c j : ℕ) → c < s → j < n → entry_bytes n (entries_in n s own slot j c) ≡ one_row (c * n + j)
  unfolding entry_slot
  entry_written c j lc lj =
      ap (entry_bytes n) (entries_in_lem n s own slot j c lj lc)
      ∙ entry_rows n (row_in n s slot j c) (published_in own slot j c)
      ∙ rows_same (per_entry n) (λ i. slot_bytes (row_in n s slot j c i)) (λ i. past ((c * n + j) * per_entry n + i))
      (λ i l. ap (λ (k : ℕ). slot_bytes (slot k)) (add_assoc s ((c * n + j) * per_entry n) i))

  entries_written : rows s (λ c. rows n (λ j. entry_bytes n (entries_in n s own slot j c))) ≡ rows (s * n * per_entry n) past
  entries_written =
      rows_same s (λ c. rows n (λ j. entry_bytes n (entries_in n s own slot j c))) (λ c. rows n (λ j. one_row (c * n + j)))
      (λ c lc. rows_same n (λ j. entry_bytes n (entries_in n s own slot j c)) (λ j. one_row (c * n + j)) (λ j lj. entry_written c j lc lj))
      ∙ rows_flat s n one_row
      ∙ rows_flat (s * n) (per_entry n) past

  abbrev pub meaning_of : Meaning
  meaning_of = record { header = h; help = w; entries = entries_in n s own slot }

  pub write_slots : write meaning_of ≡ head h w ++ rows (slot_count n s) (λ k. slot_bytes (slot k))
  unfolding write slot_count
  write_slots =
      (λ i. head h w ++ (published_written i ++ entries_written i))
      ∙ ap (λ (l : List ℕ). head h w ++ l) (sym (rows_add s (s * n * per_entry n) (λ k. slot_bytes (slot k))))

pub head_length_lem : (h : Header) (w : Help) → length (head h w) ≡ head_length h.n
unfolding head sheet_bytes help_bytes head_length
head_length_lem h w = omega (arith, rows_length 1 h.n (λ p. w.helped p ∷ []) (λ p l. refl))
