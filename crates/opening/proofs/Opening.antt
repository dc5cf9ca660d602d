-- A blank buffer of the book's length is a fresh book; what opening answers.
use Prim.Native.Nat.{ℕ, ◌+◌, ◌*◌, ◌-◌, ◌<◌}
use mathlib.Core.Path.{◌≡◌, refl, sym, ap, ◌∙◌}
use mathlib.Core.Bool.{Bool, true, false}
use mathlib.Core.List.{List, [], ◌∷◌, ◌++◌, append_assoc}
use native.Mathlib.Omega.{arith}
use lib.ListN.{length, replicate, replicate-append-replicate}
use borrow.Author.Tests.{eq-eqb, ne_eqb}
use Rattle.words.specs.Words.{Bytes, be32}
use Rattle.sheet.specs.Kept.{is_sheet, sheet_at}
use Rattle.sheet.proofs.OneForm.{bytes_of_sheet}
use Rattle.sheet.proofs.Gates.{sheet_sized}
use Rattle.meaning.specs.Layout.{helped_place, head_length, slot_length, slot_count, length_of}
use Rattle.meaning.specs.Book.{rows, help_bytes, head, write}
use Rattle.meaning.proofs.Rows.{rows_zeros}
use Rattle.meaning.specs.Opening.{headed, fresh_book, Opened, allowed, opened}
use Rattle.meaning.proofs.Opening.{allowed_facts, fresh_written}
use Rattle.sizes.proofs.Sizes.{allowed_n, allowed_numbers, allowed_own, allowed_down, allowed_limit}
use Rattle.opening.specs.Parts.{blank}

-- what is allowed is written in a byte each
pub allowed_bytes : (n s own f d : ℕ) → allowed n s own f d ≡ true → (n < 256) × (s < 256) × (own < 256) × (f < 256) × (d < 256)
allowed_bytes n s own f d t = (
  allowed_n n s own f d _ refl t,
  allowed_numbers n s own f d _ refl t,
  allowed_own n s own f d _ refl t,
  allowed_down n s own f d _ refl t,
  allowed_limit n s own f d _ refl t,
)

module _ (b : List ℕ) (n s own f d season : ℕ) (sheet : List ℕ) where
  blank_fresh : own < n → Bytes sheet → is_sheet sheet ≡ true → length b ≡ length_of n s
      → blank (length b) n s own f d season sheet ≡ write (fresh_book (headed n s own f season (sheet_at sheet 0)) d)
  unfolding blank head help_bytes length_of head_length
  blank_fresh o x h l =
      let k : length b - helped_place 0 ≡ n * 1 + slot_length * slot_count n s = omega arith in
      let zeros : rows n (λ p. 0 ∷ []) ++ replicate (slot_length * slot_count n s) 0 ≡ replicate (n * 1 + slot_length * slot_count n s) 0 =
      ap (λ (l : List ℕ). l ++ replicate (slot_length * slot_count n s) 0) (rows_zeros n 1)
      ∙ replicate-append-replicate (n * 1) (slot_length * slot_count n s) 0
      in
      rw (k, fresh_written (headed n s own f season (sheet_at sheet 0)) d o, bytes_of_sheet sheet x h)
      (ap (λ (l : List ℕ). n ∷ s ∷ own ∷ be32 season ++ (sheet ++ (f ∷ d ∷ l))) (sym zeros)
      ∙ ap (λ (l : List ℕ). n ∷ s ∷ own ∷ be32 season ++ l)
      (sym (append_assoc sheet (f ∷ d ∷ rows n (λ p. 0 ∷ [])) (replicate (slot_length * slot_count n s) 0))))

  -- the answers of `open_book`, by what its parts answered
  module _ (r : Bool) (e : r ≡ allowed n s own f d) where
    pub opens_9 : r ≡ false → ◌≡◌ {A = Opened} (record { answer = 9; book = b }) (opened b n s own f d season sheet)
    unfolding opened
    opens_9 z = rw (← e, z)

    module _ (x : Bool) (t : r ≡ true) (q : x ≡ is_sheet sheet) where
      pub opens_10 : x ≡ false → ◌≡◌ {A = Opened} (record { answer = 10; book = b }) (opened b n s own f d season sheet)
      unfolding opened
      opens_10 z = rw (← e, t, ← q, z)

      module _ (l : ℕ) (u : x ≡ true) (k : l ≡ length_of n s) where
        pub opens_11 : (length b ≡ l → ⊥) → ◌≡◌ {A = Opened} (record { answer = 11; book = b }) (opened b n s own f d season sheet)
        unfolding opened
        opens_11 z = rw (← e, t, ← q, u, ← k, ne_eqb _ _ z)

        pub opens_0 : (a : List ℕ) → Bytes sheet → length b ≡ l → a ≡ blank (length b) n s own f d season sheet
            → ◌≡◌ {A = Opened} (record { answer = 0; book = a }) (opened b n s own f d season sheet)
        unfolding opened
        opens_0 a y h w =
            let z = w ∙ blank_fresh (allowed_facts n s own f d (sym e ∙ t)).2 y (sym q ∙ u) (h ∙ k) in
            rw (← e, t, ← q, u, eq-eqb _ _ (h ∙ k)) (λ i. record { answer = 0; book = z i })

-- the answers of `open_book`, for its search
pub ruleset opens = (opens_9, opens_10, opens_11, opens_0, sheet_sized)
