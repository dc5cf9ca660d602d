-- The bytes before the slots: what they mean hangs on them alone, and they are written back as they stood.
use Prim.Native.Nat.{ℕ, zero, suc, ◌+◌, ◌*◌, ◌≤◌, ◌<◌}
use native.Mathlib.Nat.{add-zero}
use mathlib.Core.Path.{◌≡◌, refl, sym, ap, ap₂, ◌∙◌, fun_ext}
use mathlib.Core.Bool.{Bool, true, false, cond}
use mathlib.Core.List.{List, [], ◌∷◌, ◌++◌}
use native.Mathlib.Omega.{arith}
use lib.ListN.{length, get_or}
use lib.Dec.{ltb}
use borrow.Author.Tests.{eq-eqb, ltb-true, lt-ltb}
use Rattle.words.specs.Words.{Bytes}
use Rattle.words.proofs.Laws.{be_word_at}
use Rattle.words.proofs.Listed.{listed, listed_is}
use Rattle.sheet.specs.Sheet.{sheet_legal}
use Rattle.sheet.specs.Kept.{sheet_length, sheet_bytes, sheet_at, sheet_legal_at, is_sheet}
use Rattle.sheet.proofs.Gates.{legal_sheet}
use Rattle.sheet.proofs.OneForm.{bytes_of_sheet}
use Rattle.meaning.specs.Slot.{part}
use Rattle.meaning.specs.Book.{n_of, numbers_of, own_of, down_of, limit_of, helped_of, header_of, help_of, help_bytes, head, sheet_of}
use Rattle.meaning.specs.Layout.{down_place, limit_place, helped_place, head_length, season_place, sheet_place}
use Rattle.meaning.proofs.Agree.{agree_n}
use Rattle.meaning.proofs.Rows.{rows_same, rows_parts}
use Rattle.meaning.proofs.Parts.{part_length, get_d_part, part_add, bytes_part}

listed_same : (m : ℕ) (f g : ℕ → ℕ) → ((i : ℕ) → i < m → f i ≡ g i) → listed m f ≡ listed m g
listed_same zero f g h = refl
listed_same (suc m) f g h =
    ap₂ ◌∷◌ (h 0 (omega arith)) (listed_same m (λ i. f (suc i)) (λ i. g (suc i)) (λ i l. h (suc i) (omega arith)))

-- ---- two books with the same bytes before d

module _ (b c : List ℕ) (same : (i : ℕ) → i < limit_place → get_or b i 0 ≡ get_or c i 0) where
  listed_header : listed limit_place (λ i. get_or b i 0) ≡ listed limit_place (λ i. get_or c i 0)
  listed_header = listed_same limit_place (λ i. get_or b i 0) (λ i. get_or c i 0) same

  pub same_header : header_of b ≡ header_of c
  unfolding header_of sheet_at
  same_header = ap header_of listed_header

  pub same_sheet_legal : sheet_legal_at b sheet_place ≡ sheet_legal_at c sheet_place
  unfolding sheet_legal_at
  same_sheet_legal = ap (λ (h : List ℕ). sheet_legal_at h sheet_place) listed_header

-- ---- two books with the same bytes before the slots

module _ (b c : List ℕ) (same : (i : ℕ) → i < head_length (n_of c) → get_or b i 0 ≡ get_or c i 0) where
  pub same_first : (i : ℕ) → i < limit_place → get_or b i 0 ≡ get_or c i 0
  unfolding head_length
  same_first i l = same i (omega arith)

  pub same_limit : limit_of b ≡ limit_of c
  unfolding head_length
  same_limit = same limit_place (omega arith)

  pub same_helped : (p : ℕ) → p < n_of c → get_or b (helped_place p) 0 ≡ get_or c (helped_place p) 0
  unfolding head_length
  same_helped p l = same (helped_place p) (omega arith)

  pub same_help : help_of b ≡ help_of c
  unfolding help_of helped_of
  same_help =
      let n = agree_n b c (same_header b c same_first) in
      let helped = fun_ext (λ p. ap (λ (n : ℕ). cond (ltb p n) (get_or b (helped_place p) 0) 0) n ∙ go p (ltb p (n_of c)) refl) in
      λ i. record { limit = same_limit i; helped = helped i }
    where
      go : (p : ℕ) (t : Bool) → ltb p (n_of c) ≡ t → cond t (get_or b (helped_place p) 0) 0 ≡ cond t (get_or c (helped_place p) 0) 0
      go p true e = same_helped p (ltb-true p (n_of c) e)
      go p false e = refl

-- ---- the sheet's bytes by themselves

module _ (b : List ℕ) (all : head_length (n_of b) ≤ length b) where
  long : down_place ≤ length b
  unfolding head_length
  long = omega (arith, all)

  abbrev kept : List ℕ
  kept = part b sheet_place sheet_length

  kept_long : length kept ≡ sheet_length
  kept_long = part_length b sheet_place sheet_length long

  sheet_listed : listed sheet_length (λ i. get_or b (sheet_place + i) 0) ≡ kept
  sheet_listed =
      listed_same sheet_length (λ i. get_or b (sheet_place + i) 0) (λ i. get_or kept i 0)
      (λ i l. sym (get_d_part b sheet_place sheet_length i l))
      ∙ sym (listed_is kept sheet_length kept_long)

  sheet_part : sheet_of b ≡ sheet_at kept 0
  unfolding sheet_at
  sheet_part = ap (λ (h : List ℕ). sheet_at h 0) sheet_listed

  legal_part : sheet_legal_at b sheet_place ≡ sheet_legal_at kept 0
  unfolding sheet_legal_at
  legal_part = ap (λ (h : List ℕ). sheet_legal_at h 0) sheet_listed

  module _ (bytes : Bytes b) (h : sheet_legal_at b sheet_place ≡ true) where
    kept_is_sheet : is_sheet kept ≡ true
    unfolding is_sheet
    kept_is_sheet = rw (eq-eqb (length kept) sheet_length kept_long) (sym legal_part ∙ h)

    pub header_sheet_legal : sheet_legal (sheet_of b) ≡ true
    header_sheet_legal = legal_sheet b sheet_place h

    header_sheet_bytes : sheet_bytes (sheet_of b) ≡ kept
    header_sheet_bytes = ap sheet_bytes sheet_part ∙ bytes_of_sheet kept (bytes_part b sheet_place sheet_length bytes) kept_is_sheet

    -- d and the help given
    one : (at : ℕ) → at + 1 ≤ length b → get_or b at 0 ∷ [] ≡ part b at 1
    one at l =
        sym (listed_is (part b at 1) 1 (part_length b at 1 l)
        ∙ listed_same 1 (λ i. get_or (part b at 1) i 0) (λ i. get_or b (at + i) 0) (get_d_part b at 1)
        ∙ ap (λ (k : ℕ). get_or b k 0 ∷ []) (add-zero at))

    help_bytes_lem : help_bytes (n_of b) (help_of b) ≡ part b limit_place (1 + n_of b)
    unfolding help_bytes help_of helped_of head_length
    help_bytes_lem =
        let bytes : n_of b * 1 ≡ n_of b = omega arith in
        let helped =
        rows_same (n_of b) (λ p. cond (ltb p (n_of b)) (get_or b (helped_place p) 0) 0 ∷ []) (λ p. get_or b (helped_place p) 0 ∷ [])
        (λ p l. rw (lt-ltb p (n_of b) l))
        ∙ rows_parts 1 b (helped_place 0) (n_of b) (λ p. get_or b (helped_place p) 0 ∷ [])
        (λ p l.
        let e : helped_place p ≡ helped_place 0 + p * 1 = omega arith in
        one (helped_place p) (omega (arith, all)) ∙ ap (λ (k : ℕ). part b k 1) e)
        ∙ ap (λ (m : ℕ). part b (helped_place 0) m) bytes
        in
        (λ i. one limit_place (omega (arith, all)) i ++ helped i) ∙ sym (part_add b limit_place 1 (n_of b))

    -- the header and the help are written back as they stood
    pub header_bytes : head (header_of b) (help_of b) ≡ part b 0 (head_length (n_of b))
    unfolding head header_of head_length
    header_bytes =
        let first =
        listed_is (part b 0 sheet_place) sheet_place (part_length b 0 sheet_place (omega (arith, all)))
        ∙ listed_same sheet_place (λ i. get_or (part b 0 sheet_place) i 0) (λ i. get_or b (0 + i) 0) (get_d_part b 0 sheet_place)
        in
        let rest : ℕ = 1 + (1 + n_of b) in
        let size : head_length (n_of b) ≡ sheet_place + (sheet_length + (1 + (1 + n_of b))) = omega arith in
        sym
        (ap (λ (m : ℕ). part b 0 m) size
        ∙ part_add b 0 sheet_place (sheet_length + rest)
        ∙ ap (λ (l : List ℕ). part b 0 sheet_place ++ l) (part_add b sheet_place sheet_length rest)
        ∙ ap (λ (l : List ℕ). part b 0 sheet_place ++ (kept ++ l)) (part_add b down_place 1 (1 + n_of b))
        ∙ (λ i. first i ++ (sym header_sheet_bytes i ++ (sym (one down_place (omega (arith, all))) i ++ sym help_bytes_lem i)))
        ∙ (λ i.
        n_of b ∷ numbers_of b ∷ own_of b ∷ be_word_at b bytes season_place i
        ++ (sheet_bytes (sheet_of b) ++ (down_of b ∷ help_bytes (n_of b) (help_of b)))))
