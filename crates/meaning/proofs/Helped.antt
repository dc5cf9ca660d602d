-- One more help counted in a book with a legal head: the head stays legal, no slot changes, and it means the same but for that count.
use Prim.Native.Nat.{ℕ, suc, ◌+◌, ◌≤◌, ◌<◌}
use mathlib.Core.Path.{◌≡◌, refl, sym, ap, ◌∙◌, fun_ext}
use mathlib.Core.Logic.{◌≢◌}
use mathlib.Core.Bool.{Bool, true, false, cond}
use mathlib.Core.List.{List}
use native.Mathlib.Decide.{ℕ_discrete}
use native.Mathlib.Omega.{arith}
use lib.Dec.{eqb, ltb}
use lib.ListN.{get_or, set, take, drop, length-drop, length-set}
use lib.Seq.{get_or-set_same, get_or-set_other, get_or-drop, ext_get_or}
use borrow.Author.Tests.{eqb-true, eqb-false, lt-ltb}
use Rattle.words.specs.Words.{Bytes}
use Rattle.entry.specs.Lists.{upd}
use Rattle.meaning.specs.Slot.{part, slot_at, slot_ok}
use Rattle.meaning.specs.Layout.{most_limit, limit_place, helped_place, slot_count, slot_place, entry_slot, slot_length}
use Rattle.meaning.specs.Book.{n_of, numbers_of, own_of, limit_of, helped_of, header_of, help_of, more_help, with_help, count_help, slot_of}
use Rattle.meaning.specs.Book.{meant}
use Rattle.meaning.specs.Legal.{slots_ok, legal, head_legal, entry_legal, Head}
use Rattle.meaning.proofs.Legality.{head_facts, facts_head, head_legal_lem, slots_at, slots_all, entry_at, entry_all, header_within}
use Rattle.meaning.proofs.Places.{helped_within, slot_past_header}
use Rattle.meaning.proofs.Slots.{slot_part, ok_part}
use Rattle.meaning.proofs.Agree.{agree_n, agree_numbers, agree_own, agree_down}
use Rattle.meaning.proofs.Header.{same_header, same_sheet_legal}
use Rattle.meaning.proofs.Entries.{entries_in, look_is}

part_set : (b : List ℕ) (i x at m : ℕ) → i < at → part (set b i x) at m ≡ part b at m
part_set b i x at m l =
    ap (λ (d : List ℕ). take m d)
    (ext_get_or 0 (drop at (set b i x)) (drop at b)
    (length-drop at (set b i x) ∙ omega (arith, length-set b i x, length-drop at b))
    (λ k h. get_or-drop at (set b i x) k 0 ∙ get_or-set_other b i (at + k) x 0 (λ e. omega arith) ∙ sym (get_or-drop at b k 0)))

module _ (b : List ℕ) (h : head_legal b ≡ true) (bytes : Bytes b) (p : ℕ) (lp : p < n_of b)
    (low : get_or b (helped_place p) 0 < limit_of b) where
  facts : Head b
  facts = head_facts b h

  abbrev more : ℕ
  more = suc (get_or b (helped_place p) 0)

  abbrev after : List ℕ
  after = set b (helped_place p) more

  other : (i : ℕ) → i ≢ helped_place p → get_or after i 0 ≡ get_or b i 0
  other i d = get_or-set_other b (helped_place p) i more 0 d

  first : (i : ℕ) → i < helped_place 0 → get_or after i 0 ≡ get_or b i 0
  first i l = other i (λ e. omega arith)

  before : (i : ℕ) → i < limit_place → get_or after i 0 ≡ get_or b i 0
  before i l = first i (omega arith)

  here : get_or after (helped_place p) 0 ≡ more
  here = get_or-set_same b (helped_place p) more 0 (omega (arith, helped_within (n_of b) p lp, header_within b facts))

  header_kept : header_of after ≡ header_of b
  header_kept = same_header after b before

  n_kept : n_of after ≡ n_of b
  n_kept = agree_n after b header_kept

  numbers_kept : numbers_of after ≡ numbers_of b
  numbers_kept = agree_numbers after b header_kept

  own_kept : own_of after ≡ own_of b
  own_kept = agree_own after b header_kept

  limit_kept : limit_of after ≡ limit_of b
  limit_kept = first limit_place (omega arith)

  part_kept : (k : ℕ) → part after (slot_place (n_of b) k) slot_length ≡ part b (slot_place (n_of b) k) slot_length
  part_kept k =
      part_set b (helped_place p) more (slot_place (n_of b) k) slot_length
      (omega (arith, helped_within (n_of b) p lp, slot_past_header (n_of b) k))

  slots_kept : slot_of after ≡ slot_of b
  unfolding slot_of
  slots_kept =
      fun_ext (λ k. ap (λ (x : ℕ). slot_at after (slot_place x k)) n_kept
      ∙ slot_part after (slot_place (n_of b) k) ∙ ap (λ (l : List ℕ). slot_at l 0) (part_kept k)
      ∙ sym (slot_part b (slot_place (n_of b) k)))

  ok_kept : (k : ℕ) → slot_ok after (slot_place (n_of b) k) ≡ slot_ok b (slot_place (n_of b) k)
  ok_kept k =
      ok_part after (slot_place (n_of b) k) ∙ ap (λ (l : List ℕ). slot_ok l 0) (part_kept k) ∙ sym (ok_part b (slot_place (n_of b) k))

  helped_kept : (q : ℕ) → q < n_of after → get_or after (helped_place q) 0 ≤ limit_of after
  helped_kept q l = go (ℕ_discrete q p)
    where
      go : Dec (q ≡ p) → get_or after (helped_place q) 0 ≤ limit_of after
      go (yes e) = rw e (omega (arith, here, limit_kept, low))
      go (no d) = omega (arith, other (helped_place q) (λ e. d (omega arith)), limit_kept, n_kept, facts.helped q (omega (arith, n_kept)))

  pub help_head : head_legal (count_help b p) ≡ true
  unfolding count_help
  help_head =
      facts_head after
      (record {
        n = rw n_kept facts.n;
        numbers = rw numbers_kept facts.numbers;
        own = rw (own_kept, n_kept) facts.own;
        long = rw (n_kept, numbers_kept) (length-set b (helped_place p) more ∙ facts.long);
        sheet = same_sheet_legal after b before ∙ facts.sheet;
        down = rw (n_kept, agree_down after b header_kept) facts.down;
        limit = rw limit_kept facts.limit;
        helped = helped_kept;
      })

  -- each entry's slots stay as they are
  pub help_entry : (j c : ℕ) → entry_legal b j c ≡ true → entry_legal (count_help b p) j c ≡ true
  unfolding count_help
  help_entry j c e =
      entry_all after j c
      (λ i l. (λ x. slot_ok after (slot_place (n_kept x) (entry_slot (n_kept x) (numbers_kept x) c j i)))
      ∙ ok_kept (entry_slot (n_of b) (numbers_of b) c j i) ∙ entry_at b j c e i (rw n_kept at l))

  pub help_legal : slots_ok b (n_of b) (slot_count (n_of b) (numbers_of b)) ≡ true → legal (count_help b p) ≡ true
  unfolding count_help
  help_legal o =
      head_legal_lem after (head_facts after help_head)
      (rw (n_kept, numbers_kept)
      (slots_all after (n_of b) (slot_count (n_of b) (numbers_of b))
      (λ k l. ok_kept k ∙ slots_at b (n_of b) (slot_count (n_of b) (numbers_of b)) o k l)))

  help_after : help_of after ≡ more_help (help_of b) p
  unfolding help_of helped_of
  help_after = λ i. record { limit = limit_kept i; helped = helped i }
    where
      was : ℕ → ℕ
      was q = cond (ltb q (n_of b)) (get_or b (helped_place q) 0) 0

      go : (q : ℕ) (t : Bool) → eqb q p ≡ t → cond (ltb q (n_of b)) (get_or after (helped_place q) 0) 0 ≡ cond t (suc (was p)) (was q)
      go q true e = rw (eqb-true q p e, lt-ltb p (n_of b) lp) here
      go q false e =
          ap (λ (x : ℕ). cond (ltb q (n_of b)) x 0) (other (helped_place q) (λ r. eqb-false q p e (omega arith)))

      helped : (λ (q : ℕ). cond (ltb q (n_of after)) (get_or after (helped_place q) 0) 0) ≡ upd was p (suc (was p))
      helped = fun_ext (λ q. ap (λ (x : ℕ). cond (ltb q x) (get_or after (helped_place q) 0) 0) n_kept ∙ go q (eqb q p) refl)

  pub help_meant : meant (count_help b p) ≡ with_help (meant b) (more_help (help_of b) p)
  unfolding meant count_help
  help_meant =
      let entries =
      look_is after ∙ (λ i. entries_in (n_kept i) (numbers_kept i) (own_kept i) (slots_kept i)) ∙ sym (look_is b)
      in
      λ i. record { header = header_kept i; help = help_after i; entries = entries i }

  pub help_bytes_lem : Bytes (count_help b p)
  unfolding count_help most_limit
  help_bytes_lem i = go (ℕ_discrete i (helped_place p))
    where
      go : Dec (i ≡ helped_place p) → get_or after i 0 < 256
      go (yes e) = rw e (omega (arith, here, low, facts.limit))
      go (no d) = omega (arith, other i d, bytes i)
