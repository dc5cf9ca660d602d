-- A book freshly opened is its header and then zeros, legal, and means that nothing was heard, sent, delivered or published.
use Prim.Native.Nat.{ℕ, ◌+◌, ◌*◌, ◌^◌, ◌≤◌, ◌<◌}
use mathlib.Core.Path.{◌≡◌, refl, ap, ◌∙◌, fun_ext}
use mathlib.Core.Bool.{Bool, true, false, cond, ◌&&◌, and-eq-true_iff}
use mathlib.Core.List.{List, ◌++◌}
use mathlib.Core.Option.{Option, none}
use native.Mathlib.Nat.{mul_comm}
use native.Mathlib.Omega.{arith}
use lib.Dec.{eqb, leb, ltb}
use lib.ListN.{length, replicate, length-append, length-replicate}
use borrow.Author.Tests.{eqb-true, ltb-true, leb-true}
use Rattle.card.specs.Card.{houses_ok, down_ok}
use Rattle.words.specs.Words.{Bytes}
use Rattle.words.proofs.Laws.{word_at_small}
use Rattle.sheet.specs.Kept.{kept_at, sheet_at, is_sheet}
use Rattle.sheet.proofs.Gates.{sheet_legal_lem}
use Rattle.sheet.proofs.OneForm.{gate_fits}
use Rattle.entry.specs.Entry.{Decl, fresh}
use Rattle.meaning.specs.Slot.{slot_bytes}
use Rattle.meaning.specs.Layout.{numbers_ok, most_limit, slot_length, slot_count, length_of}
use Rattle.meaning.specs.Book.{Header, Meaning, meant, head, write}
use Rattle.meaning.specs.Legal.{legal, IsBook}
use Rattle.meaning.specs.Opening.{headed, fresh_help, fresh_book, allowed, Opened, opened}
use Rattle.meaning.proofs.Entries.{entry_in, entries_in}
use Rattle.meaning.proofs.Rows.{rows_zeros}
use Rattle.meaning.proofs.Written.{write_slots, head_length_lem}
use Rattle.meaning.proofs.Meant.{fresh_is_entry}
use Rattle.meaning.proofs.Every.{written_legal, written_meant, written_bytes}

-- ---- the header and then zeros

module _ (h : Header) (d : ℕ) (below : h.own < h.n) where
  abbrev n : ℕ
  n = h.n

  abbrev s : ℕ
  s = h.numbers

  abbrev own : ℕ
  own = h.own

  none_fresh : (λ (j c : ℕ). fresh) ≡ entries_in n s own (λ k. none)
  none_fresh = fun_ext (λ j. fun_ext (λ c. go j c (ltb j n && ltb c s)))
    where
      houses_none : (t : Bool) → ◌≡◌ {A = Option Decl} none (cond t none none)
      houses_none true = refl
      houses_none false = refl

      entry_none : (j c : ℕ) → fresh ≡ entry_in n s own (λ k. none) j c
      entry_none j c =
          λ i.
          record {
            send = none;
            echo = λ p. houses_none (ltb p n) i;
            ready = λ p. houses_none (ltb p n) i;
            ready_sent = none;
            delivered = none;
            published = houses_none (eqb j own) i;
          }

      go : (j c : ℕ) (t : Bool) → fresh ≡ cond t (entry_in n s own (λ k. none) j c) fresh
      go j c true = entry_none j c
      go j c false = refl

  pub fresh_written : write (fresh_book h d) ≡ head h (fresh_help d) ++ replicate (slot_length * slot_count n s) 0
  unfolding slot_bytes
  fresh_written =
      (λ i. write (record { header = h; help = fresh_help d; entries = none_fresh i }))
      ∙ write_slots h (fresh_help d) (λ k. none) below
      ∙ ap (λ (l : List ℕ). head h (fresh_help d) ++ l)
      (rows_zeros (slot_count n s) slot_length ∙ ap (λ (m : ℕ). replicate m 0) (mul_comm (slot_count n s) slot_length))

  fresh_length : length (write (fresh_book h d)) ≡ length_of n s
  unfolding length_of
  fresh_length =
      ap length fresh_written
      ∙ length-append (head h (fresh_help d)) (replicate (slot_length * slot_count n s) 0)
      ∙ (λ i. head_length_lem h (fresh_help d) i + length-replicate {A = ℕ} (slot_length * slot_count n s) 0 i)

-- ---- legal, and nothing in it

pub allowed_facts : (n s own f d : ℕ) → allowed n s own f d ≡ true
    → (houses_ok n ≡ true) × (numbers_ok s ≡ true) × (own < n) × (down_ok n f ≡ true) × (d ≤ most_limit)
unfolding allowed
allowed_facts n s own f d h =
    let p = (and-eq-true_iff (houses_ok n) (numbers_ok s && (ltb own n && (down_ok n f && leb d most_limit)))).0 h in
    let q = (and-eq-true_iff (numbers_ok s) (ltb own n && (down_ok n f && leb d most_limit))).0 p.1 in
    let r = (and-eq-true_iff (ltb own n) (down_ok n f && leb d most_limit)).0 q.1 in
    let t = (and-eq-true_iff (down_ok n f) (leb d most_limit)).0 r.1 in
    (p.0, q.0, ltb-true own n r.0, t.0, leb-true d most_limit t.1)

module _ (n s own f d season : ℕ) (sheet : List ℕ) (ok : allowed n s own f d ≡ true)
    (small : season < 2 ^ 32) (bytes : Bytes sheet) (h : is_sheet sheet ≡ true) where
  abbrev header : Header
  header = headed n s own f season (sheet_at sheet 0)

  fresh_is_book : IsBook (fresh_book header d)
  unfolding sheet_at
  fresh_is_book =
      let a = allowed_facts n s own f d ok in
      record {
        header = record {
          n = a.0;
          numbers = a.1;
          own = a.2;
          season = small;
          cap = word_at_small sheet bytes 0;
          moisture = gate_fits (kept_at sheet 4);
          conductivity = gate_fits (kept_at sheet 13);
          sheet = sheet_legal_lem sheet h;
          down = a.3;
        };
        help = record { limit = a.4; most = λ p. omega arith; past = λ p l. refl };
        entries = record {
          each = λ j c. fresh_is_entry n;
          others = λ j c d. refl;
          past_sender = λ j c l. refl;
          past_number = λ j c l. refl;
        };
      }

-- ---- opening

pub record Opens (b : List ℕ) (n s own f d : ℕ) (bytes : List ℕ) : Type 0 where
  pub allowed : allowed n s own f d ≡ true
  pub sheet : is_sheet bytes ≡ true
  pub long : length b ≡ length_of n s

module _ (b : List ℕ) (n s own f d season : ℕ) (sheet : List ℕ) where
  abbrev B : Meaning
  B = fresh_book (headed n s own f season (sheet_at sheet 0)) d

  abbrev outcome : Bool → Bool → Bool → Opened
  outcome t u w =
      cond t (cond u (cond w (record { answer = 0; book = write B })
      (record { answer = 11; book = b })) (record { answer = 10; book = b })) (record { answer = 9; book = b })

  -- what answer 0 says
  pub opened_facts : (opened b n s own f d season sheet).answer ≡ 0 → Opens b n s own f d sheet
  unfolding opened
  opened_facts e = go (allowed n s own f d) (is_sheet sheet) (eqb (length b) (length_of n s)) refl refl refl e
    where
      go : (t u w : Bool) → allowed n s own f d ≡ t → is_sheet sheet ≡ u → eqb (length b) (length_of n s) ≡ w
          → (outcome t u w).answer ≡ 0 → Opens b n s own f d sheet
      go true true true p q r e = record { allowed = p; sheet = q; long = eqb-true (length b) (length_of n s) r }
      go true true false p q r e = absurd (omega arith)
      go true false w p q r e = absurd (omega arith)
      go false u w p q r e = absurd (omega arith)

  opened_book : (opened b n s own f d season sheet).answer ≡ 0
      → (opened b n s own f d season sheet).book ≡ write B
  unfolding opened
  opened_book e = go (allowed n s own f d) (is_sheet sheet) (eqb (length b) (length_of n s)) e
    where
      go : (t u w : Bool) → (outcome t u w).answer ≡ 0 → (outcome t u w).book ≡ write B
      go true true true e = refl
      go true true false e = absurd (omega arith)
      go true false w e = absurd (omega arith)
      go false u w e = absurd (omega arith)

  -- a refusal leaves the lent buffer byte for byte
  pub opened_refused : ((opened b n s own f d season sheet).answer ≡ 0 → ⊥) → (opened b n s own f d season sheet).book ≡ b
  unfolding opened
  opened_refused g = go (allowed n s own f d) (is_sheet sheet) (eqb (length b) (length_of n s)) g
    where
      go : (t u w : Bool) → ((outcome t u w).answer ≡ 0 → ⊥) → (outcome t u w).book ≡ b
      go true true true f = absurd (f refl)
      go true true false f = refl
      go true false w f = refl
      go false u w f = refl

  -- opening with answer 0 gives a legal book that means a fresh one
  module _ (small : season < 2 ^ 32) (bytes : Bytes sheet) (e : (opened b n s own f d season sheet).answer ≡ 0) where
    is_book : IsBook B
    is_book = let o = opened_facts e in fresh_is_book n s own f d season sheet o.allowed small bytes o.sheet

    pub opened_legal : legal (opened b n s own f d season sheet).book ≡ true
    opened_legal = rw (opened_book e) (written_legal B is_book)

    pub opened_bytes : Bytes (opened b n s own f d season sheet).book
    opened_bytes = rw (opened_book e) (written_bytes B is_book)

    pub opened_meant : meant (opened b n s own f d season sheet).book ≡ B
    opened_meant = rw (opened_book e) (written_meant B is_book)
