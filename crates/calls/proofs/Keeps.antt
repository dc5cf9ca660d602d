-- What a call keeps of a legal book: it stays legal, its header stays but for the help counted, slots only ever fill; and an accepted
-- call's bytes mean the book with the named entry as the step leaves it.
use Prim.Native.Nat.{ℕ, suc, ◌≤◌}
use mathlib.Core.Path.{◌≡◌, refl, sym, ap, subst}
use mathlib.Core.Bool.{Bool, true, false, cond, and-eq-true_iff}
use mathlib.Core.List.{List}
use mathlib.Core.Option.{Option, none, some}
use native.Mathlib.Nat.{le_refl}
use native.Mathlib.Omega.{arith}
use lib.Dec.{T, eqb, ltb}
use borrow.Author.Tests.{eqb-true, eqb-false, ltb-true}
use Rattle.words.specs.Words.{Bytes}
use Rattle.sheet.specs.declared.Sheet.{Sheet}
use Rattle.sheet.specs.Sheet.{plausible}
use Rattle.lot.specs.Declaration.{declaration_at}
use Rattle.message.specs.Message.{Five, read_of, request_of}
use Rattle.entry.specs.Entry.{Decl, Entry, fresh, PerEntry, same_entry, put_at, Filled}
use Rattle.protocol.specs.Steps.{Out, refused}
use Rattle.protocol.specs.Book.{Call, publishing, sender_of, number_of}
use Rattle.protocol.specs.Thresholds.{rules_of}
use Rattle.entry.proofs.Basics.{true_of, and_l, upd_all}
use Rattle.entry.proofs.Filled.{filled_refl}
use Rattle.protocol.proofs.Calls.{outcome_done}
use Rattle.meaning.specs.Book.{Help, helped_of, header_of, help_of, more_help, with_help, count_help, Meaning, n_of, numbers_of, own_of}
use Rattle.meaning.specs.Book.{season_of}
use Rattle.meaning.specs.Book.{sheet_of, look, meant}
use Rattle.meaning.specs.Legal.{legal, IsDecl, IsEntry, IsBook}
use Rattle.meaning.proofs.Entries.{same_entry_lem}
use Rattle.meaning.proofs.Stores.{Stored, stored_none}
use Rattle.meaning.proofs.OneForm.{stored_meant}
use Rattle.meaning.proofs.Meant.{meant_is_book}
use Rattle.meaning.proofs.Legality.{legal_facts, legal_head}
use Rattle.meaning.proofs.Helped.{help_legal, help_bytes_lem, help_meant}
use Rattle.meaning.proofs.Every.{written_legal, written_bytes, written_meant}
use Rattle.calls.specs.declared.Outcome.{Outcome}
use Rattle.calls.specs.Entered.{handed, helping, ok_by, is_decl, rules_by, letters, with_entry, entered}
use Rattle.calls.specs.Call.{refusal, step_of, called, published, asked, heard_from, heard_any, request_answer, requested, received}
use Rattle.calls.specs.Call.{answering}
use Rattle.calls.specs.Keeps.{Keeps}
use Rattle.calls.specs.Calls.{BookCall, publish, receive, search, comeback, sent, answered}
use Rattle.calls.proofs.Requests.{request_from, request_low}
use Rattle.calls.proofs.Fits.{is_decl_lem, Fits, outcome_fits, outcome_in_book, outcome_refused}

-- what is plausible by a sheet is 20 bytes
pub plausible_decl : (s : Sheet) (v : Decl) → T (ok_by s v) → IsDecl v
unfolding ok_by
plausible_decl s v t = is_decl_lem v (true_of (is_decl v) (and_l (is_decl v) (plausible s (declaration_at v 0)) t))

place_all : {A : Type 0} (Φ : ℕ → ℕ → A → Type 0) (f : PerEntry A) (j c : ℕ) (x : A) → Φ j c x → ((j₂ c₂ : ℕ) → Φ j₂ c₂ (f j₂ c₂))
    → (j₂ c₂ : ℕ) → Φ j₂ c₂ (put_at f j c x j₂ c₂)
place_all Φ f j c x a g j₂ c₂ = go (same_entry j c j₂ c₂) refl
  where
    go : (t : Bool) → same_entry j c j₂ c₂ ≡ t → Φ j₂ c₂ (cond t x (f j₂ c₂))
    go true e = let p = same_entry_lem j c j₂ c₂ e in rw (p.0, p.1) a
    go false e = g j₂ c₂

module _ (b : List ℕ) (h : legal b ≡ true) (bytes : Bytes b) where
  kept_none : Keeps b b
  kept_none =
      record {
        legal = h;
        bytes = bytes;
        header = refl;
        limit = refl;
        helped = λ p. le_refl (helped_of b p);
        fills = λ j c. filled_refl (look b j c);
      }

  module _ (a : Call) where
    -- the entry that the call names, and the step on it
    abbrev j : ℕ
    j = sender_of (own_of b) a

    abbrev c : ℕ
    c = number_of a

    abbrev o : Out
    o = step_of b a

    fits : Fits (n_of b) (own_of b) j o.entry
    unfolding step_of meant rules_by rules_of
    fits =
        let I = meant_is_book b h bytes in
        outcome_fits (rules_by (header_of b)) (numbers_of b) (own_of b) (look b) a (plausible_decl (sheet_of b))
        (record { entry = I.entries.each j c; others = I.entries.others j c })

    -- what the step of an accepted call leaves is what a book may mean
    is_book : o.answer ≡ 0 → IsBook (with_entry (meant b) j c o.entry)
    unfolding step_of meant rules_by rules_of
    is_book z =
        let I = meant_is_book b h bytes in
        let E = I.entries in
        let t = outcome_in_book (rules_by (header_of b)) (numbers_of b) (own_of b) (look b) a z in
        let both = (and-eq-true_iff (ltb j (n_of b)) (ltb c (numbers_of b))).0 t in
        let in_senders = ltb-true j (n_of b) both.0 in
        let in_numbers = ltb-true c (numbers_of b) both.1 in
        record {
          header = I.header;
          help = I.help;
          entries = record {
            each = place_all (λ j c x. IsEntry (n_of b) x) (look b) j c o.entry fits.entry E.each;
            others = place_all (λ j c x. (j ≡ own_of b → ⊥) → x.published ≡ none) (look b) j c o.entry fits.others E.others;
            past_sender =
                place_all (λ j c x. n_of b ≤ j → x ≡ fresh) (look b) j c o.entry (λ l. absurd (omega arith)) E.past_sender;
            past_number =
                place_all (λ j c x. numbers_of b ≤ c → x ≡ fresh) (look b) j c o.entry (λ l. absurd (omega arith)) E.past_number;
          };
        }

    accepted_stored : o.answer ≡ 0 → Stored b (entered b j c o).book j c o.entry
    unfolding entered meant
    accepted_stored z =
        let B = with_entry (meant b) j c o.entry in
        let M = written_meant B (is_book z) in
        record {
          legal = written_legal B (is_book z);
          bytes = written_bytes B (is_book z);
          header = ap (λ (B : Meaning). B.header) M;
          help = ap (λ (B : Meaning). B.help) M;
          entries = ap (λ (B : Meaning). B.entries) M;
        }

    refused_is : (o.answer ≡ 0 → ⊥) → o ≡ refused o.answer (look b j c)
    unfolding step_of meant
    refused_is = outcome_refused (rules_by (header_of b)) (numbers_of b) (own_of b) (look b) a

    -- the named entry is as the step leaves it, the others and the header are as before
    pub called_stored : Stored b (called b a).book j c o.entry
    unfolding called
    called_stored = go (eqb o.answer 0) refl
      where
        go : (t : Bool) → eqb o.answer 0 ≡ t → Stored b (cond t (entered b j c o) (refusal o.answer b)).book j c o.entry
        go true e = accepted_stored (eqb-true o.answer 0 e)
        go false e = rw (refused_is (eqb-false o.answer 0 e)) (stored_none b j c h bytes)

    -- answer, message and delivery are the step's, a message being the writer's bytes
    pub called_given : (called b a).given ≡ handed o.answer (letters (season_of b) j c o.message) o.delivery
    unfolding called entered
    called_given = go (eqb o.answer 0) refl
      where
        gives : Out → Outcome
        gives x = handed x.answer (letters (season_of b) j c x.message) x.delivery

        go : (t : Bool) → eqb o.answer 0 ≡ t → (cond t (entered b j c o) (refusal o.answer b)).given ≡ gives o
        go true e = refl
        go false e = sym (ap gives (refused_is (eqb-false o.answer 0 e)))

    pub called_meant : meant (called b a).book ≡ with_entry (meant b) j c o.entry
    unfolding meant
    called_meant = stored_meant b (called b a).book j c o.entry called_stored

    step_fills : Filled (look b j c) o.entry
    unfolding step_of meant
    step_fills = (outcome_done (rules_by (header_of b)) (numbers_of b) (own_of b) a (look b)).moves.filled

    pub called_keeps : Keeps b (called b a).book
    unfolding help_of
    called_keeps =
        let s = called_stored in
        record {
          legal = s.legal;
          bytes = s.bytes;
          header = s.header;
          limit = ap (λ (w : Help). w.limit) s.help;
          helped = λ p. omega (arith, ap (λ (w : Help). w.helped p) s.help);
          fills = λ j₂ c₂. rw s.entries
              (place_all (λ j c x. Filled (look b j c) x) (look b) j c o.entry step_fills (λ j c. filled_refl (look b j c)) j₂ c₂);
        }

  -- ---- a request

  module _ (p season : ℕ) where
    abbrev accepted : Type 0
    accepted = request_answer b p season ≡ 0

    -- an accepted request's bytes mean the book with one more help for the asker
    pub helped_meant : accepted → meant (count_help b p) ≡ with_help (meant b) (more_help (help_of b) p)
    helped_meant z = help_meant b (legal_head b h) bytes p (request_from b p season z) (request_low b p season z)

    pub helped_keeps : accepted → Keeps b (count_help b p)
    unfolding meant help_of
    helped_keeps z =
        let M = helped_meant z in
        record {
          legal = help_legal b (legal_head b h) bytes p (request_from b p season z) (request_low b p season z) (legal_facts b h).slots;
          bytes = help_bytes_lem b (legal_head b h) bytes p (request_from b p season z) (request_low b p season z);
          header = ap (λ (B : Meaning). B.header) M;
          limit = ap (λ (B : Meaning). B.help.limit) M;
          helped = λ q. subst (λ (f : ℕ → ℕ). helped_of b q ≤ f q) (sym (ap (λ (B : Meaning). B.help.helped) M))
              (upd_all (λ q x. helped_of b q ≤ x) (helped_of b) p (suc (helped_of b p)) (omega arith) (λ q. le_refl (helped_of b q)) q);
          fills = λ j c. subst (λ (f : PerEntry Entry). Filled (look b j c) (f j c)) (sym (ap (λ (B : Meaning). B.entries) M))
              (filled_refl (look b j c));
        }

    requested_keeps : Keeps b (requested b p season).book
    unfolding requested
    requested_keeps = go (eqb (request_answer b p season) 0) refl
      where
        go : (t : Bool) → eqb (request_answer b p season) 0 ≡ t
            → Keeps b (cond t (record { given = helping; book = count_help b p }) (refusal (request_answer b p season) b)).book
        go true e = helped_keeps (eqb-true (request_answer b p season) 0 e)
        go false e = kept_none

    -- it changes no entry
    pub requested_entries : look (requested b p season).book ≡ look b
    unfolding requested meant
    requested_entries = go (eqb (request_answer b p season) 0) refl
      where
        go : (t : Bool) → eqb (request_answer b p season) 0 ≡ t
            → look (cond t (record { given = helping; book = count_help b p }) (refusal (request_answer b p season) b)).book ≡ look b
        go true e = ap (λ (B : Meaning). B.entries) (helped_meant (eqb-true (request_answer b p season) 0 e))
        go false e = refl

  -- for every number and declaration, every house number and message
  published_keeps : (c : ℕ) (v : Decl) → Keeps b (published b c v).book
  unfolding published
  published_keeps c v = rw h (called_keeps (publishing c v))

  received_keeps : (p : ℕ) (message : List ℕ) → Keeps b (received b p message).book
  unfolding received
  received_keeps p message = rw h (any (request_of message) (read_of message).five)
    where
      asking : (x : Option Call) → Keeps b (answering b x).book
      asking none = kept_none
      asking (some a) = called_keeps a

      in_season : (m : Five) (t : Bool) → Keeps b (cond t (answering b (asked p m)) (refusal 3 b)).book
      in_season m true = asking (asked p m)
      in_season m false = kept_none

      go : (x : Option Five) → Keeps b (heard_from b p x).book
      go none = kept_none
      go (some m) = in_season m (eqb m.season (season_of b))

      any : (o : Option ℕ) (x : Option Five) → Keeps b (heard_any b p o x).book
      any none x = go x
      any (some season) x = requested_keeps p season

  -- every call on a legal book leaves a legal book with the same header
  pub answered_keeps : (a : BookCall) → Keeps b (answered b a).book
  unfolding answered
  answered_keeps (publish c v) = published_keeps c v
  answered_keeps (receive p message) = received_keeps p message
  answered_keeps search = kept_none
  answered_keeps comeback = kept_none
  answered_keeps (sent kind j c) = kept_none
