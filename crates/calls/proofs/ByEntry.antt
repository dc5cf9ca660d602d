-- A message on a book whose head and named entry are legal: what its step leaves is that entry's row, and on a legal book what receiving
-- leaves.
use Prim.Native.Nat.{ℕ, ◌<◌}
use mathlib.Core.Path.{◌≡◌, refl, sym, ap, ◌∙◌, subst}
use mathlib.Core.Logic.{inr}
use mathlib.Core.Bool.{Bool, true, false, cond}
use mathlib.Core.List.{List}
use native.Mathlib.Decide.{dec_lt}
use native.Mathlib.Omega.{arith}
use borrow.Author.Tests.{eqb-true, eqb-false}
use lib.Dec.{eqb}
use Rattle.words.specs.Words.{Bytes}
use Rattle.entry.specs.Entry.{Decl, Kind, SEND, ECHO, READY, Entry, recorded, marked}
use Rattle.entry.proofs.Basics.{T_of}
use Rattle.protocol.specs.Steps.{Rules, Out, refused, takes_send, takes_echo, takes_ready, takes, may, reached}
use Rattle.protocol.specs.Book.{receiving}
use Rattle.meaning.specs.Layout.{slot_count}
use Rattle.meaning.specs.Book.{n_of, numbers_of, own_of, season_of, sheet_of, header_of, look, with_row, meant}
use Rattle.meaning.specs.Legal.{legal, Fits, IsDecl}
use Rattle.meaning.proofs.Stores.{Stored, stored_none, stored_whole, stored_taken, legal_sound}
use Rattle.meaning.proofs.Row.{Rowed, rowed_bytes, rowed_taken, rowed_none, laid}
use Rattle.calls.specs.declared.Outcome.{Outcome}
use Rattle.calls.specs.Entered.{handed, letters, ok_by, rules_by, entered}
use Rattle.calls.specs.Call.{refusal, step_of, called}
use Rattle.calls.specs.ByEntry.{entered_in, called_in}
use Rattle.calls.proofs.Entered.{entered_is}
use Rattle.calls.proofs.Fits.{outcome_refused}
use Rattle.calls.proofs.Checking.{missing, not_plausible, not_sender, answer_past, step_takes}
use Rattle.calls.proofs.Keeps.{plausible_decl}

-- bytes a are b with e as the entry of sender j and number c; in a legal book, those that mean it
pub record Left (b a : List ℕ) (j c : ℕ) (e : Entry) : Type 0 where
  pub rowed : Rowed b a j c e
  pub stored : legal b ≡ true → Stored b a j c e

module _ (b : List ℕ) (j c : ℕ) (fits : Fits b j c) (bytes : Bytes b) (p : ℕ) (v : Decl) where
  abbrev R : Rules
  R = rules_by (header_of b)

  -- an accepted message's stores
  module _ (hp : p < n_of b) (d : IsDecl v) where
    left_taken : (k : Kind) (r t : Bool)
        → Left b (laid b j c fits bytes v d k p hp r t) j c (marked r t v (recorded k p v (look b j c)))
    left_taken k r t =
        record {
          rowed = rowed_taken b j c fits bytes v d k p hp r t;
          stored = λ h.
              stored_whole b j c (laid b j c fits bytes v d k p hp r t) (marked r t v (recorded k p v (look b j c)))
              (stored_taken 0 (slot_count (n_of b) (numbers_of b)) b (legal_sound b h bytes) v d (n_of b) (numbers_of b) refl refl j c
              fits.has.sender fits.has.number k p hp r t);
        }

    takes_left : (k : Kind) → (a : List ℕ) × Left b a j c (takes R k p v (look b j c)).entry
    unfolding takes_send takes_echo takes_ready
    takes_left SEND = (laid b j c fits bytes v d SEND p hp false false, left_taken SEND false false)
    takes_left ECHO =
        let e = recorded ECHO p v (look b j c) in
        let r = reached R.quorum e.ready_sent e.echo v R.n in
        (laid b j c fits bytes v d ECHO p hp r false, left_taken ECHO r false)
    takes_left READY =
        let e = recorded READY p v (look b j c) in
        let r = reached R.amplify e.ready_sent e.ready v R.n in
        let t = reached R.deliver e.delivered e.ready v R.n in
        (laid b j c fits bytes v d READY p hp r t, left_taken READY r t)

  module _ (k : Kind) where
    abbrev o : Out
    o = step_of b (receiving p k j c v)

    -- what an accepted step leaves
    step_left : o.answer ≡ 0 → (a : List ℕ) × Left b a j c o.entry
    step_left z = house (dec_lt p (n_of b))
      where
        past : (hp : p < n_of b) → (ok : ok_by (sheet_of b) v ≡ true) → may j k p ≡ true → (a : List ℕ) × Left b a j c o.entry
        past hp ok from =
            let q = step_takes b j c p k v fits.has hp ok from (sym (answer_past b j c p k v fits.has hp ok from) ∙ z) in
            subst (λ (x : Out). (a : List ℕ) × Left b a j c x.entry) (sym q)
            (takes_left hp (plausible_decl (sheet_of b) v (T_of ok)) k)

        from : (hp : p < n_of b) → ok_by (sheet_of b) v ≡ true → (t : Bool) → may j k p ≡ t → (a : List ℕ) × Left b a j c o.entry
        from hp ok true e = past hp ok e
        from hp ok false e = absurd (omega (arith, not_sender b j c p k v fits.has hp ok e, z))

        lot : p < n_of b → (t : Bool) → ok_by (sheet_of b) v ≡ t → (a : List ℕ) × Left b a j c o.entry
        lot hp true e = from hp e (may j k p) refl
        lot hp false e = absurd (omega (arith, not_plausible b j c p k v fits.has hp e, z))

        house : Dec (p < n_of b) → (a : List ℕ) × Left b a j c o.entry
        house (yes hp) = lot hp (ok_by (sheet_of b) v) refl
        house (no f) = absurd (omega (arith, missing b j c p k v (inr (inr (omega arith))), z))

    -- that is the named entry's row
    row_left : o.answer ≡ 0 → Left b (with_row b j c o.entry) j c o.entry
    row_left z =
        let l = step_left z in
        subst (λ (a : List ℕ). Left b a j c o.entry) (rowed_bytes b j c fits l.0 o.entry l.1.rowed) l.1

    -- on a legal book receiving by entry is receiving
    pub called_same : legal b ≡ true → called_in b (receiving p k j c v) ≡ called b (receiving p k j c v)
    unfolding called_in called entered_in
    called_same h = go (eqb o.answer 0) refl
      where
        go : (t : Bool) → eqb o.answer 0 ≡ t
            → cond t (entered_in b j c o) (refusal o.answer b) ≡ cond t (entered b j c o) (refusal o.answer b)
        go true e = entered_is b j c o (with_row b j c o.entry) ((row_left (eqb-true o.answer 0 e)).stored h)
        go false e = refl

    -- the step's answer, message and delivery, and the entry that it leaves
    refused_is : (o.answer ≡ 0 → ⊥) → o ≡ refused o.answer (look b j c)
    unfolding step_of meant
    refused_is = outcome_refused R (numbers_of b) (own_of b) (look b) (receiving p k j c v)

    pub called_left : Left b (called_in b (receiving p k j c v)).book j c o.entry
    unfolding called_in entered_in
    called_left = go (eqb o.answer 0) refl
      where
        go : (t : Bool) → eqb o.answer 0 ≡ t → Left b (cond t (entered_in b j c o) (refusal o.answer b)).book j c o.entry
        go true e = row_left (eqb-true o.answer 0 e)
        go false e =
            rw (refused_is (eqb-false o.answer 0 e))
            (record { rowed = rowed_none b j c fits bytes; stored = λ h. stored_none b j c h bytes })

-- what is given needs no bytes
module _ (b : List ℕ) (j c p : ℕ) (v : Decl) (k : Kind) where
  pub given_is : (called_in b (receiving p k j c v)).given
      ≡ handed (step_of b (receiving p k j c v)).answer (letters (season_of b) j c (step_of b (receiving p k j c v)).message)
      (step_of b (receiving p k j c v)).delivery
  unfolding called_in entered_in step_of meant
  given_is = go (eqb x.answer 0) refl
    where
      x : Out
      x = step_of b (receiving p k j c v)

      gives : Out → Outcome
      gives o = handed o.answer (letters (season_of b) j c o.message) o.delivery

      go : (t : Bool) → eqb x.answer 0 ≡ t → (cond t (entered_in b j c x) (refusal x.answer b)).given ≡ gives x
      go true e = refl
      go false e =
          sym (ap gives (outcome_refused (rules_by (header_of b)) (numbers_of b) (own_of b) (look b) (receiving p k j c v)
          (eqb-false x.answer 0 e)))
