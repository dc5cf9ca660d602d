-- Each answer of publishing and receiving is given when `Answers` says.
use Prim.Native.Nat.{ℕ, ◌≤◌, ◌<◌}
use mathlib.Core.Path.{◌≡◌, refl, sym, ap, ◌∙◌}
use mathlib.Core.Bool.{Bool, true, false, cond}
use mathlib.Core.List.{List}
use mathlib.Core.Option.{Option, none, some}
use native.Mathlib.Omega.{arith}
use lib.Dec.{eqb}
use lib.ListN.{get_or}
use borrow.Author.Tests.{eqb-true, eq-eqb, ne_eqb, lt-ltb}
use Rattle.lot.specs.Declaration.{bytes_of}
use Rattle.message.specs.Message.{Five, Told, read_as, malformed, read_of, request_of}
use Rattle.message.proofs.Request.{message_unasked}
use Rattle.entry.specs.Entry.{Decl, Kind, SEND, ECHO, READY, heard}
use Rattle.protocol.specs.Steps.{Out, publishes, may, recording}
use Rattle.protocol.proofs.Recording.{recording_none, recording_same, recording_other}
use Rattle.protocol.specs.Book.{Call, publishing, receiving, sender_of, number_of}
use Rattle.meaning.specs.Layout.{helped_place}
use Rattle.meaning.specs.Book.{n_of, numbers_of, own_of, season_of, limit_of, helped_of, count_help, look, sheet_of}
use Rattle.meaning.proofs.Legality.{legal_head}
use Rattle.meaning.specs.Legal.{legal, Has}
use Rattle.calls.specs.Entered.{helping, ok_by, kind_number, kind_of, entered}
use Rattle.calls.specs.Call.{refusal, step_of, called, published, request_answer, requested, received}
use Rattle.calls.specs.Answers.{Publishing, Reads, Inside, Plausible, Conflict, Receiving}
use Rattle.calls.proofs.Requests as requests
use Rattle.calls.proofs.Checking.{missing, not_plausible, not_sender, answer_past}
use Rattle.calls.proofs.Published.{number_missing, lot_not_plausible, already_there, step_publishes}
use Rattle.calls.proofs.KindNumber.{kind_known, kind_send, number_of_kind}
use Rattle.message.proofs.RoundTrip.{read_known}

module _ (b : List ℕ) where
  called_answer : (a : Call) → (called b a).given.answer ≡ (step_of b a).answer
  unfolding called entered
  called_answer a = go (eqb o.answer 0)
    where
      o : Out
      o = step_of b a

      go : (t : Bool) → (cond t (entered b (sender_of (own_of b) a) (number_of a) o) (refusal o.answer b)).given.answer ≡ o.answer
      go true = refl
      go false = refl

  -- ---- publishing

  module _ (c : ℕ) (v : Decl) where
    no_book : legal b ≡ false → (published b c v).given.answer ≡ 1
    unfolding published
    no_book h = rw h

    module _ (h : legal b ≡ true) where
      publishing_answer : (n : ℕ) → n ≡ (step_of b (publishing c v)).answer → (published b c v).given.answer ≡ n
      unfolding published
      publishing_answer n e = rw h (called_answer (publishing c v) ∙ sym e)

      module _ (l : c < numbers_of b) (t : ok_by (sheet_of b) v ≡ true) where
        accepted : (look b (own_of b) c).published ≡ none → 0 ≡ (step_of b (publishing c v)).answer
        unfolding publishes
        accepted e = sym (ap (λ (o : Out). o.answer) (step_publishes b h c v l t e))

    pub publishing_ordered : Publishing b c v
    publishing_ordered =
        record {
          no_book = no_book;
          no_number = λ h l. publishing_answer h 4 (number_missing b h c v l);
          not_plausible = λ h l f. publishing_answer h 5 (lot_not_plausible b h c v l f);
          already = λ h l t w e. publishing_answer h 8 (already_there b h c v l t w e);
          accepted = λ h l t e. publishing_answer h 0 (accepted h l t e);
        }

  -- ---- receiving

  module _ (p : ℕ) (message : List ℕ) where
    no_legal : legal b ≡ false → (received b p message).given.answer ≡ 1
    unfolding received
    no_legal h = rw h

    no_message : legal b ≡ true → request_of message ≡ none → read_of message ≡ malformed → (received b p message).given.answer ≡ 2
    unfolding received
    no_message h q r = rw (h, q, r)

    five_of_lem : (m : Five) → read_of message ≡ read_as m → (read_of message).five ≡ some m
    five_of_lem m r = ap (λ (t : Told). t.five) r

    other_season : legal b ≡ true → (m : Five) → read_of message ≡ read_as m → (m.season ≡ season_of b → ⊥)
        → (received b p message).given.answer ≡ 3
    unfolding received
    other_season h m r f = rw (h, message_unasked message m (five_of_lem m r), r, ne_eqb m.season (season_of b) f)

    module _ (m : Five) (R : Reads b message m) where
      abbrev j : ℕ
      j = m.sender

      abbrev c : ℕ
      c = m.number

      abbrev v : Decl
      v = bytes_of m.declaration

      -- the kind that it has
      module _ (k : Kind) (ek : kind_of m.kind ≡ some k) where
        abbrev a : Call
        a = receiving p k j c v

        receiving_answer : (n : ℕ) → n ≡ (step_of b a).answer → (received b p message).given.answer ≡ n
        unfolding received
        receiving_answer n e =
            rw (R.legal, message_unasked message m (five_of_lem m R.reads), R.reads, eq-eqb m.season (season_of b) R.season, ek)
            (called_answer a ∙ sym e)

        module _ (I : Inside b p m) where
          has : Has b j c
          has = record { head = legal_head b R.legal; sender = I.sender; number = I.number }

          module _ (t : ok_by (sheet_of b) v ≡ true) (from : may j k p ≡ true) where
            -- what recording answers of what was heard
            recorded : (o : Option Decl) (n : ℕ) → recording o v ≡ n → heard k p (look b j c) ≡ o → n ≡ (step_of b a).answer
            recorded o n r e = sym (answer_past b j c p k v has I.house t from ∙ ap (λ (o : Option Decl). recording o v) e ∙ r)

      -- what is well formed has one
      known : (k : Kind) × (kind_of m.kind ≡ some k) × (kind_number k ≡ m.kind)
      known = kind_known m.kind (read_known message m R.reads)

      may_send : (k : Kind) → kind_of m.kind ≡ some k → (m.kind ≡ 1 → p ≡ j) → may j k p ≡ true
      may_send SEND e s = eq-eqb p j (s (number_of_kind m.kind SEND e))
      may_send ECHO e s = refl
      may_send READY e s = refl

    -- a request
    module _ (h : legal b ≡ true) where
      request_answer_lem : (season : ℕ) → request_of message ≡ some season → (received b p message).given.answer ≡ request_answer b p season
      unfolding received requested
      request_answer_lem season q = rw (h, q) (go (eqb (request_answer b p season) 0) refl)
        where
          go : (t : Bool) → eqb (request_answer b p season) 0 ≡ t
              → (cond t (record { given = helping; book = count_help b p }) (refusal (request_answer b p season) b)).given.answer
              ≡ request_answer b p season
          go true e = sym (eqb-true (request_answer b p season) 0 e)
          go false e = refl

      request_season : (season : ℕ) → request_of message ≡ some season → (season ≡ season_of b → ⊥)
          → (received b p message).given.answer ≡ 3
      request_season season q f = request_answer_lem season q ∙ sym (requests.other_season b p season f)

      module _ (q : request_of message ≡ some (season_of b)) where
        request_missing : n_of b ≤ p → (received b p message).given.answer ≡ 4
        request_missing l = request_answer_lem (season_of b) q ∙ sym (requests.asker_missing b p (season_of b) refl l)

        module _ (l : p < n_of b) where
          helped_is : helped_of b p ≡ get_or b (helped_place p) 0
          unfolding helped_of
          helped_is = rw (lt-ltb p (n_of b) l)

          request_enough : limit_of b ≤ helped_of b p → (received b p message).given.answer ≡ 14
          request_enough i =
              request_answer_lem (season_of b) q ∙ sym (requests.helped_enough b p (season_of b) refl l (omega (arith, i, helped_is)))

          request_accepted : helped_of b p < limit_of b → (received b p message).given.answer ≡ 0
          request_accepted i =
              request_answer_lem (season_of b) q ∙ sym (requests.request_accepted b p (season_of b) refl l (omega (arith, i, helped_is)))

    abbrev answer : ℕ
    answer = (received b p message).given.answer

    module _ (m : Five) (R : Reads b message m) where
      repeated : (P : Plausible b p m) → (m.kind ≡ 1 → p ≡ m.sender) → (k : Kind) → kind_of m.kind ≡ some k
          → heard k p (look b m.sender m.number) ≡ some (bytes_of m.declaration) → answer ≡ 7
      repeated P s k e h =
          receiving_answer m R k e 7
          (recorded m R k e P.inside P.plausible (may_send m R k e s) (some (v m R)) 7 (recording_same (v m R)) h)

      accepts : (P : Plausible b p m) → (m.kind ≡ 1 → p ≡ m.sender) → (k : Kind) → kind_of m.kind ≡ some k
          → heard k p (look b m.sender m.number) ≡ none → answer ≡ 0
      accepts P s k e h =
          receiving_answer m R k e 0
          (recorded m R k e P.inside P.plausible (may_send m R k e s) none 0 (recording_none (v m R)) h)

      conflicts : Conflict b p m → answer ≡ 13
      conflicts C =
          receiving_answer m R C.kind C.kind_is 13
          (recorded m R C.kind C.kind_is C.plausible.inside C.plausible.plausible
          (may_send m R C.kind C.kind_is C.from) (some C.stands) 13 (recording_other C.stands (v m R) C.other) C.heard)

    pub receiving_ordered : Receiving b p message
    receiving_ordered =
        record {
          no_book = no_legal;
          malformed = no_message;
          other_season = other_season;
          missing = λ m R x. let k = known m R in receiving_answer m R k.0 k.1 4
              (missing b m.sender m.number p k.0 (v m R) x);
          not_plausible = λ m R I f.
              let k = known m R in
              receiving_answer m R k.0 k.1 5
              (not_plausible b m.sender m.number p k.0 (v m R) (has m R k.0 k.1 I) I.house f);
          not_sender = λ m R P e f.
              receiving_answer m R SEND (kind_send m.kind e) 6
              (not_sender b m.sender m.number p SEND (v m R) (has m R SEND (kind_send m.kind e) P.inside) P.inside.house
              P.plausible (ne_eqb p m.sender f));
          repeat = repeated;
          conflict = conflicts;
          accepted = accepts;
          request_other_season = request_season;
          request_missing = request_missing;
          request_enough = request_enough;
          request_accepted = request_accepted;
        }
