-- A step of a run at the bytes is a step of the protocol's run or leaves it; so every run at the bytes means a run of the protocol, whose
-- steps are told from its own.
use Prim.Native.Nat.{ℕ, suc}
use mathlib.Core.Path.{◌≡◌, refl, sym, ap, ◌∙◌}
use mathlib.Core.Bool.{Bool, true, false, not, cond, ◌&&◌}
use mathlib.Core.List.{List, [], ◌∷◌, ◌++◌}
use mathlib.Core.Option.{Option, none, some}
use lib.Dec.{T, eqb}
use borrow.Author.Tests.{eqb-true, eqb-false, eq-eqb}
use Rattle.lot.specs.Declaration.{bytes_of}
use Rattle.message.specs.Message.{Five, read_of, request_of}
use Rattle.message.proofs.Request.{request_of_wire, request_unread, message_unasked}
use Rattle.meaning.specs.Book.{Meaning, season_of, helped_of, help_of, look, meant}
use Rattle.meaning.specs.Legal.{legal}
use Rattle.meaning.specs.Opening.{fresh_book}
use Rattle.meaning.proofs.Opening.{opened_legal, opened_bytes, opened_meant}
use Rattle.entry.specs.Entry.{Decl, fresh, Kind}
use Rattle.entry.specs.Lists.{upd, at, each, push}
use Rattle.protocol.specs.Book.{Call, publishing, receiving, sender_of, number_of, publication}
use Rattle.protocol.specs.Run as protocol
use Rattle.protocol.specs.Claims as protocol_claims
use Rattle.protocol.specs.Thresholds.{wall_of, rules_of}
use Rattle.entry.proofs.Basics.{T_of, and_l}
use Rattle.calls.specs.Call.{answering, called, published, asked, heard_any, received}
use Rattle.calls.specs.Entered.{kind_of}
use Rattle.calls.specs.Again.{returned}
use Rattle.season.specs.Run.{Houses, is_honest, is_wrong, is_up, Open, opens, Copy, State, start, nothing, entry, sends, ended}
use Rattle.season.specs.Run.{publication_of, Step, publish, consume, wrong, crash, comeback, help, publishes, receives, consumed_copy}
use Rattle.season.specs.Run.{consume_at, consumes, goes_down, to_all, again, comes, request_taken, asks, under_wrong, step, run}
use Rattle.season.specs.Claims.{consumption}
use Rattle.season.proofs.Mail.{asked_is, Says, says_consumed, Asks, asks_consumed, Mails, Both, mails_at, mails_append}
use Rattle.season.proofs.Mail.{mails_changed, mails_requests}
use Rattle.season.proofs.Calls.{publication_of_lem, wall, header, IsOf, season_is, Means, call_means, sends_is, refusal_means}
use Rattle.season.proofs.Calls.{again_means, request_means, other_means}

-- ---- the step of the protocol that a step means, or none

-- a message from house p to house r that asks for a call of the kind
abbrev called_as : (from house : ℕ) → Five → Option Kind → Option protocol.Step
called_as p r m none = none
called_as p r m (some k) = some (protocol.wrong p r k m.sender m.number (bytes_of m.declaration))

-- any bytes: a request of the season, or a message of it
abbrev heard_as : (season from house : ℕ) → Option ℕ → Option Five → Option protocol.Step
heard_as season p r (some asked) x = cond (eqb asked season) (some (protocol.plead p r)) none
heard_as season p r none none = none
heard_as season p r none (some m) = cond (eqb m.season season) (called_as p r m (kind_of m.kind)) none

abbrev step_of : Houses → Step → Option protocol.Step
step_of H (publish r c v) = some (protocol.publish r c v)
step_of H (consume i) = some (protocol.consume i)
step_of H (wrong p r message) = heard_as H.season p r (request_of message) (read_of message).five
step_of H (crash r) = some (protocol.crash r)
step_of H (comeback r) = some (protocol.comeback r)
step_of H (help i) = some (protocol.help i)

abbrev pub steps_of : Houses → List Step → List protocol.Step
steps_of H [] = []
steps_of H (a ∷ l) = push (step_of H a) (steps_of H l)

-- none leaves the state
abbrev stepped : Houses → Option protocol.Step → protocol.State → protocol.State
stepped H none z = z
stepped H (some x) z = protocol.step (wall H) x z

module _ (H : Houses) where
  -- where both runs test the same
  if_means : (t : Bool) (s s₂ : State) (z z₂ : protocol.State) → Means H s z → (t ≡ true → Means H s₂ z₂)
      → Means H (cond t s₂ s) (cond t z₂ z)
  if_means true s s₂ z z₂ M f = f refl
  if_means false s s₂ z z₂ M f = M

  -- where the protocol's run stays
  alone_means : (t : Bool) (s s₂ : State) (z : protocol.State) → Means H s z → (t ≡ true → Means H s₂ z) → Means H (cond t s₂ s) z
  alone_means true s s₂ z M f = f refl
  alone_means false s s₂ z M f = M

  -- ---- receiving

  -- the call that a message of the kind asks for
  abbrev says : (house : ℕ) → Kind → Five → Call
  says p k m = receiving p k m.sender m.number (bytes_of m.declaration)

  pub heard : (r p : ℕ) (b message : List ℕ) → IsOf H r b → received b p message ≡ heard_any b p (request_of message) (read_of message).five
  unfolding received
  heard r p b message K = rw K.legal

  -- a copy asks for the call that says it
  pub copy_called : (r p : ℕ) (b : List ℕ) → IsOf H r b → (m : Copy) (x : protocol.Copy) → Says H.season m x
      → received b p m.message ≡ called b (receiving p x.kind x.sender x.number x.decl)
  copy_called r p b K m x S =
      heard r p b m.message K
      ∙ rw (message_unasked m.message _ S.read, S.read, eq-eqb H.season (season_of b) (sym (season_is H r b K)))
      (ap (answering b) (asked_is p H.season x.sender x.number x.kind x.decl S.decl))

  module _ (r : ℕ) (s : State) (z : protocol.State) (M : Means H s z) (honest : T (is_honest H r)) where
    abbrev b : List ℕ
    b = s.gave.books r

    K : IsOf H r b
    K = M.gave.books r honest

    publish_means : (c : ℕ) (v : Decl) → Means H (publishes H r c v s) (protocol.called (wall H) r (publishing c v) z z.mail)
    unfolding publishes published
    publish_means c v =
        rw K.legal
        (call_means H r s z M honest (publishing c v) (publication_of v (called b (publishing c v)).given)
        (publication_of_lem c v (called b (publishing c v)).given) s.mail z.mail M.mail)

    -- what a call on an entry leaves, past receiving's tests
    called_means : (p : ℕ) (a : Call) → none ≡ publication a (called b a).given.answer → (k : List Copy) (l : List protocol.Copy)
        → Mails (Says H.season) k l
        → Means H (ended r (entry (sender_of r a) (number_of a)) (called b a) none s (k ++ sends H r p (called b a)))
        (protocol.called (wall H) r a z l)
    called_means p a e k l N = rw (sends_is H r s z M honest a p) (call_means H r s z M honest a none e k l N)

    consume_means : (p : ℕ) (m : Copy) (x : protocol.Copy) → Says H.season m x → (k : List Copy) (l : List protocol.Copy)
        → Mails (Says H.season) k l
        → Means H (receives H r p m.message s k)
        (protocol.called (wall H) r (receiving p x.kind x.sender x.number x.decl) z l)
    unfolding receives
    consume_means p m x S k l N =
        rw (copy_called r p b K m x S, S.read) (called_means p (receiving p x.kind x.sender x.number x.decl) refl k l N)

    -- a request of the season
    help_means : (p : ℕ) (message : List ℕ) → request_of message ≡ some H.season
        → Means H (receives H r p message s s.mail) (protocol.helps (wall H) r p z)
    unfolding receives
    help_means p message e =
        rw (heard r p b message K, request_unread message H.season e, e) (request_means H r s z M honest p)

    -- any other bytes: refused, or the call that they ask for
    module _ (p : ℕ) (message : List ℕ) where
      abbrev after : State
      after = receives H r p message s s.mail

      other_request : (season : ℕ) → request_of message ≡ some season → eqb season H.season ≡ false → Means H after z
      unfolding receives
      other_request season e q =
          rw (heard r p b message K, request_unread message season e, e)
          (other_means H r s z M honest p season (eqb-false season H.season q))

      module _ (e : request_of message ≡ none) where
        unread : (read_of message).five ≡ none → Means H after z
        unfolding receives
        unread f = rw (heard r p b message K, e, f) (refusal_means H r s z M honest nothing 2)

        module _ (m : Five) (f : (read_of message).five ≡ some m) where
          season_same : eqb m.season (season_of b) ≡ eqb m.season H.season
          season_same = ap (eqb m.season) (season_is H r b K)

          other_season : eqb m.season H.season ≡ false → Means H after z
          unfolding receives
          other_season q =
              rw (heard r p b message K, e, f, season_same, q) (refusal_means H r s z M honest (entry m.sender m.number) 3)

          module _ (q : eqb m.season H.season ≡ true) where
            no_kind : kind_of m.kind ≡ none → Means H after z
            unfolding receives
            no_kind g =
                rw (heard r p b message K, e, f, season_same, q, g) (refusal_means H r s z M honest (entry m.sender m.number) 2)

            call_asked : (k : Kind) → kind_of m.kind ≡ some k
                → Means H after (protocol.called (wall H) r (says p k m) z z.mail)
            unfolding receives
            call_asked k g =
                rw (heard r p b message K, e, f, season_same, q, g) (called_means p (says p k m) refl s.mail z.mail M.mail)

  request_is : (r : ℕ) (b : List ℕ) → IsOf H r b → request_of (returned b).request ≡ some H.season
  unfolding returned
  request_is r b K = rw K.legal (request_of_wire (season_of b) ∙ ap some (season_is H r b K))

  -- ---- the steps

  module _ (s : State) (z : protocol.State) (M : Means H s z) where
    down_is : (r : ℕ) → z.power.down r ≡ s.power.down r
    down_is r = ap (λ (f : ℕ → Bool). f r) M.down

    pub up_is : (r : ℕ) → protocol.is_up (wall H) z r ≡ is_up H s r
    unfolding wall_of rules_of
    up_is r = ap (λ (t : Bool). is_honest H r && not t) (down_is r)

    consumed_mail : (i : ℕ) → Mails (Says H.season) (consume_at s.mail i) (protocol.consume_at z.mail i)
    consumed_mail =
        mails_changed (Says H.season) consumed_copy protocol.consumed_copy (says_consumed H.season) s.mail z.mail M.mail

    -- lost, or received
    arrives_means : (i : ℕ) (m : Copy) (x : protocol.Copy) → Says H.season m x → T (is_honest H x.to) → (t : Bool)
        → Means H
        (cond t (record { gave = s.gave; mail = consume_at s.mail i; power = s.power })
        (receives H x.to x.from m.message s (consume_at s.mail i)))
        (cond t (record { gave = z.gave; mail = protocol.consume_at z.mail i; power = z.power })
        (protocol.called (wall H) x.to (protocol.call_of x) z (protocol.consume_at z.mail i)))
    arrives_means i m x S honest true =
        record { gave = M.gave; mail = consumed_mail i; down = M.down; returned = M.returned; requests = M.requests }
    arrives_means i m x S honest false =
        consume_means x.to s z M honest x.from m x S (consume_at s.mail i) (protocol.consume_at z.mail i) (consumed_mail i)

    consumes_means : (i : ℕ) (o : Option Copy) (x : Option protocol.Copy) → Both (Says H.season) o x
        → Means H (consumes H i o s) (protocol.consumes (wall H) i x z)
    unfolding consumes protocol.consumes wall_of rules_of
    consumes_means i none none S = M
    consumes_means i none (some x) S = absurd S
    consumes_means i (some m) none S = absurd S
    consumes_means i (some m) (some x) S =
        rw (S.to, S.consumed, S.from, down_is x.to)
        (if_means (is_honest H x.to && not x.consumed) s _ z _ M
        (λ t. arrives_means i m x S (and_l (is_honest H x.to) (not x.consumed) (T_of t)) (s.power.down x.to)))

    taken_means : (i : ℕ) → Means H (request_taken i s) (protocol.request_taken i z)
    taken_means i =
        record {
          gave = M.gave;
          mail = M.mail;
          down = M.down;
          returned = M.returned;
          requests =
              mails_changed (Asks H.season) consumed_copy protocol.consumed_request (asks_consumed H.season) s.power.requests
              z.power.requests M.requests i;
        }

    asks_means : (i : ℕ) (o : Option Copy) (x : Option protocol.Request) → Both (Asks H.season) o x
        → Means H (asks H i o s) (protocol.asked (wall H) i x z)
    unfolding asks protocol.asked wall_of rules_of
    asks_means i none none S = M
    asks_means i none (some x) S = absurd S
    asks_means i (some m) none S = absurd S
    asks_means i (some m) (some x) S =
        rw (S.to, S.consumed, S.from, down_is x.to)
        (if_means (is_honest H x.to && not x.consumed) s _ z _ M
        (λ t. go (s.power.down x.to) (and_l (is_honest H x.to) (not x.consumed) (T_of t))))
      where
        go : (t : Bool) → T (is_honest H x.to)
            → Means H (cond t (request_taken i s) (receives H x.to x.from m.message (request_taken i s) s.mail))
            (cond t (protocol.request_taken i z) (protocol.helps (wall H) x.to x.from (protocol.request_taken i z)))
        go true honest = taken_means i
        go false honest = help_means x.to (request_taken i s) (protocol.request_taken i z) (taken_means i) honest x.from m.message
            S.request

    goes_means : (r : ℕ)
        → Means H (goes_down r s) (record { gave = z.gave; mail = z.mail; power = protocol.set_down z.power r true })
    goes_means r =
        record {
          gave = M.gave;
          mail = M.mail;
          down = ap (λ (f : ℕ → Bool). upd f r true) M.down;
          returned = M.returned;
          requests = M.requests;
        }

    comes_means : (r : ℕ) → T (is_honest H r) → Means H (comes H r s) (protocol.comes (wall H) r z)
    unfolding comes protocol.comes wall_of rules_of
    comes_means r honest =
        let b = s.gave.books r in
        let K = M.gave.books r honest in
        record {
          gave = M.gave;
          mail = mails_append (Says H.season) s.mail z.mail (again (λ q. true) r H.n H.numbers b)
              (protocol.again (λ q. true) r H.n H.numbers (z.gave.books r)) M.mail
              (again_means H r s z M honest b K (λ q. true) (z.gave.books r) (M.gave.entries r honest));
          down = ap (λ (f : ℕ → Bool). upd f r false) M.down;
          returned = ap (λ (f : ℕ → ℕ). upd f r (suc (f r))) M.returned;
          requests = mails_append (Asks H.season) s.power.requests z.power.requests (to_all r (returned b).request H.n)
              (each (λ q. protocol.request_to r q ∷ []) H.n) M.requests
              (mails_requests H.season r (returned b).request (request_is r b K) H.n);
        }

    -- any bytes, under a wrong house's number
    wrong_means : (p r : ℕ) (message : List ℕ)
        → Means H (step H (wrong p r message) s) (stepped H (step_of H (wrong p r message)) z)
    unfolding step protocol.step wall_of rules_of
    wrong_means p r message = any (request_of message) (read_of message).five refl refl
      where
        t : Bool
        t = under_wrong H s p r

        after : State
        after = receives H r p message s s.mail

        test : protocol.under_wrong (wall H) z p r ≡ t
        test = ap (λ (t : Bool). t && is_wrong H p) (up_is r)

        honest : t ≡ true → T (is_honest H r)
        honest e = and_l (is_honest H r) (not (s.power.down r)) (and_l (is_up H s r) (is_wrong H p) (T_of e))

        stays : (T (is_honest H r) → Means H after z) → Means H (cond t after s) z
        stays f = alone_means t s after z M (λ e. f (honest e))

        goes : (z₂ : protocol.State) → (T (is_honest H r) → Means H after z₂)
            → Means H (cond t after s) (cond (protocol.under_wrong (wall H) z p r) z₂ z)
        goes z₂ f = rw test (if_means t s after z z₂ M (λ e. f (honest e)))

        Ends : Option protocol.Step → Type 0
        Ends x = Means H (cond t after s) (stepped H x z)

        Asked : Five → Type 0
        Asked m = (request_of message ≡ none) × ((read_of message).five ≡ some m)

        kind : (m : Five) → Asked m → eqb m.season H.season ≡ true → (o : Option Kind) → kind_of m.kind ≡ o
            → Ends (called_as p r m o)
        kind m A q none g = stays (λ h. no_kind r s z M h p message A.0 m A.1 q g)
        kind m A q (some k) g = goes _ (λ h. call_asked r s z M h p message A.0 m A.1 q k g)

        season : (m : Five) → Asked m → (w : Bool) → eqb m.season H.season ≡ w
            → Ends (cond w (called_as p r m (kind_of m.kind)) none)
        season m A true q = kind m A q (kind_of m.kind) refl
        season m A false q = stays (λ h. other_season r s z M h p message A.0 m A.1 q)

        request : (x : ℕ) → request_of message ≡ some x → (w : Bool) → eqb x H.season ≡ w
            → Ends (cond w (some (protocol.plead p r)) none)
        request x e true q = goes _ (λ h. help_means r s z M h p message (e ∙ ap some (eqb-true x H.season q)))
        request x e false q = stays (λ h. other_request r s z M h p message x e q)

        any : (o : Option ℕ) (x : Option Five) → request_of message ≡ o → (read_of message).five ≡ x → Ends (heard_as H.season p r o x)
        any (some y) x e f = request y e (eqb y H.season) refl
        any none none e f = stays (λ h. unread r s z M h p message e f)
        any none (some m) e f = season m (e, f) (eqb m.season H.season) refl

    step_means : (a : Step) → Means H (step H a s) (stepped H (step_of H a) z)
    unfolding step protocol.step wall_of rules_of
    step_means (publish r c v) =
        rw (up_is r)
        (if_means (is_up H s r) s _ z _ M (λ t. publish_means r s z M (and_l (is_honest H r) (not (s.power.down r)) (T_of t)) c v))
    step_means (consume i) =
        consumes_means i (at s.mail i) (at z.mail i) (mails_at (Says H.season) s.mail z.mail M.mail i)
    step_means (wrong p r message) = wrong_means p r message
    step_means (crash r) = rw (up_is r) (if_means (is_up H s r) s _ z _ M (λ t. goes_means r))
    step_means (comeback r) =
        rw (down_is r)
        (if_means (is_honest H r && s.power.down r) s _ z _ M
        (λ t. comes_means r (and_l (is_honest H r) (s.power.down r) (T_of t))))
    step_means (help i) =
        asks_means i (at s.power.requests i) (at z.power.requests i)
        (mails_at (Asks H.season) s.power.requests z.power.requests M.requests i)

  run_pushed : (x : Option protocol.Step) (l : List protocol.Step) (z : protocol.State)
      → protocol.run (wall H) (push x l) z ≡ protocol.run (wall H) l (stepped H x z)
  unfolding protocol.run
  run_pushed none l z = refl
  run_pushed (some x) l z = refl

  pub run_means : (l : List Step) (s : State) (z : protocol.State) → Means H s z
      → Means H (run H l s) (protocol.run (wall H) (steps_of H l) z)
  unfolding run protocol.run
  run_means [] s z M = M
  run_means (a ∷ l) s z M =
      rw (run_pushed (step_of H a) (steps_of H l) z)
      (run_means l (step H a s) (stepped H (step_of H a) z) (step_means s z M a))

  -- what is consumed at the bytes is consumed in the protocol, at the same places
  pub consumption_means : (l k : List ℕ) (s : State) (z : protocol.State) → Means H s z
      → Means H (run H (consumption l k) s) (protocol.run (wall H) (protocol_claims.consumption l k) z)
  unfolding run protocol.run step protocol.step
  consumption_means [] [] s z M = M
  consumption_means [] (i ∷ k) s z M =
      consumption_means [] k (step H (consume i) s) (protocol.step (wall H) (protocol.consume i) z)
      (consumes_means s z M i (at s.mail i) (at z.mail i) (mails_at (Says H.season) s.mail z.mail M.mail i))
  consumption_means (i ∷ l) k s z M =
      consumption_means l k (step H (help i) s) (protocol.step (wall H) (protocol.help i) z)
      (asks_means s z M i (at s.power.requests i) (at z.power.requests i)
      (mails_at (Asks H.season) s.power.requests z.power.requests M.requests i))

  -- ---- the start

  module _ (O : Open H) where
    module _ (r : ℕ) (t : T (is_honest H r)) where
      fresh_meant : meant (opens H r).book ≡ fresh_book (header H r) H.limit
      fresh_meant =
          opened_meant (H.lent r) H.n H.numbers r H.down H.limit H.season H.sheet O.season O.sheet (O.answer r t)

      opened_is : IsOf H r (opens H r).book
      unfolding meant help_of
      opened_is =
          let M = fresh_meant in
          record {
            legal = opened_legal (H.lent r) H.n H.numbers r H.down H.limit H.season H.sheet O.season O.sheet
                (O.answer r t);
            bytes = opened_bytes (H.lent r) H.n H.numbers r H.down H.limit H.season H.sheet O.season O.sheet
                (O.answer r t);
            header = ap (λ (B : Meaning). B.header) M;
            limit = ap (λ (B : Meaning). B.help.limit) M;
          }

      opened_fresh : (λ (j c : ℕ). fresh) ≡ look (opens H r).book
      unfolding meant
      opened_fresh = sym (ap (λ (B : Meaning). B.entries) fresh_meant)

      opened_helped : (λ (p : ℕ). 0) ≡ helped_of (opens H r).book
      unfolding meant help_of
      opened_helped = sym (ap (λ (B : Meaning). B.help.helped) fresh_meant)

    start_means : Means H (start H) protocol.start
    start_means =
        record {
          gave = record {
            books = opened_is;
            entries = opened_fresh;
            helped = opened_helped;
            deliveries = refl;
            publications = refl;
          };
          mail = tt;
          down = refl;
          returned = refl;
          requests = tt;
        }

    -- every run at the bytes means a run of the protocol
    pub season_means : (l : List Step) → Means H (run H l (start H)) (protocol.run (wall H) (steps_of H l) protocol.start)
    season_means l = run_means l (start H) protocol.start start_means
