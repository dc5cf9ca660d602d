-- A call at the bytes is the protocol's call, and an accepted request the protocol's help: where books, copies and requests mean the same
-- before, they mean the same afterwards.
use Prim.Native.Nat.{ℕ, zero, suc, ◌<◌}
use mathlib.Core.Path.{◌≡◌, refl, sym, ap, ◌∙◌, subst}
use mathlib.Core.Bool.{Bool, true, false, cond}
use mathlib.Core.List.{List, [], ◌++◌, append-nil}
use mathlib.Core.Option.{Option, none, some}
use native.Mathlib.Omega.{arith}
use lib.Dec.{T, eqb}
use borrow.Author.Tests.{eqb-true, eq-eqb, ne_eqb, lt-ltb}
use Rattle.card.specs.Card.{fitting}
use Rattle.words.specs.Words.{Bytes}
use Rattle.sheet.specs.Kept.{sheet_at}
use Rattle.meaning.specs.Book.{Header, Help, Meaning, n_of, numbers_of, own_of, season_of, limit_of, helped_of, header_of, help_of}
use Rattle.meaning.specs.Book.{count_help, look}
use Rattle.meaning.specs.Book.{meant}
use Rattle.meaning.specs.Opening.{headed}
use Rattle.meaning.specs.Legal.{legal, IsDecl, IsSlot, IsEntry}
use Rattle.meaning.proofs.Meant.{meant_is_book}
use Rattle.meaning.proofs.Stores.{Stored}
use Rattle.entry.specs.Entry.{Decl, Kind, SEND, ECHO, READY, Entry, outgoing, put_at}
use Rattle.entry.specs.Lists.{upd}
use Rattle.protocol.specs.Steps.{say, Out}
use Rattle.protocol.specs.Book.{Book, Call, publishing, sender_of, number_of, outcome, after, publication, noted}
use Rattle.protocol.specs.Run.{Wall}
use Rattle.protocol.specs.Run as protocol
use Rattle.protocol.specs.Thresholds.{rules_of, wall_of}
use Rattle.entry.proofs.Basics.{upd_all}
use Rattle.protocol.proofs.Calls.{outcome_done}
use Rattle.protocol.proofs.Views.{noted_none}
use Rattle.calls.proofs.KindNumber.{kind_is}
use Rattle.calls.specs.declared.Outcome.{Outcome}
use Rattle.calls.specs.Entered.{result_of, handed, helping, ok_by, rules_by, kind_number, letters}
use Rattle.calls.specs.Call.{refusal, step_of, called, request_answer, requested}
use Rattle.calls.specs.Again.{sending, said_of, sent_on, sent_of}
use Rattle.calls.specs.Keeps.{Keeps}
use Rattle.calls.proofs.Keeps.{plausible_decl, called_stored, called_given, called_keeps, helped_meant, helped_keeps}
use Rattle.season.specs.Run.{Houses, is_honest, Copy, Noted, Given, State, message_of, delivery_of, publication_of, Named, nothing, entry}
use Rattle.season.specs.Run.{noting, posted, sent_again, again_on, again, sends, ended}
use Rattle.season.proofs.Mail.{Says, Asks, Mails, mails_append, mails_each, mails_to_those, mails_posted}

message_of_lem : (a : ℕ) (m : Option (List ℕ)) (d : Option Decl) → message_of (handed a m d) ≡ m
message_of_lem a none d = refl
message_of_lem a (some m) d = refl

delivery_of_lem : (a : ℕ) (m : Option (List ℕ)) (d : Option Decl) → delivery_of (handed a m d) ≡ d
delivery_of_lem a m none = refl
delivery_of_lem a m (some v) = refl

pub publication_of_lem : (c : ℕ) (v : Decl) (o : Outcome) → publication_of v o ≡ publication (publishing c v) o.answer
publication_of_lem c v o = go o.answer
  where
    go : (a : ℕ) → cond (eqb a 0) (some v) none ≡ publication (publishing c v) a
    go zero = refl
    go (suc a) = rw (ne_eqb (suc a) 0 (λ e. omega arith))

-- noting nothing changes nothing
pub noting_none : (f : Noted) (r : ℕ) (e : Named) → noting f r e none ≡ f
noting_none f r nothing = refl
noting_none f r (entry j c) = noted_none f r j c

-- what a request answers
requested_answer : (b : List ℕ) (p season : ℕ) → (requested b p season).given.answer ≡ request_answer b p season
unfolding requested
requested_answer b p season = go (eqb (request_answer b p season) 0) refl
  where
    a : ℕ
    a = request_answer b p season

    go : (t : Bool) → eqb a 0 ≡ t → (cond t (result_of helping (count_help b p)) (refusal a b)).given.answer ≡ a
    go true e = sym (eqb-true a 0 e)
    go false e = refl

-- the wall that the houses' openings give
abbrev pub wall : Houses → Wall
wall H =
    wall_of H.n (fitting H.n H.down) H.down H.limit H.numbers (ok_by (sheet_at H.sheet 0)) H.honest

-- the header that house r opens its book with
abbrev pub header : Houses → ℕ → Header
header H r = headed H.n H.numbers r H.down H.season (sheet_at H.sheet 0)

module _ (H : Houses) where
  -- a legal book of house r
  pub record IsOf (r : ℕ) (b : List ℕ) : Type 0 where
    pub legal : legal b ≡ true
    pub bytes : Bytes b
    pub header : header_of b ≡ header H r
    pub limit : limit_of b ≡ H.limit

  module _ (r : ℕ) (b : List ℕ) (K : IsOf r b) where
    pub n_is : n_of b ≡ H.n
    unfolding header_of
    n_is = ap (λ (h : Header). h.n) K.header

    pub numbers_is : numbers_of b ≡ H.numbers
    unfolding header_of
    numbers_is = ap (λ (h : Header). h.numbers) K.header

    own_is : own_of b ≡ r
    unfolding header_of
    own_is = ap (λ (h : Header). h.own) K.header

    pub season_is : season_of b ≡ H.season
    unfolding header_of
    season_is = ap (λ (h : Header). h.season) K.header

  -- and so is what a call leaves of it
  is_kept : (r : ℕ) (b a : List ℕ) → IsOf r b → Keeps b a → IsOf r a
  is_kept r b a K k =
      record {
        legal = k.legal;
        bytes = k.bytes;
        header = k.header ∙ K.header;
        limit = k.limit ∙ K.limit;
      }

  -- what calls gave at the bytes, and what they gave in the protocol
  pub record Gave (g : Given) (y : protocol.Given) (f : ℕ → ℕ → ℕ) : Type 0 where
    pub books : (r : ℕ) → T (is_honest H r) → IsOf r (g.books r)
    pub entries : (r : ℕ) → T (is_honest H r) → y.books r ≡ look (g.books r)
    pub helped : (r : ℕ) → T (is_honest H r) → f r ≡ helped_of (g.books r)
    pub deliveries : y.deliveries ≡ g.deliveries
    pub publications : y.publications ≡ g.publications

  pub record Means (s : State) (z : protocol.State) : Type 0 where
    pub gave : Gave s.gave z.gave z.power.helped
    pub mail : Mails (Says H.season) s.mail z.mail
    pub down : z.power.down ≡ s.power.down
    pub returned : z.power.returned ≡ s.power.returned
    pub requests : Mails (Asks H.season) s.power.requests z.power.requests

  module _ (r : ℕ) (s : State) (z : protocol.State) (M : Means s z) (honest : T (is_honest H r)) where
    abbrev g : Given
    g = s.gave

    abbrev y : protocol.Given
    y = z.gave

    abbrev b : List ℕ
    b = g.books r

    abbrev G : Gave g y z.power.helped
    G = M.gave

    K : IsOf r b
    K = G.books r honest

    -- house r's book replaced
    books_after : (d : List ℕ) → IsOf r d → (q : ℕ) → T (is_honest H q) → IsOf q (upd g.books r d q)
    books_after d D = upd_all (λ q x. T (is_honest H q) → IsOf q x) g.books r d (λ t. D) G.books

    -- what F reads off the books, replaced on both sides, or on one where F reads the same
    module _ {A : Type 0} (F : List ℕ → A) (f : ℕ → A) (was : (q : ℕ) → T (is_honest H q) → f q ≡ F (g.books q)) (d : List ℕ) where
      both_after : (x : A) → x ≡ F d → (q : ℕ) → T (is_honest H q) → upd f r x q ≡ F (upd g.books r d q)
      both_after x e q t = go (eqb q r)
        where
          go : (w : Bool) → cond w x (f q) ≡ F (cond w d (g.books q))
          go true = e
          go false = was q t

      same_after : F b ≡ F d → (q : ℕ) → T (is_honest H q) → f q ≡ F (upd g.books r d q)
      same_after e = upd_all (λ q x. T (is_honest H q) → f q ≡ F x) g.books r d (λ t. was r t ∙ e) was

    -- ---- a call on an entry

    module _ (a : Call) where
      abbrev j : ℕ
      j = sender_of r a

      abbrev c : ℕ
      c = number_of a

      abbrev o : Out
      o = outcome (wall H).rules (wall H).numbers r a (y.books r)

      step_is : step_of b a ≡ o
      unfolding step_of meant rules_by wall_of
      step_is =
          λ i.
          let h : Header = K.header i in outcome (rules_by h) h.numbers h.own a (sym (G.entries r honest) i)

      stored : Stored b (called b a).book (sender_of (own_of b) a) c (step_of b a).entry
      stored = called_stored b K.legal K.bytes a

      book_is : IsOf r (called b a).book
      book_is = is_kept r b (called b a).book K (called_keeps b K.legal K.bytes a)

      helped_is : helped_of b ≡ helped_of (called b a).book
      unfolding help_of
      helped_is = sym (ap (λ (w : Help). w.helped) stored.help)

      entries_are : after (wall H).rules (wall H).numbers r a (y.books r) ≡ look (called b a).book
      unfolding after
      entries_are =
          (λ i. put_at (G.entries r honest i) (sender_of (sym (own_is r b K) i) a) c (sym step_is i).entry) ∙ sym stored.entries

      given_is : (called b a).given ≡ handed o.answer (letters H.season j c o.message) o.delivery
      given_is =
          called_given b K.legal K.bytes a
          ∙ (λ i.
          handed (step_is i).answer (letters (season_is r b K i) (sender_of (own_is r b K i) a) c (step_is i).message)
          (step_is i).delivery)

      pub answer_is : (called b a).given.answer ≡ o.answer
      answer_is = ap (λ (x : Outcome). x.answer) given_is

      delivery_is : o.delivery ≡ delivery_of (called b a).given
      delivery_is = sym (ap delivery_of given_is ∙ delivery_of_lem o.answer (letters H.season j c o.message) o.delivery)

      message_is : letters H.season j c o.message ≡ message_of (called b a).given
      message_is = sym (ap message_of given_is ∙ message_of_lem o.answer (letters H.season j c o.message) o.delivery)

      -- it helps nobody
      pub sends_is : (p : ℕ) → sends H r p (called b a) ≡ posted r (message_of (called b a).given) H.n
      sends_is p = rw (ap (λ (x : Outcome). x.helps) given_is)

      -- a message that a call gives is of 20 bytes
      decl_is : (k : Kind) (v : Decl) → o.message ≡ some (say k v) → IsDecl v
      unfolding wall_of rules_of
      decl_is k v e =
          plausible_decl (sheet_at H.sheet 0) v ((outcome_done (wall H).rules (wall H).numbers r a (y.books r)).moves.says k v e).2

      pub call_means : (x : Option Decl) → x ≡ publication a (called b a).given.answer → (k : List Copy) (l : List protocol.Copy)
          → Mails (Says H.season) k l
          → Means (ended r (entry j c) (called b a) x s (k ++ posted r (message_of (called b a).given) H.n))
          (protocol.called (wall H) r a z l)
      unfolding ended protocol.called wall_of rules_of
      call_means x e k l N =
          record {
            gave = record {
              books = books_after (called b a).book book_is;
              entries = both_after look y.books G.entries (called b a).book _ entries_are;
              helped = same_after helped_of z.power.helped G.helped (called b a).book helped_is;
              deliveries = λ i. noted (G.deliveries i) r j c (delivery_is i);
              publications = λ i. noted (G.publications i) r j c (publication_is i);
            };
            mail = mails_append (Says H.season) k l _ _ N
                (subst
                (λ (m : Option (List ℕ)). Mails (Says H.season) (posted r m H.n) (protocol.posted j c r o.message H.n))
                message_is (mails_posted H.season r j c H.n o.message decl_is));
            down = M.down;
            returned = M.returned;
            requests = M.requests;
          }
        where
          publication_is : publication a o.answer ≡ x
          publication_is = sym (e ∙ ap (publication a) answer_is)

    -- a refusal is no call of the protocol
    pub refusal_means : (e : Named) (n : ℕ) → Means (ended r e (refusal n b) none s (s.mail ++ [])) z
    unfolding ended
    refusal_means e n =
        record {
          gave = record {
            books = books_after b K;
            entries = same_after look y.books G.entries b refl;
            helped = same_after helped_of z.power.helped G.helped b refl;
            deliveries = G.deliveries ∙ sym (noting_none g.deliveries r e);
            publications = G.publications ∙ sym (noting_none g.publications r e);
          };
          mail = rw (append-nil s.mail) M.mail;
          down = M.down;
          returned = M.returned;
          requests = M.requests;
        }

    -- ---- what is sent again

    own_slot : (n : ℕ) (k : Kind) (e : Entry) → IsEntry n e → IsSlot (outgoing k e)
    own_slot n SEND e h = h.published
    own_slot n ECHO e h = h.send
    own_slot n READY e h = h.ready_sent

    module _ (d : List ℕ) (D : IsOf r d) (Q : ℕ → Bool) where
      pub sent_is : (k : Kind) (j c : ℕ) → j < H.n → c < H.numbers
          → sent_of d (kind_number k) j c ≡ sending 0 (letters H.season j c (said_of k (outgoing k (look d j c))))
      unfolding sent_of sent_on
      sent_is k j c lj lc =
          let in_senders = lt-ltb j (n_of d) (omega (arith, n_is r d D)) in
          let in_numbers = lt-ltb c (numbers_of d) (omega (arith, numbers_is r d D)) in
          rw (D.legal, kind_is k, in_senders, in_numbers)
          (ap (λ (x : ℕ). sending 0 (letters x j c (said_of k (outgoing k (look d j c))))) (season_is r d D))

      slot_again : (k : Kind) (j c : ℕ) (x : Option Decl) → IsSlot x
          → Mails (Says H.season) (sent_again Q r H.n (sending 0 (letters H.season j c (said_of k x))))
          (protocol.again_kind Q j c r k x H.n)
      slot_again k j c none i = tt
      slot_again k j c (some v) i = mails_to_those H.season Q r j c k v i H.n

      abbrev mine : Kind → ℕ → ℕ → List Copy
      mine k j c = sent_again Q r H.n (sent_of d (kind_number k) j c)

      abbrev theirs : Kind → ℕ → ℕ → List protocol.Copy
      theirs k j c = protocol.again_kind Q j c r k (outgoing k (look d j c)) H.n

      kind_again : (k : Kind) (j c : ℕ) → j < H.n → c < H.numbers → Mails (Says H.season) (mine k j c) (theirs k j c)
      unfolding meant
      kind_again k j c lj lc =
          rw (sent_is k j c lj lc)
          (slot_again k j c (outgoing k (look d j c))
          (own_slot (n_of d) k (look d j c) ((meant_is_book d D.legal D.bytes).entries.each j c)))

      entry_again : (j c : ℕ) → j < H.n → c < H.numbers
          → Mails (Says H.season) (again_on Q r H.n d j c) (protocol.again_on Q r H.n j c (look d j c))
      entry_again j c lj lc =
          mails_append (Says H.season) (mine SEND j c) (theirs SEND j c) (mine ECHO j c ++ mine READY j c)
          (theirs ECHO j c ++ theirs READY j c)
          (kind_again SEND j c lj lc)
          (mails_append (Says H.season) (mine ECHO j c) (theirs ECHO j c) (mine READY j c) (theirs READY j c)
          (kind_again ECHO j c lj lc)
          (kind_again READY j c lj lc))

      pub again_means : (E : Book) → E ≡ look d
          → Mails (Says H.season) (again Q r H.n H.numbers d) (protocol.again Q r H.n H.numbers E)
      again_means E e =
          rw e
          (mails_each (Says H.season) _ _ H.numbers (λ c lc.
          mails_each (Says H.season) _ _ H.n (λ j lj. entry_again j c lj lc)))

    -- ---- a request

    module _ (p : ℕ) where
      answer_same : request_answer b p H.season ≡ protocol.help_answer (protocol.n (wall H)) (wall H).limit p (z.power.helped r p)
      unfolding request_answer wall_of rules_of
      answer_same =
          rw (eq-eqb H.season (season_of b) (sym (season_is r b K)))
          (λ i. protocol.help_answer (n_is r b K i) (K.limit i) p (sym (G.helped r honest) i p))

      pub asked_answer : (requested b p H.season).given.answer ≡ protocol.help_answer H.n H.limit p (z.power.helped r p)
      unfolding wall_of rules_of
      asked_answer = requested_answer b p H.season ∙ answer_same

      accepted_means : request_answer b p H.season ≡ 0
          → Means
          (ended r nothing (result_of helping (count_help b p)) none s (s.mail ++ again (eqb p) r H.n H.numbers (count_help b p)))
          (record {
            gave = y;
            mail = z.mail ++ protocol.again (eqb p) r H.n H.numbers (y.books r);
            power = record {
              down = z.power.down;
              returned = z.power.returned;
              helped = protocol.one_more z.power.helped r p;
              requests = z.power.requests;
            };
          })
      unfolding ended meant help_of
      accepted_means e =
          let d = count_help b p in
          let B = helped_meant b K.legal K.bytes p H.season e in
          let D = is_kept r b d K (helped_keeps b K.legal K.bytes p H.season e) in
          let same : look b ≡ look d = sym (ap (λ (B : Meaning). B.entries) B) in
          let more = (λ i. upd (G.helped r honest i) p (suc (G.helped r honest i p))) ∙ sym (ap (λ (B : Meaning). B.help.helped) B) in
          record {
            gave = record {
              books = books_after d D;
              entries = same_after look y.books G.entries d same;
              helped = both_after helped_of z.power.helped G.helped d _ more;
              deliveries = G.deliveries;
              publications = G.publications;
            };
            mail = mails_append (Says H.season) s.mail z.mail _ _ M.mail
                (again_means d D (eqb p) (y.books r) (G.entries r honest ∙ same));
            down = M.down;
            returned = M.returned;
            requests = M.requests;
          }

      -- a request of the season is the protocol's
      pub request_means : Means
          (ended r nothing (requested b p H.season) none s (s.mail ++ sends H r p (requested b p H.season)))
          (protocol.helps (wall H) r p z)
      unfolding requested protocol.helps wall_of rules_of
      request_means = rw (← answer_same) (go (eqb (request_answer b p H.season) 0) refl)
        where
          a : ℕ
          a = request_answer b p H.season

          go : (t : Bool) → eqb a 0 ≡ t
              → Means
              (ended r nothing (cond t (result_of helping (count_help b p)) (refusal a b)) none s
              (s.mail ++ sends H r p (cond t (result_of helping (count_help b p)) (refusal a b))))
              (cond t
              (record {
                gave = y;
                mail = z.mail ++ protocol.again (eqb p) r H.n H.numbers (y.books r);
                power = record {
                  down = z.power.down;
                  returned = z.power.returned;
                  helped = protocol.one_more z.power.helped r p;
                  requests = z.power.requests;
                };
              })
              z)
          go true e = accepted_means (eqb-true a 0 e)
          go false e = refusal_means nothing a

      -- and one of another season is refused
      pub other_means : (season : ℕ) → (season ≡ H.season → ⊥)
          → Means (ended r nothing (requested b p season) none s (s.mail ++ sends H r p (requested b p season))) z
      unfolding requested request_answer
      other_means season f =
          rw (ne_eqb season (season_of b) (λ e. f (e ∙ season_is r b K))) (refusal_means nothing 3)
