-- Receiving by entry on a legal book is receiving; its refusals are silent, and its answers come in their order.
use Prim.Native.Nat.{ℕ, ◌≤◌, ◌<◌}
use mathlib.Core.Path.{◌≡◌, refl, sym, ap, ◌∙◌}
use mathlib.Core.Logic.{◌⊎◌, inl, inr, ⊎_elim}
use mathlib.Core.Bool.{Bool, true, false, cond, ◌&&◌, and-eq-true_iff, true≢false}
use mathlib.Core.List.{List}
use mathlib.Core.Option.{Option, none, some}
use native.Mathlib.Decide.{dec_lt}
use native.Mathlib.Omega.{arith}
use lib.Dec.{eqb, ltb}
use borrow.Author.Tests.{eqb-true, eq-eqb, ne_eqb, ltb-true, lt-ltb, le-ltb}
use Rattle.lot.specs.Declaration.{bytes_of}
use Rattle.message.specs.Message.{Five, Told, well_formed, five_at, read_as, malformed, read_of, request_of}
use Rattle.message.proofs.Request.{message_unasked}
use Rattle.message.proofs.RoundTrip.{read_known}
use Rattle.entry.specs.Entry.{Decl, Kind}
use Rattle.protocol.specs.Steps.{Out}
use Rattle.protocol.specs.Book.{Call, receiving, sender_of, number_of}
use Rattle.meaning.specs.Book.{n_of, numbers_of, own_of, season_of}
use Rattle.meaning.specs.Legal.{legal, head_legal, entry_legal, Lent, Has, Fits}
use Rattle.meaning.proofs.Legality.{legal_head, legal_entry}
use Rattle.meaning.proofs.Row.{rowed_look}
use Rattle.calls.specs.Entered.{Result, handed, kind_of}
use Rattle.calls.specs.Call.{refusal, step_of, asked, answering, heard_any, requested, received}
use Rattle.calls.specs.Silent.{Refuses}
use Rattle.calls.specs.ByEntry.{entered_in, called_in, answering_in, heard_on, heard_in, any_in, received_entry, Stepped}
use Rattle.calls.specs.ByEntry.{Answers, ByEntry}
use Rattle.calls.proofs.KindNumber.{kind_known}
use Rattle.calls.proofs.Checking.{missing, called_refused}
use Rattle.calls.proofs.Silent.{refuses, requested_silent}
use Rattle.calls.proofs.ByEntry.{called_same, called_left, given_is}
use Rattle.calls.proofs.Known.{received_kept}

-- bytes read as a message, or they are malformed
pub read_cases : (s : List ℕ) → ((m : Five) × (read_of s ≡ read_as m)) ⊎ (read_of s ≡ malformed)
unfolding read_of
read_cases s = go (well_formed s)
  where
    go : (t : Bool)
        → ((m : Five) × (cond t (read_as (five_at s)) malformed ≡ read_as m)) ⊎ (cond t (read_as (five_at s)) malformed ≡ malformed)
    go true = inl (five_at s, refl)
    go false = inr refl

and_no : (t : Bool) → (t && false) ≡ false
and_no true = refl
and_no false = refl

-- an entry is in the book, or its sender or its number is not
not_inside : (j n c s : ℕ) → (ltb j n && ltb c s) ≡ false → (n ≤ j) ⊎ (s ≤ c)
not_inside j n c s f =
    elim (dec_lt j n) [
      | yes l ↦ elim (dec_lt c s) [
        | yes g ↦ absurd (true≢false (sym ((and-eq-true_iff (ltb j n) (ltb c s)).1 (lt-ltb j n l, lt-ltb c s g)) ∙ f))
        | no g ↦ inr (omega arith)
      ]
      | no l ↦ inl (omega arith)
    ]

module _ (b : List ℕ) (L : Lent b) (p : ℕ) where
  same_on : (m : Five) (k : Kind) → kind_of m.kind ≡ some k → heard_on b p m ≡ answering b (asked p m)
  unfolding heard_on
  same_on m k e = go (ltb m.sender (n_of b) && ltb m.number (numbers_of b)) refl
    where
      v : Decl
      v = bytes_of m.declaration

      go : (t : Bool) → (ltb m.sender (n_of b) && ltb m.number (numbers_of b)) ≡ t
          → cond t (cond (entry_legal b m.sender m.number) (answering_in b (asked p m)) (refusal 1 b)) (refusal 4 b)
          ≡ answering b (asked p m)
      go true q =
          let both = (and-eq-true_iff (ltb m.sender (n_of b)) (ltb m.number (numbers_of b))).0 q in
          let hj = ltb-true m.sender (n_of b) both.0 in
          let hc = ltb-true m.number (numbers_of b) both.1 in
          let entry = legal_entry b m.sender m.number L.legal hj hc in
          let has : Has b m.sender m.number = record { head = legal_head b L.legal; sender = hj; number = hc } in
          rw (entry, e) (called_same b m.sender m.number (record { has = has; entry = entry }) L.bytes p v k L.legal)
      go false q =
          let past = not_inside m.sender (n_of b) m.number (numbers_of b) q in
          let gone : (n_of b ≤ m.sender) ⊎ ((numbers_of b ≤ m.number) ⊎ (n_of b ≤ p)) = ⊎_elim (λ l. inl l) (λ l. inr (inl l)) past in
          rw e
          (called_refused b (receiving p k m.sender m.number v) 4 (handed 4 none none)
          (missing b m.sender m.number p k v gone) (λ z. omega arith) refl)

  same_received : (message : List ℕ) → received_entry b p message ≡ received b p message
  unfolding received_entry received heard_in
  same_received message = rw (legal_head b L.legal, L.legal) (any (request_of message) (read_cases message))
    where
      season : (m : Five) → read_of message ≡ read_as m → (t : Bool)
          → cond t (heard_on b p m) (refusal 3 b) ≡ cond t (answering b (asked p m)) (refusal 3 b)
      season m r true = let k = kind_known m.kind (read_known message m r) in same_on m k.0 k.1
      season m r false = refl

      any : (o : Option ℕ) → ((m : Five) × (read_of message ≡ read_as m)) ⊎ (read_of message ≡ malformed)
          → any_in b p o (read_of message).five ≡ heard_any b p o (read_of message).five
      any (some asks) x = refl
      any none (inl (m, r)) = rw r (season m r (eqb m.season (season_of b)))
      any none (inr r) = rw r

-- ---- refusals are silent

module _ (b : List ℕ) (p : ℕ) where
  abbrev Silently : Result → Type 0
  Silently r = (r.given.answer ≡ 0 → ⊥) → Refuses b r

  called_silent : (a : Call) → Silently (called_in b a)
  unfolding called_in entered_in
  called_silent a = go (eqb o.answer 0) refl
    where
      o : Out
      o = step_of b a

      go : (t : Bool) → eqb o.answer 0 ≡ t
          → Silently (cond t (entered_in b (sender_of (own_of b) a) (number_of a) o) (refusal o.answer b))
      go true e f = absurd (f (eqb-true o.answer 0 e))
      go false e f = refuses b o.answer

  on_silent : (m : Five) → Silently (heard_on b p m)
  unfolding heard_on
  on_silent m = go (ltb m.sender (n_of b) && ltb m.number (numbers_of b)) (entry_legal b m.sender m.number) (asked p m)
    where
      go : (t u : Bool) (x : Option Call) → Silently (cond t (cond u (answering_in b x) (refusal 1 b)) (refusal 4 b))
      go true true none f = refuses b 2
      go true true (some a) f = called_silent a f
      go true false x f = refuses b 1
      go false u x f = refuses b 4

  received_silent : (message : List ℕ) → Silently (received_entry b p message)
  unfolding received_entry heard_in
  received_silent message = go (head_legal b) (request_of message) (read_of message).five
    where
      season : (m : Five) (t : Bool) → Silently (cond t (heard_on b p m) (refusal 3 b))
      season m true f = on_silent m f
      season m false f = refuses b 3

      go : (t : Bool) (o : Option ℕ) (x : Option Five) → Silently (cond t (any_in b p o x) (refusal 1 b))
      go true none none f = refuses b 2
      go true none (some m) f = season m (eqb m.season (season_of b)) f
      go true (some asks) x f = requested_silent b p asks f
      go false o x f = refuses b 1

-- ---- each answer in its order

module _ (b : List ℕ) (p : ℕ) (message : List ℕ) where
  module _ (h : head_legal b ≡ true) (m : Five) (r : read_of message ≡ read_as m) where
    unasked : request_of message ≡ none
    unasked = message_unasked message m (ap (λ (t : Told). t.five) r)

    other_season : (m.season ≡ season_of b → ⊥) → (received_entry b p message).given.answer ≡ 3
    unfolding received_entry heard_in
    other_season f = rw (h, unasked, r, ne_eqb m.season (season_of b) f)

    module _ (s : m.season ≡ season_of b) where
      in_season : received_entry b p message ≡ heard_on b p m
      unfolding received_entry heard_in
      in_season = rw (h, unasked, r, eq-eqb m.season (season_of b) s)

      no_entry : (n_of b ≤ m.sender) ⊎ (numbers_of b ≤ m.number) → (received_entry b p message).given.answer ≡ 4
      unfolding heard_on
      no_entry x = ap (λ (r : Result). r.given.answer) in_season ∙ go x
        where
          go : (n_of b ≤ m.sender) ⊎ (numbers_of b ≤ m.number) → (heard_on b p m).given.answer ≡ 4
          go (inl l) = rw (le-ltb m.sender (n_of b) l)
          go (inr l) = rw (le-ltb m.number (numbers_of b) l, and_no (ltb m.sender (n_of b)))

      module _ (hj : m.sender < n_of b) (hc : m.number < numbers_of b) where
        bad_entry : entry_legal b m.sender m.number ≡ false → (received_entry b p message).given.answer ≡ 1
        unfolding heard_on
        bad_entry f =
            ap (λ (r : Result). r.given.answer) in_season
            ∙ rw (lt-ltb m.sender (n_of b) hj, lt-ltb m.number (numbers_of b) hc, f)

        good_entry : entry_legal b m.sender m.number ≡ true → (k : Kind) → kind_of m.kind ≡ some k
            → received_entry b p message ≡ called_in b (receiving p k m.sender m.number (bytes_of m.declaration))
        unfolding heard_on
        good_entry t k e = in_season ∙ rw (lt-ltb m.sender (n_of b) hj, lt-ltb m.number (numbers_of b) hc, t, e)

  stepped : (m : Five) → read_of message ≡ read_as m → m.season ≡ season_of b → Fits b m.sender m.number
      → (k : Kind) → kind_of m.kind ≡ some k → (o : Out) → o ≡ step_of b (receiving p k m.sender m.number (bytes_of m.declaration))
      → Stepped b m.sender m.number o (received_entry b p message)
  stepped m r s fits k e o q =
      let x = good_entry fits.has.head m r s fits.has.sender fits.has.number fits.entry k e in
      let v = bytes_of m.declaration in
      rw (q, x)
      (record {
        given = given_is b m.sender m.number p v k;
        entry = λ bytes.
            rowed_look b m.sender m.number fits _ _ (called_left b m.sender m.number fits bytes p v k).rowed;
      })

  no_head : head_legal b ≡ false → (received_entry b p message).given.answer ≡ 1
  unfolding received_entry
  no_head f = rw f

  module _ (h : head_legal b ≡ true) where
    asks : (season : ℕ) → request_of message ≡ some season → received_entry b p message ≡ requested b p season
    unfolding received_entry
    asks season q = rw (h, q)

    not_formed : request_of message ≡ none → read_of message ≡ malformed → (received_entry b p message).given.answer ≡ 2
    unfolding received_entry heard_in
    not_formed q r = rw (h, q, r)

  answers : Answers b p message
  answers =
      record {
        no_head = no_head;
        asking = asks;
        malformed = not_formed;
        other_season = other_season;
        no_entry = no_entry;
        bad_entry = bad_entry;
        stepped = stepped;
      }

pub by_entry : ByEntry
by_entry =
    record {
      same_as_receiving = same_received;
      answers = answers;
      silent = received_silent;
      elsewhere = λ b bytes p message i f g. (received_kept b bytes p message).same i (f, g);
      long = λ b bytes p message. (received_kept b bytes p message).long;
      keeps_head = λ b bytes p message. (received_kept b bytes p message).head;
      keeps_header = λ b bytes p message. (received_kept b bytes p message).header;
      keeps_limit = λ b bytes p message. (received_kept b bytes p message).limit;
      keeps_entry = λ b bytes p message j c e. (received_kept b bytes p message).entry j c e;
    }
