-- What receiving gives, test by test as the code makes them: of a request, of a message, and of bytes that are neither.
use Prim.Native.Nat.{ℕ}
use mathlib.Core.Path.{◌≡◌, refl, sym, ap, ◌∙◌}
use mathlib.Core.Bool.{Bool, true, false}
use mathlib.Core.List.{List}
use mathlib.Core.Option.{none, some}
use native.Mathlib.Omega.{arith}
use lib.ListN.{length, get_or}
use borrow.Author.Tests.{eq-eqb, ne_eqb}
use Rattle.words.specs.Words.{word_at}
use Rattle.lot.specs.Declaration.{declaration_at}
use Rattle.message.specs.Message.{Five, Told, well_formed, five_at, read_as, malformed, read_of, is_request, request_of}
use Rattle.message.proofs.Form.{sized}
use Rattle.message.proofs.RoundTrip.{five_or}
use Rattle.message.proofs.Request.{request_long, request_names, no_request}
use Rattle.meaning.specs.Book.{season_of}
use Rattle.meaning.specs.Legal.{head_legal, Lent}
use Rattle.calls.specs.declared.Outcome.{Outcome}
use Rattle.calls.specs.Entered.{Result, result_of, handed}
use Rattle.calls.specs.Call.{request_answer, requested, received}
use Rattle.calls.specs.ByEntry.{heard_on, heard_in, any_in, received_entry}
use Rattle.meaning.proofs.Legality.{legal_head}
use Rattle.calls.proofs.Claims.{claims}
use Rattle.std.specs.Prelude as std
use Rattle.refusal.specs.declared.Refusal.{Refusal}
use Rattle.reply.specs.declared.Step.{Step}
use Rattle.reply.specs.Handed.{sender_in, number_in, outcome_of}

-- ---- a request

module _ (b : List ℕ) (p season book_season : ℕ) (e : book_season ≡ season_of b) where
  pub request_other : (season ≡ book_season → ⊥) → (r : Outcome) → r ≡ handed 3 none none → result_of r b ≡ requested b p season
  unfolding requested request_answer
  request_other f r q = rw (ne_eqb season (season_of b) (λ s. f (s ∙ sym e))) (ap (λ (x : Outcome). result_of x b) q)

  pub request_asked : season ≡ book_season → (x : Result) → x ≡ requested b p (season_of b) → x ≡ requested b p season
  request_asked s x q = q ∙ ap (requested b p) (sym (s ∙ e))

-- ---- a message

module _ (b m : List ℕ) (p season book_season : ℕ) (es : season ≡ word_at m 7) (e : book_season ≡ season_of b) where
  pub message_other : (season ≡ book_season → ⊥) → result_of (handed 3 none none) b ≡ heard_in b p (some (five_at m))
  unfolding heard_in five_at
  message_other f = rw (ne_eqb (word_at m 7) (season_of b) (λ x. f (es ∙ x ∙ sym e)))

  pub message_found : season ≡ book_season → (x : Result) → x ≡ heard_on b p (five_at m) → x ≡ heard_in b p (some (five_at m))
  unfolding heard_in five_at
  message_found s x q = rw (eq-eqb (word_at m 7) (season_of b) (sym es ∙ s ∙ e)) q

-- ---- what reading gave

-- m is well formed, and these are its five things
pub record Formed (m : List ℕ) (f : Five) : Type 0 where
  pub formed : well_formed m ≡ true
  pub kind : f.kind ≡ get_or m 3 0
  pub season : f.season ≡ word_at m 7
  pub sender : f.sender ≡ sender_in m
  pub number : f.number ≡ number_in m
  pub declaration : f.declaration ≡ declaration_at m 16

module _ (m : List ℕ) where
  pub read_formed : (f : Five) → read_as f ≡ read_of m → Formed m f
  unfolding read_of five_at
  read_formed f r = go (well_formed m) refl
    where
      go : (t : Bool) → well_formed m ≡ t → Formed m f
      go true h =
          let q : read_as f ≡ read_as (five_at m) = rw h at r in
          let e = ap (λ (t : Told). five_or f t.five) q in
          record {
            formed = h;
            kind = ap (λ (x : Five). x.kind) e;
            season = ap (λ (x : Five). x.season) e;
            sender = ap (λ (x : Five). x.sender) e;
            number = ap (λ (x : Five). x.number) e;
            declaration = ap (λ (x : Five). x.declaration) e;
          }
      go false h =
          let q : read_as f ≡ malformed = rw h at r in
          let z : ◌≡◌ {A = ℕ} 0 2 = ap (λ (x : Told). x.answer) q in
          absurd (omega arith)

  -- the length that a request has, and a message
  pub asks_long : (t : Bool) → t ≡ is_request m → t ≡ true → length m ≡ 11
  asks_long t e h = request_long m (sym e ∙ h)

  pub formed_long : (f : Five) → Formed m f → length m ≡ 36
  formed_long f F = sized m F.formed

  module _ (b : List ℕ) (p : ℕ) (t : Bool) (e : t ≡ is_request m) where
    pub asked_any : t ≡ true → (season : ℕ) → season ≡ word_at m 7 → (x : Result) → x ≡ requested b p season
        → x ≡ any_in b p (request_of m) (read_of m).five
    asked_any h season s x q = rw (request_names m (sym e ∙ h)) (q ∙ ap (requested b p) s)

    module _ (h : t ≡ false) where
      -- 2
      pub malformed_any : malformed ≡ read_of m → (r : Outcome) → r ≡ handed 2 none none
          → result_of r b ≡ any_in b p (request_of m) (read_of m).five
      unfolding heard_in
      malformed_any r o q = rw (no_request m (sym e ∙ h), sym r) (ap (λ (x : Outcome). result_of x b) q)

      pub message_any : (f : Five) → Formed m f → (s : std.Result Step Refusal) (a : List ℕ)
          → result_of (outcome_of s m) a ≡ heard_in b p (some (five_at m))
          → (r : Outcome) → r ≡ outcome_of s m → result_of r a ≡ any_in b p (request_of m) (read_of m).five
      unfolding read_of
      message_any f F s a q r o = rw (no_request m (sym e ∙ h), F.formed) (ap (λ (x : Outcome). result_of x a) o ∙ q)

-- ---- past answer 1

module _ (b m : List ℕ) (p : ℕ) where
  -- by entry
  module _ (t : Bool) (e : t ≡ head_legal b) where
    pub head_refused : t ≡ false → (r : Outcome) → r ≡ handed 1 none none → result_of r b ≡ received_entry b p m
    unfolding received_entry
    head_refused f r q = rw (sym e ∙ f) (ap (λ (x : Outcome). result_of x b) q)

    pub head_heard : t ≡ true → (x : Result) → x ≡ any_in b p (request_of m) (read_of m).five → x ≡ received_entry b p m
    unfolding received_entry
    head_heard f x q = rw (sym e ∙ f) q

  -- a legal book: the same
  pub legal_heard : Lent b → (x : Result) → x ≡ any_in b p (request_of m) (read_of m).five → x ≡ received b p m
  legal_heard L x q = head_heard (head_legal b) refl (legal_head b L.legal) x q ∙ claims.by_entry.same_as_receiving b L p m
