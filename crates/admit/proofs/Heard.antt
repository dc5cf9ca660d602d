-- A message, test by test as the code makes them: each refusal, and past them the step of its kind.
use Prim.Native.Nat.{ℕ, ◌≤◌, ◌<◌}
use mathlib.Core.Path.{◌≡◌, refl, sym, ap, ◌∙◌, subst}
use mathlib.Core.Bool.{Bool, true, false, cond}
use mathlib.Core.List.{List}
use mathlib.Core.Logic.{inr}
use mathlib.Core.Option.{Option, some, none}
use lib.ListN.{get_or}
use borrow.Author.Tests.{lt-ltb, le-ltb}
use Rattle.lot.specs.declared.Declaration.{Declaration}
use Rattle.lot.specs.Declaration.{declaration_at}
use Rattle.lot.proofs.Declared.{numbers_of_bytes}
use Rattle.sheet.specs.declared.Sheet.{Sheet}
use Rattle.sheet.specs.Sheet.{plausible}
use Rattle.message.specs.Message.{five_at}
use Rattle.message.proofs.Form.{known_kind}
use Rattle.message.proofs.RoundTrip.{lot_bytes}
use Rattle.entry.specs.Entry.{Decl, Kind, SEND, ECHO, READY}
use Rattle.meaning.specs.Book.{n_of, numbers_of, sheet_of}
use Rattle.meaning.specs.Legal.{IsDecl, Has, entry_legal, head_legal}
use Rattle.calls.specs.Entered.{Result, handed, result_of, ok_by, kind_of, kind_number}
use Rattle.calls.specs.Call.{refusal, asked_as}
use Rattle.calls.specs.ByEntry.{called_in, answering_in, heard_on}
use Rattle.calls.proofs.KindNumber.{kind_known, kind_send, kind_echo, kind_ready}
use Rattle.calls.proofs.Declarations.{read_decl, plausible_ok}
use Rattle.calls.proofs.Checking.{missing_refused, implausible_refused, another_refused}
use Rattle.layout.specs.declared.EntryAt.{EntryAt}
use Rattle.layout.specs.Places.{Opens}
use Rattle.reply.specs.Handed.{sender_in, number_in, lot_in}
use Rattle.step.specs.Carries.{asked_by, Comes}
use Rattle.admit.specs.Heard.{heard_as, heard_at}
use Rattle.admit.specs.Tested.{Shows}
use Rattle.admit.specs.declared.Tested.{Tested}
use Rattle.admit.specs.declared.Tested.TheVariants.{Whole, Head}
use Rattle.meaning.proofs.Legality.{legal_head}

module _ (b m : List ℕ) (C : Comes b m) where
  abbrev j : ℕ
  j = sender_in m

  abbrev c : ℕ
  c = number_in m

  abbrev v : Decl
  v = lot_in m

  -- the declaration's bytes, as they stand, are those of its numbers
  pub lot_decl : IsDecl v
  lot_decl = subst IsDecl (sym (lot_bytes m C.bytes C.formed)) (read_decl m 16 C.bytes)

  lot_numbers : declaration_at m 16 ≡ declaration_at v 0
  lot_numbers =
      sym (ap (λ (x : Decl). declaration_at x 0) (lot_bytes m C.bytes C.formed) ∙ numbers_of_bytes (declaration_at m 16))

  pub lot_plausible : (s : Sheet) (d : Declaration) (t : Bool) → s ≡ sheet_of b → d ≡ declaration_at m 16 → t ≡ plausible s d
      → t ≡ ok_by (sheet_of b) v
  lot_plausible s d t es ed et = plausible_ok s (sheet_of b) v d t lot_decl es (ed ∙ lot_numbers) et

  module _ (p : ℕ) where
    heard_is : (k : Kind) → kind_of (get_or m 3 0) ≡ some k → heard_as b p m ≡ called_in b (asked_by p k m)
    unfolding heard_as
    heard_is k e = ap (λ (o : Option Kind). answering_in b (asked_as p j c v o)) e

    -- ---- by the kind

    module _ (kind : ℕ) (ek : kind ≡ get_or m 3 0) where
      pub send_taken : (sender : ℕ) → sender ≡ j → kind ≡ 1 → p ≡ sender → (x : Result) → x ≡ called_in b (asked_by j SEND m)
          → x ≡ heard_as b p m
      send_taken sender s e f x q =
          q ∙ ap (λ (x : ℕ). called_in b (asked_by x SEND m)) (sym (f ∙ s)) ∙ sym (heard_is SEND (kind_send (get_or m 3 0) (sym ek ∙ e)))

      pub echo_taken : kind ≡ 2 → (x : Result) → x ≡ called_in b (asked_by p ECHO m) → x ≡ heard_as b p m
      echo_taken e x q = q ∙ sym (heard_is ECHO (kind_echo (get_or m 3 0) (sym ek ∙ e)))

      pub ready_taken : kind ≡ 3 → (x : Result) → x ≡ called_in b (asked_by p READY m) → x ≡ heard_as b p m
      ready_taken e x q = q ∙ sym (heard_is READY (kind_ready (get_or m 3 0) (sym ek ∙ e)))

      -- 6
      pub another_heard : Has b j c → p < n_of b → ok_by (sheet_of b) v ≡ true → (sender : ℕ) → sender ≡ j → kind ≡ 1 → (p ≡ sender → ⊥)
          → result_of (handed 6 none none) b ≡ heard_as b p m
      another_heard has hp ok sender es e f =
          another_refused b j c p v has hp ok (λ x. f (x ∙ sym es)) (handed 6 none none) refl
          ∙ sym (heard_is SEND (kind_send (get_or m 3 0) (sym ek ∙ e)))

    -- ---- before it

    known : (k : Kind) × (kind_of (get_or m 3 0) ≡ some k) × (kind_number k ≡ get_or m 3 0)
    known = kind_known (get_or m 3 0) (known_kind m C.formed)

    -- 4
    pub stranger_heard : n_of b ≤ p → result_of (handed 4 none none) b ≡ heard_as b p m
    stranger_heard l =
        missing_refused b j c p known.0 v (inr (inr l)) (handed 4 none none) refl
        ∙ sym (heard_is known.0 known.1)

    -- 5
    pub implausible_heard : Has b j c → p < n_of b → ok_by (sheet_of b) v ≡ false → result_of (handed 5 none none) b ≡ heard_as b p m
    implausible_heard has hp f =
        implausible_refused b j c p known.0 v has hp f (handed 5 none none) refl
        ∙ sym (heard_is known.0 known.1)

    -- 1
    module _ (t : Bool) (e : t ≡ entry_legal b j c) where
      pub entry_refused : t ≡ false → result_of (handed 1 none none) b ≡ heard_at b p m
      unfolding heard_at
      entry_refused f = rw (sym e ∙ f)

      pub entry_heard : t ≡ true → (x : Result) → x ≡ heard_as b p m → x ≡ heard_at b p m
      unfolding heard_at
      entry_heard f x q = rw (sym e ∙ f) q

    -- 4
    pub sender_missing : n_of b ≤ j → result_of (handed 4 none none) b ≡ heard_on b p (five_at m)
    unfolding heard_on five_at
    sender_missing l = rw (le-ltb j (n_of b) l)

    module _ (hj : j < n_of b) where
      pub number_missing : numbers_of b ≤ c → result_of (handed 4 none none) b ≡ heard_on b p (five_at m)
      unfolding heard_on five_at
      number_missing l = rw (lt-ltb j (n_of b) hj, le-ltb c (numbers_of b) l)

      pub entry_found : c < numbers_of b → (x : Result) → x ≡ heard_at b p m → x ≡ heard_on b p (five_at m)
      unfolding heard_on heard_at heard_as five_at
      entry_found hc x q =
          rw (lt-ltb j (n_of b) hj, lt-ltb c (numbers_of b) hc)
          (q
          ∙ ap (λ (d : Decl). cond (entry_legal b j c) (answering_in b (asked_as p j c d (kind_of (get_or m 3 0)))) (refusal 1 b))
          (lot_bytes m C.bytes C.formed))

-- the entry that the letter's numbers name is the one that its bytes name
pub opens_along : (b : List ℕ) (j j' c c' : ℕ) (e : EntryAt) → j ≡ j' → c ≡ c' → Opens b j c e → Opens b j' c' e
opens_along b j j' c c' e ej ec o = subst (λ (x : ℕ). Opens b x c' e) ej (subst (λ (x : ℕ). Opens b j x e) ec o)

-- whatever of the book was found legal, its head is
pub shown_head : (t : Tested) (b : List ℕ) → Shows t b → head_legal b ≡ true
shown_head Whole b h = legal_head b h
shown_head Head b h = h
