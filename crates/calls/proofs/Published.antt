-- Publishing, answer by answer, from what the code found.
use Prim.Native.Nat.{ℕ, ◌<◌, ◌≤◌}
use mathlib.Core.Path.{◌≡◌, refl, sym, ap, ◌∙◌, subst}
use mathlib.Core.Bool.{Bool, true, false}
use mathlib.Core.List.{List}
use mathlib.Core.Option.{none, some}
use native.Mathlib.Omega.{arith}
use Rattle.entry.specs.Entry.{Decl, is_some}
use Rattle.protocol.specs.Steps.{Out, publishes}
use Rattle.protocol.specs.Book.{Call, publishing}
use Rattle.protocol.specs.Thresholds.{rules_of}
use Rattle.meaning.specs.Slot.{slot_at}
use Rattle.meaning.specs.Layout.{slot_place}
use Rattle.meaning.specs.Book.{n_of, numbers_of, own_of, look, meant, header_of, sheet_of}
use Rattle.meaning.proofs.Legality.{legal_head}
use Rattle.meaning.specs.Legal.{legal, IsDecl}
use Rattle.calls.specs.declared.Outcome.{Outcome}
use Rattle.calls.specs.Entered.{Result, result_of, handed, ok_by, rules_by, entered, published_at}
use Rattle.calls.specs.Call.{step_of, called, published}
use Rattle.protocol.specs.Order.{PublishingOrder}
use Rattle.protocol.proofs.Order.{publishing_ordered}
use Rattle.calls.proofs.Checking.{called_accepted, called_refused}
use Rattle.entry.proofs.Fullness.{full_holds, empty_holds}
use Rattle.meaning.proofs.Room.{own_below}
use Rattle.meaning.proofs.Seen.{published_seen}
use lib.ListN.{length}
use Rattle.words.specs.Words.{Bytes}
use Rattle.lot.specs.Declaration.{declaration_at, bytes_of}
use Rattle.lot.proofs.Declared.{bytes_of_numbers}

module _ (b : List ℕ) (h : legal b ≡ true) (c : ℕ) (v : Decl) where
  abbrev a : Call
  a = publishing c v

  ordered : PublishingOrder (rules_by (header_of b)) (numbers_of b) (own_of b) c v (look b)
  unfolding rules_by rules_of meant
  ordered = publishing_ordered (rules_by (header_of b)) (numbers_of b) (own_of b) c v (look b) (own_below b h)

  pub number_missing : numbers_of b ≤ c → 4 ≡ (step_of b a).answer
  unfolding step_of meant
  number_missing l = sym (ordered.missing l)

  -- 4
  pub number_refused : numbers_of b ≤ c → (r : Outcome) → r ≡ handed 4 none none → result_of r b ≡ called b a
  number_refused l r q = called_refused b a 4 r (number_missing l) (λ z. omega arith) q

  module _ (l : c < numbers_of b) where
    pub lot_not_plausible : ok_by (sheet_of b) v ≡ false → 5 ≡ (step_of b a).answer
    unfolding step_of rules_by rules_of meant
    lot_not_plausible f = sym (ordered.not_plausible l f)

    -- 5
    pub lot_refused : ok_by (sheet_of b) v ≡ false → (r : Outcome) → r ≡ handed 5 none none → result_of r b ≡ called b a
    lot_refused f r q = called_refused b a 5 r (lot_not_plausible f) (λ z. omega arith) q

    module _ (ok : ok_by (sheet_of b) v ≡ true) where
      pub already_there : (w : Decl) → (look b (own_of b) c).published ≡ some w → 8 ≡ (step_of b a).answer
      unfolding step_of rules_by rules_of meant
      already_there w e = sym (ordered.already l ok w e)

      pub step_publishes : (look b (own_of b) c).published ≡ none → step_of b a ≡ publishes v (look b (own_of b) c)
      unfolding step_of rules_by rules_of meant
      step_publishes e = ordered.accepted l ok e

      seen : (look b (own_of b) c).published ≡ slot_at b (slot_place (n_of b) c)
      seen = published_seen b (own_of b) c (record { head = legal_head b h; sender = own_below b h; number = l }) refl

      module _ (t : Bool) (et : t ≡ is_some (slot_at b (slot_place (n_of b) c))) where
        -- 8
        pub already_refused : t ≡ true → (r : Outcome) → r ≡ handed 8 none none → result_of r b ≡ called b a
        already_refused e r q =
            let w = full_holds (slot_at b (slot_place (n_of b) c)) (sym et ∙ e) in
            called_refused b a 8 r (already_there w.0 (seen ∙ w.1)) (λ z. omega arith) q

        pub publication_called : t ≡ false → published_at b c v ≡ called b a
        unfolding published_at publishes
        publication_called e =
            let s = step_publishes (seen ∙ empty_holds (slot_at b (slot_place (n_of b) c)) (sym et ∙ e)) in
            sym (called_accepted b a (ap (λ (o : Out). o.answer) s) ∙ ap (entered b (own_of b) c) s)

-- 1, or past it
module _ (b : List ℕ) (c : ℕ) (v : List ℕ) where
  pub published_no_book : legal b ≡ false → (r : Outcome) → r ≡ handed 1 none none → result_of r b ≡ published b c v
  unfolding published
  published_no_book h r q = rw h (ap (λ (x : Outcome). result_of x b) q)

  published_legal : legal b ≡ true → (x : Result) → x ≡ called b (publishing c v) → x ≡ published b c v
  unfolding published
  published_legal h x q = rw h q

  -- 20 bytes by their numbers are these bytes
  module _ (d : List ℕ) (l : length v ≡ 20) (bytes : Bytes v) (e : d ≡ bytes_of (declaration_at v 0)) where
    same_decl : d ≡ v
    same_decl = e ∙ bytes_of_numbers v l bytes

    pub decl_bytes : IsDecl d
    decl_bytes = subst IsDecl (sym same_decl) (record { long = l; bytes = bytes })

    pub published_bytes : legal b ≡ true → (x : Result) → x ≡ called b (publishing c d) → x ≡ published b c v
    published_bytes h x q = published_legal h x (q ∙ ap (λ (y : Decl). called b (publishing c y)) same_decl)
