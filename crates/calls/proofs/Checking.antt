-- A message on its entry, test by test as the code makes them: each refusal, and at the end the step.
use Prim.Native.Nat.{ℕ, ◌<◌, ◌≤◌}
use mathlib.Core.Path.{◌≡◌, sym, ap, ◌∙◌}
use mathlib.Core.Bool.{true, false}
use mathlib.Core.List.{List}
use mathlib.Core.Logic.{◌⊎◌}
use mathlib.Core.Option.{none}
use native.Mathlib.Omega.{arith}
use borrow.Author.Tests.{eq-eqb, ne_eqb, lt-ltb}
use Rattle.sheet.specs.declared.Sheet.{Sheet}
use Rattle.sheet.specs.Sheet.{sheet_legal}
use Rattle.sheet.proofs.Gates.{legal_sheet}
use Rattle.entry.specs.Entry.{Decl, Kind, SEND, heard}
use Rattle.protocol.specs.Steps.{takes, may, recording, receive_answer}
use Rattle.protocol.specs.Book.{Call, receiving, sender_of, number_of}
use Rattle.protocol.specs.Order.{ReceivingOrder}
use Rattle.protocol.specs.Thresholds.{rules_of}
use Rattle.protocol.proofs.Order.{receiving_ordered, answer_is, accepted_is}
use Rattle.meaning.specs.Book.{n_of, numbers_of, own_of, look, meant, header_of, sheet_of}
use Rattle.meaning.specs.Legal.{head_legal, Has}
use Rattle.meaning.proofs.Legality.{head_facts}
use Rattle.calls.specs.declared.Outcome.{Outcome}
use Rattle.calls.specs.Entered.{result_of, handed, ok_by, rules_by, entered}
use Rattle.calls.specs.Call.{step_of, called}
use Rattle.calls.specs.ByEntry.{entered_in, called_in}
use Rattle.meaning.specs.Layout.{sheet_place}

-- the sheet of a legal head is legal
pub head_sheet : (b : List ℕ) (s : Sheet) → head_legal b ≡ true → s ≡ sheet_of b → sheet_legal s ≡ true
head_sheet b s h e = ap sheet_legal e ∙ legal_sheet b sheet_place (head_facts b h).sheet

module _ (b : List ℕ) (a : Call) where
  pub called_accepted : (step_of b a).answer ≡ 0 → called b a ≡ entered b (sender_of (own_of b) a) (number_of a) (step_of b a)
  unfolding called
  called_accepted z = rw (eq-eqb _ _ z)

  -- the number that the code found, refused
  pub called_refused : (n : ℕ) (r : Outcome) → n ≡ (step_of b a).answer → (n ≡ 0 → ⊥) → r ≡ handed n none none → result_of r b ≡ called b a
  unfolding called
  called_refused n r e f q =
      rw (ne_eqb (step_of b a).answer 0 (λ z. f (e ∙ z))) (ap (λ (x : Outcome). result_of x b) (q ∙ ap (λ (x : ℕ). handed x none none) e))

  -- the same by entry
  accepted_in : (step_of b a).answer ≡ 0 → called_in b a ≡ entered_in b (sender_of (own_of b) a) (number_of a) (step_of b a)
  unfolding called_in
  accepted_in z = rw (eq-eqb _ _ z)

  refused_in : (n : ℕ) (r : Outcome) → n ≡ (step_of b a).answer → (n ≡ 0 → ⊥) → r ≡ handed n none none → result_of r b ≡ called_in b a
  unfolding called_in
  refused_in n r e f q =
      rw (ne_eqb (step_of b a).answer 0 (λ z. f (e ∙ z))) (ap (λ (x : Outcome). result_of x b) (q ∙ ap (λ (x : ℕ). handed x none none) e))

module _ (b : List ℕ) (j c p : ℕ) (k : Kind) (v : Decl) where
  abbrev a : Call
  a = receiving p k j c v

  pub ordered : ReceivingOrder (rules_by (header_of b)) (numbers_of b) (own_of b) p k j c v (look b)
  ordered = receiving_ordered (rules_by (header_of b)) (numbers_of b) (own_of b) p k j c v (look b)

  pub missing : (n_of b ≤ j) ⊎ ((numbers_of b ≤ c) ⊎ (n_of b ≤ p)) → 4 ≡ (step_of b a).answer
  unfolding step_of rules_by rules_of meant
  missing x = sym (ordered.missing x)

  -- 4
  pub missing_refused : (n_of b ≤ j) ⊎ ((numbers_of b ≤ c) ⊎ (n_of b ≤ p)) → (r : Outcome) → r ≡ handed 4 none none
      → result_of r b ≡ called_in b a
  missing_refused x r q = refused_in b a 4 r (missing x) (λ z. omega arith) q

  module _ (has : Has b j c) (hp : p < n_of b) where
    pub not_plausible : ok_by (sheet_of b) v ≡ false → 5 ≡ (step_of b a).answer
    unfolding step_of rules_by rules_of meant
    not_plausible f = sym (ordered.not_plausible has.sender has.number hp f)

    -- 5
    pub implausible_refused : ok_by (sheet_of b) v ≡ false → (r : Outcome) → r ≡ handed 5 none none → result_of r b ≡ called_in b a
    implausible_refused f r q = refused_in b a 5 r (not_plausible f) (λ z. omega arith) q

    module _ (ok : ok_by (sheet_of b) v ≡ true) where
      pub not_sender : may j k p ≡ false → 6 ≡ (step_of b a).answer
      unfolding step_of rules_by rules_of meant
      not_sender f = sym (ordered.not_sender has.sender has.number hp ok f)

      module _ (from : may j k p ≡ true) where
        -- past these, what recording answers
        pub answer_past : (step_of b a).answer ≡ recording (heard k p (look b j c)) v
        unfolding step_of rules_by rules_of meant receive_answer
        answer_past =
            answer_is (rules_by (header_of b)) (numbers_of b) (own_of b) p k j c v (look b) has.sender has.number
            ∙ rw (lt-ltb _ _ hp, ok, from)

        pub recorded_refused : (n : ℕ) → n ≡ recording (heard k p (look b j c)) v → (n ≡ 0 → ⊥) → (r : Outcome) → r ≡ handed n none none
            → result_of r b ≡ called_in b a
        recorded_refused n e f r q = refused_in b a n r (e ∙ sym answer_past) f q

        pub step_takes : recording (heard k p (look b j c)) v ≡ 0 → step_of b a ≡ takes (rules_by (header_of b)) k p v (look b j c)
        unfolding step_of rules_by rules_of meant
        step_takes z =
            accepted_is (rules_by (header_of b)) (numbers_of b) (own_of b) p k j c v (look b) has.sender has.number
            (sym (answer_is (rules_by (header_of b)) (numbers_of b) (own_of b) p k j c v (look b) has.sender has.number) ∙ answer_past ∙
            z)

        pub message_taken : recording (heard k p (look b j c)) v ≡ 0
            → entered_in b j c (takes (rules_by (header_of b)) k p v (look b j c)) ≡ called_in b a
        message_taken z = sym (accepted_in b a (answer_past ∙ z) ∙ ap (entered_in b j c) (step_takes z))

-- 6
module _ (b : List ℕ) (j c p : ℕ) (v : Decl) (has : Has b j c) (hp : p < n_of b) (ok : ok_by (sheet_of b) v ≡ true) where
  pub another_refused : (p ≡ j → ⊥) → (r : Outcome) → r ≡ handed 6 none none → result_of r b ≡ called_in b (receiving p SEND j c v)
  another_refused f r q =
      refused_in b (receiving p SEND j c v) 6 r (not_sender b j c p SEND v has hp ok (ne_eqb p j f)) (λ z. omega arith) q
