-- An accepted message at the bytes: what the code stores, gives and delivers is the protocol's step on the entry.
use Prim.Native.Nat.{ℕ, ◌+◌, ◌*◌, ◌<◌}
use mathlib.Core.Path.{◌≡◌, sym, ap, ◌∙◌}
use mathlib.Core.Bool.{Bool, false, ◌&&◌}
use mathlib.Core.List.{List}
use lib.Dec.{leb}
use Rattle.card.specs.Card.{counts_of}
use Rattle.card.specs.Count.{count}
use Rattle.words.specs.Words.{Bytes}
use Rattle.entry.specs.Entry.{Decl, Kind, ECHO, READY, is_none, holds, recorded, marked}
use Rattle.protocol.specs.Steps.{Rules, Out, say, only_if, reached, takes_echo, takes_ready, takes}
use Rattle.protocol.specs.Thresholds.{rules_of}
use Rattle.meaning.specs.Slot.{slot_at, put_slot}
use Rattle.meaning.specs.Layout.{slot_length, heard_slot, slot_place, entry_slot, echo_slot, ready_slot, ready_sent_slot, delivered_slot}
use Rattle.meaning.specs.Book.{header_of, down_of, n_of, numbers_of, look, place_in}
use Rattle.meaning.specs.Legal.{IsDecl, Has, Fits}
use Rattle.meaning.proofs.Row.{Rowed, rowed_has, rowed_look, rowed_taken}
use Rattle.marks.specs.declared.Marks.{Marks}
use Rattle.calls.specs.Entered.{rules_by}
use Rattle.layout.specs.Places.{slot_from}
use Rattle.marks.specs.Marks.{votes_from, echo_mark, ready_marks}
use Rattle.meaning.proofs.Seen.{from_base, sent_seen, delivered_seen, echoes_seen, readies_seen}
use Rattle.meaning.proofs.Agree.{agree_n, agree_numbers, agree_down}

-- ---- in a book that has the entry, slots from its first one on are the entry's

module _ (b : List ℕ) (j c : ℕ) (has : Has b j c) (base : ℕ) (at : base ≡ place_in b j c 0) where
  sent_from : slot_from b base (ready_sent_slot (n_of b)) ≡ (look b j c).ready_sent
  sent_from = ap (slot_at b) (from_base b j c has base at (ready_sent_slot (n_of b))) ∙ sym (sent_seen b j c has)

  delivered_from : slot_from b base (delivered_slot (n_of b)) ≡ (look b j c).delivered
  delivered_from = ap (slot_at b) (from_base b j c has base at (delivered_slot (n_of b))) ∙ sym (delivered_seen b j c has)

  row_from : (i : ℕ) (v : Decl) → votes_from b base i v ≡ count (λ p. holds (slot_at b (place_in b j c i + slot_length * p)) v) (n_of b)
  row_from i v = ap (λ (x : ℕ). count (λ p. holds (slot_at b (x + slot_length * p)) v) (n_of b)) (from_base b j c has base at i)

  mark_echo : (v : Decl) → echo_mark b base v
      ≡ reached (counts_of (n_of b) (down_of b)).quorum (look b j c).ready_sent (look b j c).echo v (n_of b)
  unfolding echo_mark
  mark_echo v = λ i.
      is_none (sent_from i) && leb (counts_of (n_of b) (down_of b)).quorum ((row_from (echo_slot 0) v ∙ echoes_seen b j c has v) i)

  marks_ready : (v : Decl) → ready_marks b base v
      ≡ record {
        gives = reached (counts_of (n_of b) (down_of b)).amplify (look b j c).ready_sent (look b j c).ready v (n_of b);
        delivers = reached (counts_of (n_of b) (down_of b)).deliver (look b j c).delivered (look b j c).ready v (n_of b);
      }
  unfolding ready_marks
  marks_ready v =
      let votes = row_from (ready_slot (n_of b) 0) v ∙ readies_seen b j c has v in
      λ i.
      record {
        gives = is_none (sent_from i) && leb (counts_of (n_of b) (down_of b)).amplify (votes i);
        delivers = is_none (delivered_from i) && leb (counts_of (n_of b) (down_of b)).deliver (votes i);
      }

-- ---- a voucher taken: recorded, and marked as the vouchers now say

module _ (b : List ℕ) (bytes : Bytes b) (j c p : ℕ) (fits : Fits b j c) (hp : p < n_of b) (v : Decl) (dv : IsDecl v) where
  abbrev R : Rules
  R = rules_by (header_of b)

  abbrev pub heard_in_lem : Kind → List ℕ
  heard_in_lem k = put_slot b (place_in b j c (heard_slot (n_of b) k p)) v

  one : (k : Kind) → Rowed b (heard_in_lem k) j c (recorded k p v (look b j c))
  one k = rowed_taken b j c fits bytes v dv k p hp false false

  pub n_one : (k : Kind) → n_of (heard_in_lem k) ≡ n_of b
  n_one k = agree_n (heard_in_lem k) b (one k).stored.header

  numbers_one : (k : Kind) → numbers_of (heard_in_lem k) ≡ numbers_of b
  numbers_one k = agree_numbers (heard_in_lem k) b (one k).stored.header

  down_one : (k : Kind) → down_of (heard_in_lem k) ≡ down_of b
  down_one k = agree_down (heard_in_lem k) b (one k).stored.header

  pub has_one : (k : Kind) → Has (heard_in_lem k) j c
  has_one k = rowed_has b j c fits (heard_in_lem k) (recorded k p v (look b j c)) (one k)

  pub base_one : (k : Kind) → place_in b j c 0 ≡ place_in (heard_in_lem k) j c 0
  base_one k = sym (λ i. slot_place (n_one k i) (entry_slot (n_one k i) (numbers_one k i) c j 0))

  -- the step of a voucher, by its marks
  abbrev pub taking : Kind → (gives delivers : Bool) → Out
  taking k g d =
      record {
        answer = 0;
        entry = marked g d v (recorded k p v (look b j c));
        message = only_if g (say READY v);
        delivery = only_if d v;
      }

  pub echo_taken : taking ECHO (echo_mark (heard_in_lem ECHO) (place_in b j c 0) v) false ≡ takes R ECHO p v (look b j c)
  unfolding takes_echo rules_by rules_of counts_of header_of
  echo_taken =
      let e = rowed_look b j c fits (heard_in_lem ECHO) (recorded ECHO p v (look b j c)) (one ECHO) in
      let n = n_one ECHO in
      let f = down_one ECHO in
      ap (λ (g : Bool). taking ECHO g false)
      (mark_echo (heard_in_lem ECHO) j c (has_one ECHO) (place_in b j c 0) (base_one ECHO) v
      ∙ (λ i. reached (counts_of (n i) (f i)).quorum (e i).ready_sent (e i).echo v (n i)))

  pub ready_taken : (m : Marks) → m ≡ ready_marks (heard_in_lem READY) (place_in b j c 0) v
      → taking READY m.gives m.delivers ≡ takes R READY p v (look b j c)
  unfolding takes_ready rules_by rules_of counts_of header_of
  ready_taken m em =
      let e = rowed_look b j c fits (heard_in_lem READY) (recorded READY p v (look b j c)) (one READY) in
      let n = n_one READY in
      let f = down_one READY in
      ap (λ (m : Marks). taking READY m.gives m.delivers)
      (em
      ∙ marks_ready (heard_in_lem READY) j c (has_one READY) (place_in b j c 0) (base_one READY) v
      ∙ (λ i.
      record {
        gives = reached (counts_of (n i) (f i)).amplify (e i).ready_sent (e i).ready v (n i);
        delivers = reached (counts_of (n i) (f i)).deliver (e i).delivered (e i).ready v (n i);
      }))
