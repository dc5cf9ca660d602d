-- The marks that the code finds are those that the vouchers now make.
use Prim.Native.Nat.{ℕ, ◌+◌, ◌*◌}
use mathlib.Core.Path.{◌≡◌, ap, ◌∙◌}
use mathlib.Core.Bool.{Bool, ◌&&◌}
use mathlib.Core.List.{List}
use lib.Dec.{leb}
use Rattle.card.specs.declared.Counts.{Counts}
use Rattle.card.specs.Card.{counts_of}
use Rattle.card.specs.Count.{count}
use Rattle.entry.specs.Entry.{Decl, is_none, holds}
use Rattle.meaning.specs.Slot.{slot_at}
use Rattle.meaning.specs.Layout.{slot_length, echo_slot, ready_slot, ready_sent_slot, delivered_slot, place_from}
use Rattle.meaning.specs.Book.{n_of, down_of}
use Rattle.marks.specs.Marks.{echo_mark, ready_marks}

-- what the code has found: n, f, the counts, where the row begins, and how many slots of it hold v
module _ (b : List ℕ) (base : ℕ) (v : Decl) (n f : ℕ) (counts : Counts) (en : n ≡ n_of b) (ef : f ≡ down_of b) (ec : counts ≡ counts_of n f)
  where
    counts_are : counts ≡ counts_of (n_of b) (down_of b)
    counts_are = ec ∙ (λ i. counts_of (en i) (ef i))

    pub echo_found : (row : ℕ) → row ≡ place_from base (echo_slot 0) → (votes : ℕ)
        → votes ≡ count (λ p. holds (slot_at b (row + slot_length * p)) v) n → (sent : ℕ) → sent ≡ place_from base (ready_sent_slot n)
        → (r : Bool) → r ≡ is_none (slot_at b sent) && leb counts.quorum votes → r ≡ echo_mark b base v
    unfolding echo_mark
    echo_found row er votes ev sent es r e =
        let at = es ∙ ap (λ (x : ℕ). place_from base (ready_sent_slot x)) en in
        let w = ev ∙ (λ i. count (λ p. holds (slot_at b (er i + slot_length * p)) v) (en i)) in
        e ∙ (λ i. is_none (slot_at b (at i)) && leb (counts_are i).quorum (w i))

    pub ready_found : (row : ℕ) → row ≡ place_from base (ready_slot n 0) → (votes : ℕ)
        → votes ≡ count (λ p. holds (slot_at b (row + slot_length * p)) v) n → (sent : ℕ) → sent ≡ place_from base (ready_sent_slot n)
        → (done : ℕ) → done ≡ place_from base (delivered_slot n)
        → (r : Bool) → r ≡ is_none (slot_at b sent) && leb counts.amplify votes
        → (t : Bool) → t ≡ is_none (slot_at b done) && leb counts.deliver votes → record { gives = r; delivers = t } ≡ ready_marks b base v
    unfolding ready_marks
    ready_found row er votes ev sent es done ed r e t u =
        let at = es ∙ ap (λ (x : ℕ). place_from base (ready_sent_slot x)) en in
        let end = ed ∙ ap (λ (x : ℕ). place_from base (delivered_slot x)) en in
        let first = er ∙ ap (λ (x : ℕ). place_from base (ready_slot x 0)) en in
        let w = ev ∙ (λ i. count (λ p. holds (slot_at b (first i + slot_length * p)) v) (en i)) in
        let q = e ∙ (λ i. is_none (slot_at b (at i)) && leb (counts_are i).amplify (w i)) in
        let z = u ∙ (λ i. is_none (slot_at b (end i)) && leb (counts_are i).deliver (w i)) in
        λ i. record { gives = q i; delivers = z i }
