-- What the code finds on its way: whether the vouchers for a declaration now make a READY, and deliver.
use Rattle.std.specs.Prelude.{ℕ, ◌+◌, ◌*◌, Bool, ◌&&◌, List, leb}
use Rattle.card.specs.Card.{counts_of}
use Rattle.card.specs.Count.{count}
use Rattle.entry.specs.Entry.{Decl, is_none, holds}
use Rattle.meaning.specs.Slot.{slot_at}
use Rattle.meaning.specs.Layout.{slot_length, echo_slot, ready_slot, ready_sent_slot, delivered_slot, place_from}
use Rattle.meaning.specs.Book.{n_of, down_of}
use Rattle.layout.specs.Places.{slot_from}
use Rattle.marks.specs.declared.Marks.{Marks}

-- how many houses vouch for v in the row that begins with slot i
abbrev pub votes_from : List ℕ → (base i : ℕ) → Decl → ℕ
votes_from b base i v = count (λ p. holds (slot_at b (place_from base i + slot_length * p)) v) (n_of b)

-- ECHOes of v now make a READY: by the quorum
unfoldable pub echo_mark : List ℕ → (base : ℕ) → Decl → Bool
echo_mark b base v =
    is_none (slot_from b base (ready_sent_slot (n_of b)))
    && leb (counts_of (n_of b) (down_of b)).quorum (votes_from b base (echo_slot 0) v)

-- READYs of v now make a READY, and deliver: by amplify and by deliver
unfoldable pub ready_marks : List ℕ → (base : ℕ) → Decl → Marks
ready_marks b base v =
    let votes : ℕ = votes_from b base (ready_slot (n_of b) 0) v in
    record {
      gives = is_none (slot_from b base (ready_sent_slot (n_of b))) && leb (counts_of (n_of b) (down_of b)).amplify votes;
      delivers = is_none (slot_from b base (delivered_slot (n_of b))) && leb (counts_of (n_of b) (down_of b)).deliver votes;
    }
