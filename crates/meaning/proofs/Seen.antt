-- What stands in the slots of an entry, counted from where it begins, is what the entry means; and so are its vouchers.
use Prim.Native.Nat.{ℕ, ◌+◌, ◌<◌}
use mathlib.Core.Path.{◌≡◌, refl, sym, ap, ◌∙◌}
use mathlib.Core.List.{List}
use native.Mathlib.Nat.{le_refl}
use native.Mathlib.Omega.{arith}
use Rattle.card.specs.Count.{count}
use Rattle.card.proofs.Counting.{count_same}
use Rattle.entry.specs.Entry.{Decl, Kind, ECHO, READY, heard, holds, votes}
use Rattle.meaning.specs.Slot.{slot_at}
use Rattle.meaning.specs.Layout.{slot_place, entry_slot, heard_slot, echo_slot, ready_slot, ready_sent_slot, delivered_slot, place_from}
use Rattle.meaning.specs.Book.{n_of, numbers_of, own_of, look, place_in}
use Rattle.meaning.proofs.Look.{look_heard, look_ready_sent, look_delivered, look_published, look_votes}
use Rattle.meaning.specs.Legal.{Has}

module _ (b : List ℕ) (j c : ℕ) (has : Has b j c) where
  pub heard_seen : (k : Kind) (p : ℕ) → p < n_of b → heard k p (look b j c) ≡ slot_at b (place_in b j c (heard_slot (n_of b) k p))
  heard_seen = look_heard b (n_of b) (numbers_of b) refl refl j c has.sender has.number

  pub sent_seen : (look b j c).ready_sent ≡ slot_at b (place_in b j c (ready_sent_slot (n_of b)))
  sent_seen = look_ready_sent b (n_of b) (numbers_of b) refl refl j c has.sender has.number

  pub delivered_seen : (look b j c).delivered ≡ slot_at b (place_in b j c (delivered_slot (n_of b)))
  delivered_seen = look_delivered b (n_of b) (numbers_of b) refl refl j c has.sender has.number

  pub published_seen : j ≡ own_of b → (look b j c).published ≡ slot_at b (slot_place (n_of b) c)
  published_seen = look_published b (n_of b) (numbers_of b) refl refl j c has.sender has.number

  -- the slots of an entry follow one another
  along : (i p : ℕ) → place_from (place_in b j c i) p ≡ place_in b j c (i + p)
  unfolding slot_place entry_slot
  along i p = omega arith

  pub from_base : (base : ℕ) → base ≡ place_in b j c 0 → (i : ℕ) → place_from base i ≡ place_in b j c i
  from_base base at i =
      let z : 0 + i ≡ i = omega arith in
      ap (λ (x : ℕ). place_from x i) at ∙ along 0 i ∙ ap (place_in b j c) z

  -- the vouchers of a kind for v, counted over its row
  votes_in : (k : Kind) → ((p : ℕ) → heard_slot (n_of b) k 0 + p ≡ heard_slot (n_of b) k p) → (v : Decl)
      → count (λ p. holds (slot_at b (place_from (place_in b j c (heard_slot (n_of b) k 0)) p)) v) (n_of b)
      ≡ votes (λ p. heard k p (look b j c)) v (n_of b)
  votes_in k follows v =
      count_same _ _ (n_of b)
      (λ p l. ap (λ (x : ℕ). holds (slot_at b x) v) (along (heard_slot (n_of b) k 0) p ∙ ap (place_in b j c) (follows p)))
      ∙ sym (look_votes b (n_of b) (numbers_of b) refl refl j c has.sender has.number k v (n_of b) (le_refl (n_of b)))

  pub echoes_seen : (v : Decl)
      → count (λ p. holds (slot_at b (place_from (place_in b j c (echo_slot 0)) p)) v) (n_of b) ≡ votes (look b j c).echo v (n_of b)
  echoes_seen = votes_in ECHO (λ p. omega arith)

  pub readies_seen : (v : Decl)
      → count (λ p. holds (slot_at b (place_from (place_in b j c (ready_slot (n_of b) 0)) p)) v) (n_of b)
      ≡ votes (look b j c).ready v (n_of b)
  readies_seen = votes_in READY (λ p. omega arith)
