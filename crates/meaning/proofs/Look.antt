-- What a book's entries hold, slot by slot where the bytes stand, and how many vouch for a declaration.
use Prim.Native.Nat.{ℕ, ◌≤◌, ◌<◌}
use mathlib.Core.Path.{◌≡◌, ap, ◌∙◌, subst₂}
use mathlib.Core.Bool.{cond}
use mathlib.Core.List.{List}
use mathlib.Core.Option.{Option, none}
use native.Mathlib.Omega.{arith}
use lib.Dec.{eqb}
use borrow.Author.Tests.{eq-eqb, lt-ltb}
use Rattle.card.specs.Count.{count}
use Rattle.card.proofs.Counting.{count_same}
use Rattle.entry.specs.Entry.{Decl, Kind, SEND, ECHO, READY, Entry, heard, holds, votes}
use Rattle.meaning.specs.Slot.{slot_at}
use Rattle.meaning.specs.Layout.{slot_place, entry_slot, ready_sent_slot, delivered_slot, heard_slot}
use Rattle.meaning.specs.Book.{n_of, numbers_of, own_of, slot_of, look}
use Rattle.meaning.proofs.Entries.{entry_from, entries_in_lem}

-- slot k of the book, with n houses
abbrev slot_no : List ℕ → ℕ → ℕ → Option Decl
slot_no b n k = slot_at b (slot_place n k)

-- n and S as the caller has them
abbrev LooksAt : List ℕ → (n s : ℕ) → Type 0
LooksAt b n s =
    (j c : ℕ) → j < n → c < s
    → look b j c ≡ entry_from n (λ i. slot_no b n (entry_slot n s c j i)) (cond (eqb j (own_of b)) (slot_no b n c) none)

looks_at : (b : List ℕ) → LooksAt b (n_of b) (numbers_of b)
unfolding look
looks_at b j c hj hc = entries_in_lem (n_of b) (numbers_of b) (own_of b) (slot_of b) j c hj hc

module _ (b : List ℕ) (n s : ℕ) (en : n_of b ≡ n) (es : numbers_of b ≡ s) (j c : ℕ) (hj : j < n) (hc : c < s) where
  abbrev slot : ℕ → Option Decl
  slot i = slot_at b (slot_place n (entry_slot n s c j i))

  pub look_at : look b j c ≡ entry_from n slot (cond (eqb j (own_of b)) (slot_no b n c) none)
  look_at = subst₂ (LooksAt b) en es (looks_at b) j c hj hc

  pub look_heard : (k : Kind) (p : ℕ) → p < n → heard k p (look b j c) ≡ slot (heard_slot n k p)
  look_heard SEND p l = ap (heard SEND p) look_at
  look_heard ECHO p l = ap (heard ECHO p) look_at ∙ rw (lt-ltb p n l)
  look_heard READY p l = ap (heard READY p) look_at ∙ rw (lt-ltb p n l)

  pub look_ready_sent : (look b j c).ready_sent ≡ slot (ready_sent_slot n)
  look_ready_sent = ap (λ (e : Entry). e.ready_sent) look_at

  pub look_delivered : (look b j c).delivered ≡ slot (delivered_slot n)
  look_delivered = ap (λ (e : Entry). e.delivered) look_at

  pub look_published : j ≡ own_of b → (look b j c).published ≡ slot_at b (slot_place n c)
  look_published e = ap (λ (e : Entry). e.published) look_at ∙ rw (eq-eqb j (own_of b) e)

  -- the vouchers among the first m houses
  pub look_votes : (k : Kind) (v : Decl) (m : ℕ) → m ≤ n
      → votes (λ p. heard k p (look b j c)) v m ≡ count (λ p. holds (slot (heard_slot n k p)) v) m
  look_votes k v m h =
      count_same (λ p. holds (heard k p (look b j c)) v) (λ p. holds (slot (heard_slot n k p)) v) m
      (λ p l. ap (λ (o : Option Decl). holds o v) (look_heard k p (omega arith)))
