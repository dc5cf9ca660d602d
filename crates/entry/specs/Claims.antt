-- What this crate promises: when two declarations are the same, what a voucher counts for, what recording and marking leave, and what a
-- book with another entry has.
use Rattle.std.specs.Prelude.{ℕ, suc, ◌<◌, ◌≡◌, Bool, true, false, ◌↔◌}
use Rattle.std.proofs.Math.Option.{Option, none, some}
use Rattle.entry.specs.Entry.{Decl, Kind, Entry, same, holds, heard, votes, recorded, marked, announced, PerEntry, put_at, Filled}
use Rattle.entry.specs.Lists.{upd}

pub record Claims : Type 0 where
  -- Two declarations are the same exactly when all bytes are.
  pub same_exactly : (v w : Decl) → (same v w ≡ true) ↔ (v ≡ w)
  pub holds_exactly : (o : Option Decl) (v : Decl) → (holds o v ≡ true) ↔ (o ≡ some v)
  -- A voucher counts for its declaration, and not for the entry: it is one more for v,
  pub one_more : (f : ℕ → Option Decl) (p : ℕ) (v : Decl) (n : ℕ) → p < n → f p ≡ none → votes (upd f p (some v)) v n ≡ suc (votes f v n)
  -- and none for another.
  pub none_for_another : (f : ℕ → Option Decl) (p : ℕ) (v w : Decl) (n : ℕ) → f p ≡ none → (v ≡ w → ⊥)
      → votes (upd f p (some v)) w n ≡ votes f w n
  -- A message is heard where it was recorded, and in an empty slot it displaces nothing.
  pub recorded_heard : (k : Kind) (p : ℕ) (v : Decl) (e : Entry) → heard k p (recorded k p v e) ≡ some v
  pub recorded_filled : (k : Kind) (p : ℕ) (v : Decl) (e : Entry) → heard k p e ≡ none → Filled e (recorded k p v e)
  -- What is marked stands marked: what was published, a READY sent, a delivery.
  pub announced_is : (v : Decl) (e : Entry) → (announced v e).published ≡ some v
  pub marked_sent : (d : Bool) (v : Decl) (e : Entry) → (marked true d v e).ready_sent ≡ some v
  pub marked_delivered : (b : Bool) (v : Decl) (e : Entry) → (marked b true v e).delivered ≡ some v
  -- and nothing else is.
  pub not_marked : (v : Decl) (e : Entry) → marked false false v e ≡ e
  -- A book with another entry at j and c has that entry there, and elsewhere what it had.
  pub put_there : (b : PerEntry Entry) (j c : ℕ) (e : Entry) → put_at b j c e j c ≡ e
  pub put_elsewhere : (b : PerEntry Entry) (j c : ℕ) (e : Entry) (j₂ c₂ : ℕ) → ((j₂ ≡ j) × (c₂ ≡ c) → ⊥) → put_at b j c e j₂ c₂ ≡ b j₂ c₂
