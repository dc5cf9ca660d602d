-- A request has one written form, 11 bytes, and is no other message.
use Prim.Native.Nat.{ℕ}
use mathlib.Core.Path.{◌≡◌, refl, sym, ap, ◌∙◌}
use mathlib.Core.Bool.{Bool, true, false, cond, ◌&&◌, and-eq-true_iff}
use mathlib.Core.List.{List, [], ◌∷◌, ◌++◌}
use mathlib.Core.Option.{Option, none, some}
use native.Mathlib.Omega.{arith}
use lib.Dec.{eqb}
use lib.ListN.{length, get_or}
use borrow.Author.Tests.{eqb-true, ne_eqb}
use Rattle.words.specs.Words.{Bytes, word_at}
use Rattle.words.proofs.Laws.{word_be, be_word_at}
use Rattle.words.proofs.Listed.{listed_is}
use Rattle.message.specs.Message.{Five, Told, field_at, well_formed, malformed, read_of, request_wire, is_request, request_of}
use Rattle.message.proofs.RoundTrip.{field_is}

-- season 2026
pub request_here : request_wire 2026 ≡ 0x01 ∷ 0x00 ∷ 0x01 ∷ 0x09 ∷ 0x02 ∷ 0x00 ∷ 0x04 ∷ 0x00 ∷ 0x00 ∷ 0x07 ∷ 0xEA ∷ []
unfolding request_wire
request_here = refl

pub request_of_wire : (season : ℕ) → request_of (request_wire season) ≡ some season
unfolding request_of is_request request_wire
request_of_wire season = ap some (word_be season)

module _ (s : List ℕ) (h : is_request s ≡ true) where
  parts : (length s ≡ 11) × (field_at s 0 1 1 ≡ true) × (field_at s 4 2 4 ≡ true) × (get_or s 3 0 ≡ 9)
  unfolding is_request
  parts =
      let a = (and-eq-true_iff (eqb (length s) 11) (field_at s 0 1 1 && (field_at s 4 2 4 && eqb (get_or s 3 0) 9))).0 h in
      let b = (and-eq-true_iff (field_at s 0 1 1) (field_at s 4 2 4 && eqb (get_or s 3 0) 9)).0 a.1 in
      let c = (and-eq-true_iff (field_at s 4 2 4) (eqb (get_or s 3 0) 9)).0 b.1 in
      (eqb-true (length s) 11 a.0, b.0, c.0, eqb-true (get_or s 3 0) 9 c.1)

  pub request_long : length s ≡ 11
  request_long = parts.0

  -- it is no message of another kind
  pub request_alone : read_of s ≡ malformed
  unfolding read_of well_formed
  request_alone = rw (ne_eqb (length s) 36 (λ e. omega (arith, parts.0)))

  -- it names a season
  pub request_names : request_of s ≡ some (word_at s 7)
  unfolding request_of
  request_names = rw h

  -- it is written so
  pub wire_of_request : Bytes s → s ≡ request_wire (word_at s 7)
  unfolding request_wire
  wire_of_request bytes =
      let x = field_is s bytes 0 1 1 (omega arith) parts.1 in
      let y = field_is s bytes 4 2 4 (omega arith) parts.2 in
      let k = parts.3 in
      listed_is s 11 parts.0 ∙ (λ i. x i ++ (k i ∷ y i ++ be_word_at s bytes 7 i))

pub no_request : (s : List ℕ) → is_request s ≡ false → request_of s ≡ none
unfolding request_of
no_request s h = rw h

none_some : {A : Type 0} {x : A} → none ≡ some x → ⊥
none_some {A} {x} e = let z : ◌≡◌ {A = ℕ} 0 1 = ap (λ (o : Option A). size o) e in omega arith
  where
    size : Option A → ℕ
    size none = 0
    size (some y) = 1

-- no bytes are both
module _ (s : List ℕ) where
  pub request_unread : (season : ℕ) → request_of s ≡ some season → (read_of s).five ≡ none
  unfolding request_of
  request_unread season e = go (is_request s) refl e
    where
      go : (t : Bool) → is_request s ≡ t → cond t (some (word_at s 7)) none ≡ some season → (read_of s).five ≡ none
      go true h e = ap (λ (x : Told). x.five) (request_alone s h)
      go false h e = absurd (none_some e)

  pub message_unasked : (m : Five) → (read_of s).five ≡ some m → request_of s ≡ none
  message_unasked m e = go (is_request s) refl
    where
      go : (t : Bool) → is_request s ≡ t → request_of s ≡ none
      go true h = absurd (none_some (sym (ap (λ (x : Told). x.five) (request_alone s h)) ∙ e))
      go false h = no_request s h
