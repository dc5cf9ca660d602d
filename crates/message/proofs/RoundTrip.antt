-- Reading undoes writing, and bytes that read are the bytes that writing gives: so a message has exactly one written form.
use Prim.Native.Nat.{ℕ, ◌+◌, ◌*◌, ◌<◌}
use mathlib.Core.Path.{◌≡◌, refl, sym, ap, ◌∙◌}
use mathlib.Core.Bool.{Bool, true, false, and-eq-true_iff}
use mathlib.Core.List.{List, [], ◌∷◌, ◌++◌}
use mathlib.Core.Logic.{◌↔◌}
use mathlib.Core.Option.{Option, none, some}
use native.Mathlib.Omega.{arith}
use lib.Dec.{eqb}
use lib.ListN.{get_or, set, take, drop}
use borrow.Author.Tests.{eqb-true}
use Rattle.words.specs.Words.{Bytes}
use Rattle.words.proofs.Laws.{word_be, be_word_at}
use Rattle.words.proofs.Listed.{listed_is}
use Rattle.lot.specs.Declaration.{declaration_at, bytes_of}
use Rattle.lot.proofs.Declared.{numbers_of_bytes}
use Rattle.words.specs.Words.{word_at}
use Rattle.message.specs.Message.{Five, Told, is_kind, fields, wire, field_at, tagged, well_formed, five_at, read_as, malformed, read_of}
use Rattle.message.proofs.Form.{sized, known_kind, tags}

-- ---- reading undoes writing

five_of_wire : (m : Five) → five_at (wire m) ≡ m
unfolding five_at wire bytes_of declaration_at
five_of_wire m =
    λ i.
    record {
      kind = m.kind;
      season = word_be m.season i;
      sender = m.sender;
      number = m.number;
      declaration = numbers_of_bytes m.declaration i;
    }

pub read_of_wire : (m : Five) → is_kind m.kind ≡ true → read_of (wire m) ≡ read_as m
unfolding read_of well_formed tagged wire bytes_of
read_of_wire m h = rw h (ap read_as (five_of_wire m))

-- ---- bytes that read are the bytes that writing gives

abbrev pub five_or : Five → Option Five → Five
five_or z none = z
five_or z (some m) = m

module _ (s : List ℕ) (bytes : Bytes s) where
  pub field_is : (i tag len : ℕ) → len < 256 → field_at s i tag len ≡ true
      → get_or s i 0 ∷ get_or s (i + 1) 0 ∷ get_or s (i + 2) 0 ∷ [] ≡ tag ∷ 0 ∷ len ∷ []
  field_is i tag len small h =
      let both = (and-eq-true_iff (eqb (get_or s i 0) tag) (eqb (get_or s (i + 1) 0 * 256 + get_or s (i + 2) 0) len)).0 h in
      let x = eqb-true (get_or s i 0) tag both.0 in
      let l = eqb-true (get_or s (i + 1) 0 * 256 + get_or s (i + 2) 0) len both.1 in
      let y : get_or s (i + 1) 0 ≡ 0 = omega (arith, bytes (i + 2)) in
      let z : get_or s (i + 2) 0 ≡ len = omega (arith, bytes (i + 2)) in
      λ j. x j ∷ y j ∷ z j ∷ []

  module _ (h : well_formed s ≡ true) where
    wire_of_five : wire (five_at s) ≡ s
    unfolding wire five_at bytes_of declaration_at
    wire_of_five =
        let t = tags s h in
        let x = field_is 0 1 1 (omega arith) t.0 in
        let y = field_is 4 2 6 (omega arith) t.1 in
        let z = field_is 13 3 20 (omega arith) t.2 in
        let w = be_word_at s bytes in
        sym
        (listed_is s 36 (sized s h)
        ∙ (λ i.
        x i ++ (get_or s 3 0 ∷ y i ++ (w 7 i ++ (get_or s 11 0 ∷ get_or s 12 0 ∷ z i
        ++ (w 16 i ++ (w 20 i ++ (w 24 i ++ (w 28 i ++ w 32 i)))))))))

    -- its declaration's bytes, as they stand
    pub lot_bytes : take 20 (drop 16 s) ≡ bytes_of (declaration_at s 16)
    unfolding wire five_at bytes_of declaration_at
    lot_bytes = ap (λ (l : List ℕ). take 20 (drop 16 l)) (sym wire_of_five)

    -- the same message with another kind
    pub other_kind : (k : ℕ) → set s 3 k ≡ fields k (word_at s 7) (get_or s 11 0) (get_or s 12 0) (take 20 (drop 16 s))
    unfolding wire five_at bytes_of declaration_at
    other_kind k =
        ap (λ (l : List ℕ). set l 3 k) (sym wire_of_five)
        ∙ ap (fields k (word_at s 7) (get_or s 11 0) (get_or s 12 0)) (sym lot_bytes)

  pub wire_of_read : (m : Five) → read_of s ≡ read_as m → (s ≡ wire m) × (is_kind m.kind ≡ true)
  unfolding read_of
  wire_of_read m r = go (well_formed s) refl
    where
      go : (b : Bool) → well_formed s ≡ b → (s ≡ wire m) × (is_kind m.kind ≡ true)
      go true h =
          let q : read_as (five_at s) ≡ read_as m = rw h at r in
          let e : five_at s ≡ m = ap (λ (x : Told). five_or m x.five) q in
          (sym (wire_of_five h) ∙ ap wire e, sym (ap (λ (x : Five). is_kind x.kind) e) ∙ known_kind s h)
      go false h =
          let q : malformed ≡ read_as m = rw h at r in
          let z : ◌≡◌ {A = ℕ} 2 0 = ap (λ (x : Told). x.answer) q in
          absurd (omega arith)

-- two byte strings that read as the same message are equal
-- what reads is of a known kind
pub read_known : (s : List ℕ) (m : Five) → read_of s ≡ read_as m → is_kind m.kind ≡ true
unfolding read_of five_at
read_known s m r = go (well_formed s) refl
  where
    go : (t : Bool) → well_formed s ≡ t → is_kind m.kind ≡ true
    go true h =
        let q : read_as (five_at s) ≡ read_as m = rw h at r in
        let e = ap (λ (x : Told). five_or m x.five) q in
        sym (ap (λ (x : Five). is_kind x.kind) e) ∙ known_kind s h
    go false h =
        let q : malformed ≡ read_as m = rw h at r in
        let z : ◌≡◌ {A = ℕ} 2 0 = ap (λ (x : Told). x.answer) q in
        absurd (omega arith)

pub one_form : (s r : List ℕ) (m : Five) → Bytes s → Bytes r → read_of s ≡ read_as m → read_of r ≡ read_as m → s ≡ r
one_form s r m b c p q = (wire_of_read s b m p).0 ∙ sym (wire_of_read r c m q).0

-- bytes are malformed exactly when no message is written so
pub malformed_exactly : (s : List ℕ) → Bytes s → (read_of s ≡ malformed) ↔ ((m : Five) → is_kind m.kind ≡ true → s ≡ wire m → ⊥)
unfolding read_of
malformed_exactly s bytes = (to, from)
  where
    to : read_of s ≡ malformed → (m : Five) → is_kind m.kind ≡ true → s ≡ wire m → ⊥
    to r m k e =
        let q : read_as m ≡ malformed = sym (read_of_wire m k) ∙ sym (ap read_of e) ∙ r in
        let z : ◌≡◌ {A = ℕ} 0 2 = ap (λ (x : Told). x.answer) q in
        omega arith

    from : ((m : Five) → is_kind m.kind ≡ true → s ≡ wire m → ⊥) → read_of s ≡ malformed
    from never = go (well_formed s) refl
      where
        go : (b : Bool) → well_formed s ≡ b → read_of s ≡ malformed
        go true h = absurd (never (five_at s) (known_kind s h) (sym (wire_of_five s bytes h)))
        go false h = rw h
