-- A slot filled in a book with a legal head: the head stays, each slot that had its one form has it still, and one entry has one slot more.
-- Stores follow one another.
use Prim.Native.Nat.{ℕ, ◌+◌, ◌-◌, ◌≤◌, ◌<◌}
use mathlib.Core.Path.{◌≡◌, refl, sym, ap, ◌∙◌, fun_ext, subst₂}
use mathlib.Core.Logic.{inl}
use mathlib.Core.Bool.{Bool, true, false, cond}
use mathlib.Core.List.{List}
use mathlib.Core.Option.{Option, some}
use native.Mathlib.Omega.{arith}
use lib.Dec.{eqb}
use lib.ListN.{length, get_or}
use borrow.Author.Tests.{eqb-true, eqb-false, eq-eqb}
use Rattle.words.specs.Words.{Bytes}
use Rattle.entry.specs.Entry.{Decl, Kind, SEND, ECHO, READY, Entry, recorded, marked, PerEntry, same_entry, put_at, announced}
use Rattle.entry.specs.Lists.{upd}
use Rattle.meaning.specs.Slot.{slot_at, slot_ok, put_slot}
use Rattle.meaning.specs.Layout.{helped_place, head_length, per_entry, slot_count, slot_place, entry_slot, send_slot, echo_slot, ready_slot}
use Rattle.meaning.specs.Layout.{ready_sent_slot, delivered_slot, heard_slot, slot_length}
use Rattle.meaning.specs.Book.{n_of, numbers_of, own_of, limit_of, header_of, help_of, slot_of, look}
use Rattle.meaning.specs.Legal.{legal, head_legal, entry_legal, Head, Fits, IsDecl}
use Rattle.meaning.proofs.Legality.{legal_facts, legal_head, head_facts, facts_head, head_legal_lem, slots_at, slots_all}
use Rattle.meaning.proofs.Legality.{entry_at, entry_all, slot_within_book}
use Rattle.meaning.proofs.Places.{slot_past_header, slots_apart, send_below, echo_below, ready_below, ready_sent_below}
use Rattle.meaning.proofs.Places.{delivered_below, entry_slot_below, published_slot_below}
use Rattle.meaning.proofs.Slots.{put_length, slot_put, ok_put, put_bytes, get_d_elsewhere, slot_elsewhere, ok_elsewhere}
use Rattle.meaning.proofs.Agree.{agree_n, agree_numbers, agree_own, agree_down}
use Rattle.meaning.proofs.Header.{same_header, same_sheet_legal, same_first, same_limit, same_helped, same_help}
use Rattle.meaning.proofs.Entries.{entry_from, row_in, published_in, entries_in, look_is, same_entry_lem, entries_in_lem, entries_put}
use Rattle.meaning.proofs.Entries.{entries_published, send_filled, echo_filled, ready_filled, ready_sent_filled, delivered_filled}

-- bytes with a legal head, whose slots from one on and before another have one byte form per meaning
pub record Sound (from to : ℕ) (b : List ℕ) : Type 0 where
  pub head : head_legal b ≡ true
  pub slots : (m : ℕ) → from ≤ m → m < to → slot_ok b (slot_place (n_of b) m) ≡ true
  pub bytes : Bytes b

-- bytes a after bytes b: as sound, the same header, and the same entries but for e at sender j and number c
pub record StoredIn (from to : ℕ) (b a : List ℕ) (j c : ℕ) (e : Entry) : Type 0 where
  pub sound : Sound from to a
  pub header : header_of a ≡ header_of b
  pub help : help_of a ≡ help_of b
  pub entries : look a ≡ put_at (look b) j c e

-- and legal
pub record Stored (b a : List ℕ) (j c : ℕ) (e : Entry) : Type 0 where
  pub legal : legal a ≡ true
  pub bytes : Bytes a
  pub header : header_of a ≡ header_of b
  pub help : help_of a ≡ help_of b
  pub entries : look a ≡ put_at (look b) j c e

-- a legal book is sound in all its slots
module _ (b : List ℕ) where
  pub legal_sound : legal b ≡ true → Bytes b → Sound 0 (slot_count (n_of b) (numbers_of b)) b
  legal_sound h bytes =
      record {
        head = legal_head b h;
        slots = λ m _ l. slots_at b (n_of b) (slot_count (n_of b) (numbers_of b)) (legal_facts b h).slots m l;
        bytes = bytes;
      }

  -- and a book with a legal entry in that entry's
  abbrev pub first_of : (j c : ℕ) → ℕ
  first_of j c = entry_slot (n_of b) (numbers_of b) c j 0

  abbrev pub past_of : (j c : ℕ) → ℕ
  past_of j c = entry_slot (n_of b) (numbers_of b) c j (per_entry (n_of b))

  pub fits_sound : (j c : ℕ) → Fits b j c → Bytes b → Sound (first_of j c) (past_of j c) b
  unfolding entry_slot
  fits_sound j c fits bytes =
      record {
        head = fits.has.head;
        slots = λ m l g.
            let i : ℕ = m - first_of j c in
            let e : entry_slot (n_of b) (numbers_of b) c j i ≡ m = omega arith in
            ap (λ (x : ℕ). slot_ok b (slot_place (n_of b) x)) (sym e) ∙ entry_at b j c fits.entry i (omega arith);
        bytes = bytes;
      }

  pub sound_entry : (j c : ℕ) → Sound (first_of j c) (past_of j c) b → entry_legal b j c ≡ true
  unfolding entry_slot
  sound_entry j c s = entry_all b j c (λ i l. s.slots (entry_slot (n_of b) (numbers_of b) c j i) (omega arith) (omega arith))

-- ---- one store after another

place_here : {A : Type 0} (f : PerEntry A) (j c : ℕ) (x : A) → put_at f j c x j c ≡ x
place_here f j c x = rw (eq-eqb j j refl, eq-eqb c c refl)

place_place : {A : Type 0} (f : PerEntry A) (j c : ℕ) (x y : A) → put_at (put_at f j c x) j c y ≡ put_at f j c y
place_place f j c x y = fun_ext (λ j₂. fun_ext (λ c₂. go j₂ c₂ (same_entry j c j₂ c₂)))
  where
    go : (j₂ c₂ : ℕ) (t : Bool) → cond t y (cond t x (f j₂ c₂)) ≡ cond t y (f j₂ c₂)
    go j₂ c₂ true = refl
    go j₂ c₂ false = refl

place_same : {A : Type 0} (f : PerEntry A) (j c : ℕ) → f ≡ put_at f j c (f j c)
place_same f j c = fun_ext (λ j₂. fun_ext (λ c₂. go j₂ c₂ (same_entry j c j₂ c₂) refl))
  where
    go : (j₂ c₂ : ℕ) (t : Bool) → same_entry j c j₂ c₂ ≡ t → f j₂ c₂ ≡ cond t (f j c) (f j₂ c₂)
    go j₂ c₂ true q = let p = same_entry_lem j c j₂ c₂ q in rw (p.0, p.1)
    go j₂ c₂ false q = refl

module _ (b : List ℕ) (j c : ℕ) where
  placed : (a : List ℕ) (e : Entry) → look a ≡ put_at (look b) j c e → look a j c ≡ e
  placed a e q = ap (λ (f : PerEntry Entry). f j c) q ∙ place_here (look b) j c e

  pub stored_entry : (a : List ℕ) (e : Entry) → Stored b a j c e → look a j c ≡ e
  stored_entry a e s = placed a e s.entries

  -- nothing stored
  pub stored_none : legal b ≡ true → Bytes b → Stored b b j c (look b j c)
  stored_none h bytes =
      record {
        legal = h;
        bytes = bytes;
        header = refl;
        help = refl;
        entries = place_same (look b) j c;
      }

  -- in a legal book what is stored is legal
  pub stored_whole : (a : List ℕ) (e : Entry) → StoredIn 0 (slot_count (n_of b) (numbers_of b)) b a j c e → Stored b a j c e
  stored_whole a e s =
      let n = agree_n a b s.header in
      let numbers = agree_numbers a b s.header in
      record {
        legal = head_legal_lem a (head_facts a s.sound.head)
            (rw numbers (slots_all a (n_of a) (slot_count (n_of a) (numbers_of b))
            (λ m l. s.sound.slots m (omega arith) (rw n at l))));
        bytes = s.sound.bytes;
        header = s.header;
        help = s.help;
        entries = s.entries;
      }

  module _ (from to : ℕ) where
    pub stored_in_entry : (a : List ℕ) (e : Entry) → StoredIn from to b a j c e → look a j c ≡ e
    stored_in_entry a e s = placed a e s.entries

    pub stored_nothing : Sound from to b → StoredIn from to b b j c (look b j c)
    stored_nothing s = record { sound = s; header = refl; help = refl; entries = place_same (look b) j c }

    -- what the second makes of the entry after the first
    stored_then : (f : Entry → Entry) (a d : List ℕ) (e : Entry)
        → StoredIn from to b a j c e → StoredIn from to a d j c (f (look a j c)) → StoredIn from to b d j c (f e)
    stored_then f a d e s t =
        record {
          sound = t.sound;
          header = t.header ∙ s.header;
          help = t.help ∙ s.help;
          entries = t.entries ∙ rw (stored_in_entry a e s, s.entries) (place_place (look b) j c e (f e));
        }

-- ---- one store

module _ (from to : ℕ) (b : List ℕ) (sound : Sound from to b) (v : Decl) (d : IsDecl v) where
  facts : Head b
  facts = head_facts b sound.head

  -- slot k of the book filled
  module _ (k : ℕ) (hk : k < slot_count (n_of b) (numbers_of b)) where
    abbrev at : ℕ
    at = slot_place (n_of b) k

    abbrev after : List ℕ
    after = put_slot b at v

    fits : at + slot_length ≤ length b
    fits = slot_within_book b facts k hk

    before : (i : ℕ) → i < head_length (n_of b) → get_or after i 0 ≡ get_or b i 0
    before i l = get_d_elsewhere b at v fits d.long i (inl (omega (arith, slot_past_header (n_of b) k)))

    header_kept : header_of after ≡ header_of b
    header_kept = same_header after b (same_first after b before)

    n_kept : n_of after ≡ n_of b
    n_kept = agree_n after b header_kept

    numbers_kept : numbers_of after ≡ numbers_of b
    numbers_kept = agree_numbers after b header_kept

    own_kept : own_of after ≡ own_of b
    own_kept = agree_own after b header_kept

    pub slots_after : slot_of after ≡ upd (slot_of b) k (some v)
    unfolding slot_of
    slots_after = fun_ext (λ m. ap (λ (x : ℕ). slot_at after (slot_place x m)) n_kept ∙ go m (eqb m k) refl)
      where
        go : (m : ℕ) (t : Bool) → eqb m k ≡ t → slot_at after (slot_place (n_of b) m) ≡ cond t (some v) (slot_at b (slot_place (n_of b) m))
        go m true e = rw (eqb-true m k e) (slot_put b at v fits d.long)
        go m false e = slot_elsewhere b at v fits d.long (slot_place (n_of b) m) (slots_apart (n_of b) m k (eqb-false m k e))

    ok_after : (m : ℕ) → slot_ok b (slot_place (n_of b) m) ≡ true → slot_ok after (slot_place (n_of b) m) ≡ true
    ok_after m o = go (eqb m k) refl
      where
        go : (t : Bool) → eqb m k ≡ t → slot_ok after (slot_place (n_of b) m) ≡ true
        go true e = rw (eqb-true m k e) (ok_put b at v fits d.long)
        go false e =
            ok_elsewhere b at v fits d.long (slot_place (n_of b) m) (slots_apart (n_of b) m k (eqb-false m k e)) ∙ o

    helped_after : (p : ℕ) → p < n_of after → get_or after (helped_place p) 0 ≤ limit_of after
    helped_after p l =
        let q : p < n_of b = omega (arith, n_kept) in
        omega (arith, same_helped after b before p q, same_limit after b before, facts.helped p q)

    head_after : head_legal after ≡ true
    head_after =
        facts_head after
        (record {
          n = rw n_kept facts.n;
          numbers = rw numbers_kept facts.numbers;
          own = rw (own_kept, n_kept) facts.own;
          long = rw (n_kept, numbers_kept) (put_length b at v fits d.long ∙ facts.long);
          sheet = same_sheet_legal after b (same_first after b before) ∙ facts.sheet;
          down = rw (n_kept, agree_down after b header_kept) facts.down;
          limit = rw (same_limit after b before) facts.limit;
          helped = helped_after;
        })

    sound_after : Sound from to after
    sound_after =
        record {
          head = head_after;
          slots = λ m l g. ap (λ (x : ℕ). slot_ok after (slot_place x m)) n_kept ∙ ok_after m (sound.slots m l g);
          bytes = put_bytes b at v fits d.long sound.bytes d.bytes;
        }

    -- what the slots mean decides what the book means
    stored_slot : (j c : ℕ) (e : Entry)
        → entries_in (n_of b) (numbers_of b) (own_of b) (upd (slot_of b) k (some v)) ≡ put_at (look b) j c e
        → StoredIn from to b after j c e
    stored_slot j c e q =
        record {
          sound = sound_after;
          header = header_kept;
          help = same_help after b before;
          entries = look_is after ∙ (λ i. entries_in (n_kept i) (numbers_kept i) (own_kept i) (slots_after i)) ∙ q;
        }

  -- slot i of the entry of sender j and number c filled, which makes f of each entry
  abbrev InEntry : (n s : ℕ) → Type 0
  InEntry n s =
      (j c i : ℕ) (f : Entry → Entry) → j < n → c < s → i < per_entry n
      → ((row : ℕ → Option Decl) (o : Option Decl) → entry_from n (upd row i (some v)) o ≡ f (entry_from n row o))
      → StoredIn from to b (put_slot b (slot_place n (entry_slot n s c j i)) v) j c (f (look b j c))

  in_entry : InEntry (n_of b) (numbers_of b)
  unfolding look
  in_entry j c i f hj hc hi g =
      let n = n_of b in
      let s = numbers_of b in
      stored_slot (entry_slot n s c j i) (entry_slot_below n s c j i hc hj hi) j c (f (look b j c))
      (entries_put n s (own_of b) (slot_of b) j c hj hc (some v) i hi
      ∙ ap (put_at (look b) j c)
      (g (row_in n s (slot_of b) j c) (published_in (own_of b) (slot_of b) j c)
      ∙ ap f (sym (entries_in_lem n s (own_of b) (slot_of b) j c hj hc))))

  -- the slot of the own number c filled
  abbrev InPublished : (n s : ℕ) → Type 0
  InPublished n s = (j c : ℕ) → j ≡ own_of b → c < s → StoredIn from to b (put_slot b (slot_place n c) v) j c (announced v (look b j c))

  in_published : InPublished (n_of b) (numbers_of b)
  unfolding look
  in_published j c e hc =
      let n = n_of b in
      let s = numbers_of b in
      let hj : j < n = omega (arith, facts.own) in
      stored_slot c (published_slot_below n s c hc) j c (announced v (look b j c))
      (entries_published n s (own_of b) (slot_of b) j c hj hc (some v) e
      ∙ ap (put_at (look b) j c) (ap (announced v) (sym (entries_in_lem n s (own_of b) (slot_of b) j c hj hc))))

  -- ---- the stores that calls make, with the book's n and S as the caller has them

  module _ (n s : ℕ) (en : n_of b ≡ n) (es : numbers_of b ≡ s) (j c : ℕ) where
    stored_announced : j ≡ own_of b → c < s → StoredIn from to b (put_slot b (slot_place n c) v) j c (announced v (look b j c))
    stored_announced e hc = subst₂ InPublished en es in_published j c e hc

    module _ (hj : j < n) (hc : c < s) where
      stored_in : (i : ℕ) (f : Entry → Entry) → i < per_entry n
          → ((row : ℕ → Option Decl) (o : Option Decl) → entry_from n (upd row i (some v)) o ≡ f (entry_from n row o))
          → StoredIn from to b (put_slot b (slot_place n (entry_slot n s c j i)) v) j c (f (look b j c))
      stored_in i f hi g = subst₂ InEntry en es in_entry j c i f hj hc hi g

      -- a message of the kind recorded
      pub stored_heard : (k : Kind) (p : ℕ) → p < n
          → StoredIn from to b (put_slot b (slot_place n (entry_slot n s c j (heard_slot n k p))) v) j c (recorded k p v (look b j c))
      stored_heard SEND p h = stored_in send_slot (recorded SEND p v) (send_below n) (λ row o. send_filled n row o v p)
      stored_heard ECHO p h = stored_in (echo_slot p) (recorded ECHO p v) (echo_below n p h) (λ row o. echo_filled n row o v p h)
      stored_heard READY p h = stored_in (ready_slot n p) (recorded READY p v) (ready_below n p h) (λ row o. ready_filled n row o v p h)

      -- the READY sent marked, where r says so; the delivered, where r says so
      stored_ready_sent : (r : Bool)
          → StoredIn from to b (cond r (put_slot b (slot_place n (entry_slot n s c j (ready_sent_slot n))) v) b) j c
          (marked r false v (look b j c))
      stored_ready_sent true = stored_in (ready_sent_slot n) (marked true false v) (ready_sent_below n)
          (λ row o. ready_sent_filled n row o v)
      stored_ready_sent false = stored_nothing b j c from to sound

      stored_delivered : (r : Bool)
          → StoredIn from to b (cond r (put_slot b (slot_place n (entry_slot n s c j (delivered_slot n))) v) b) j c
          (marked false r v (look b j c))
      stored_delivered true = stored_in (delivered_slot n) (marked false true v) (delivered_below n) (λ row o. delivered_filled n row o v)
      stored_delivered false = stored_nothing b j c from to sound

-- what this house published, stored in a legal book
pub stored_published : (b : List ℕ) → legal b ≡ true → Bytes b → (v : Decl) → IsDecl v
    → (n s : ℕ) → n_of b ≡ n → numbers_of b ≡ s → (j c : ℕ) → j ≡ own_of b → c < s
    → Stored b (put_slot b (slot_place n c) v) j c (announced v (look b j c))
stored_published b h bytes v d n s en es j c e hc =
    stored_whole b j c (put_slot b (slot_place n c) v) (announced v (look b j c))
    (stored_announced 0 (slot_count (n_of b) (numbers_of b)) b (legal_sound b h bytes) v d n s en es j c e hc)

-- ---- a message's stores: recorded, the READY sent marked or not, the delivered marked or not

module _ (from to : ℕ) (b : List ℕ) (sound : Sound from to b) (v : Decl) (d : IsDecl v) (n s : ℕ) (en : n_of b ≡ n)
    (es : numbers_of b ≡ s) (j c : ℕ) (hj : j < n) (hc : c < s) (k : Kind) (p : ℕ) (hp : p < n) (r t : Bool) where
  abbrev b₁ : List ℕ
  b₁ = put_slot b (slot_place n (entry_slot n s c j (heard_slot n k p))) v

  abbrev b₂ : List ℕ
  b₂ = cond r (put_slot b₁ (slot_place n (entry_slot n s c j (ready_sent_slot n))) v) b₁

  abbrev b₃ : List ℕ
  b₃ = cond t (put_slot b₂ (slot_place n (entry_slot n s c j (delivered_slot n))) v) b₂

  pub stored_taken : StoredIn from to b b₃ j c (marked r t v (recorded k p v (look b j c)))
  stored_taken =
      let one = stored_heard from to b sound v d n s en es j c hj hc k p hp in
      let n₁ = agree_n b₁ b one.header ∙ en in
      let s₁ = agree_numbers b₁ b one.header ∙ es in
      let two = stored_ready_sent from to b₁ one.sound v d n s n₁ s₁ j c hj hc r in
      let both = stored_then b j c from to (marked r false v) b₁ b₂ (recorded k p v (look b j c)) one two in
      let n₂ = agree_n b₂ b both.header ∙ en in
      let s₂ = agree_numbers b₂ b both.header ∙ es in
      let three = stored_delivered from to b₂ both.sound v d n s n₂ s₂ j c hj hc t in
      stored_then b j c from to (marked false t v) b₂ b₃ (marked r false v (recorded k p v (look b j c))) both three
