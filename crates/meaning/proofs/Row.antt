-- The bytes of one entry: its row of slots. Bytes that differ in that row alone are those with what the entry now means written there.
use Prim.Native.Nat.{ℕ, ◌+◌, ◌-◌, ◌*◌, ◌≤◌, ◌<◌}
use mathlib.Core.Path.{◌≡◌, refl, sym, ap, ap₂, ◌∙◌, subst₂}
use mathlib.Core.Logic.{◌⊎◌, inl, inr, ⊎_elim}
use mathlib.Core.Bool.{Bool, true, false, cond}
use mathlib.Core.List.{List, ◌++◌}
use native.Mathlib.Decide.{dec_lt}
use native.Mathlib.Omega.{arith}
use lib.ListN.{length, get_or, take, drop, length-drop, take-append-drop}
use lib.Seq.{take_all, drop-drop}
use Rattle.words.specs.Words.{Bytes}
use Rattle.entry.specs.Entry.{Decl, Entry, Kind, SEND, ECHO, READY, recorded, marked}
use Rattle.meaning.specs.Slot.{part, slot_at, slot_ok, slot_bytes, put_slot}
use Rattle.meaning.specs.Layout.{slot_length, per_entry, slot_place, entry_slot, heard_slot, ready_sent_slot, delivered_slot}
use Rattle.meaning.specs.Book.{n_of, numbers_of, header_of, look, place_in, entry_bytes, with_row}
use Rattle.meaning.specs.Legal.{Has, Fits, IsDecl, entry_legal}
use Rattle.meaning.proofs.Legality.{entry_at, entry_all}
use Rattle.meaning.proofs.Parts.{get_d_first}
use Rattle.meaning.proofs.Agree.{agree_n, agree_numbers}
use Rattle.meaning.proofs.Places.{send_below, echo_below, ready_below, ready_sent_below, delivered_below}
use Rattle.meaning.proofs.Room.{entry_room}
use Rattle.meaning.proofs.Stores.{Sound, StoredIn, first_of, past_of, fits_sound, sound_entry}
use Rattle.meaning.proofs.Stores.{stored_in_entry, stored_nothing, stored_taken}
use Rattle.meaning.proofs.Rows.{rows_parts}
use Rattle.meaning.proofs.Written.{entry_rows}
use Rattle.meaning.proofs.Look.{look_at}
use Rattle.meaning.proofs.Slots.{ok_bytes, ok_part, put_length, part_elsewhere}

-- bytes a agree with bytes b in every part before place `first` and from place `past` on
pub record Apart (first past : ℕ) (b a : List ℕ) : Type 0 where
  pub long : length a ≡ length b
  pub same : (k m : ℕ) → (k + m ≤ first) ⊎ (past ≤ k) → part a k m ≡ part b k m

-- a list in three
module _ (a : List ℕ) (first past : ℕ) (order : first ≤ past) (within : past ≤ length a) where
  three : a ≡ take first a ++ (part a first (past - first) ++ drop past a)
  three =
      let e : first + (past - first) ≡ past = omega arith in
      sym (take-append-drop first a)
      ∙ ap (λ (l : List ℕ). take first a ++ l)
      (sym (take-append-drop (past - first) (drop first a))
      ∙ ap (λ (l : List ℕ). part a first (past - first) ++ l) (drop-drop (past - first) first a ∙ ap (λ (x : ℕ). drop x a) e))

  pub apart_three : (b : List ℕ) → Apart first past b a → a ≡ take first b ++ (part a first (past - first) ++ drop past b)
  apart_three b q =
      let all = length-drop past a in
      let all' = length-drop past b in
      let rest : part a past (length a) ≡ part b past (length a) = q.same past (length a) (inr (omega arith)) in
      let left = take_all (length a) (drop past a) (omega arith) in
      let right = take_all (length a) (drop past b) (omega (arith, q.long)) in
      three
      ∙ ap₂ (λ (x y : List ℕ). x ++ (part a first (past - first) ++ y)) (q.same 0 first (inl (omega arith))) (sym left ∙ rest ∙ right)

-- the row of an entry whose slots have their one form is what the entry means
module _ (a : List ℕ) (j c : ℕ) (has : Has a j c) (ok : entry_legal a j c ≡ true) where
  abbrev n : ℕ
  n = n_of a

  pub row_bytes : entry_bytes n (look a j c) ≡ part a (place_in a j c 0) (per_entry n * slot_length)
  unfolding slot_place entry_slot
  row_bytes =
      let seen = look_at a n (numbers_of a) refl refl j c has.sender has.number in
      ap (entry_bytes n) seen
      ∙ entry_rows n (λ i. slot_at a (place_in a j c i)) _
      ∙ rows_parts slot_length a (place_in a j c 0) (per_entry n) (λ i. slot_bytes (slot_at a (place_in a j c i)))
      (λ i l.
      let here : place_in a j c i ≡ place_in a j c 0 + i * slot_length = omega arith in
      ok_bytes a (place_in a j c i) (omega (arith, entry_room a j c has)) (entry_at a j c ok i l)
      ∙ ap (λ (x : ℕ). part a x slot_length) here)

-- bytes a, apart from b in that row alone
module _ (b a : List ℕ) (j c : ℕ) (has : Has a j c) (ok : entry_legal a j c ≡ true) (header : header_of a ≡ header_of b) where
  pub apart_row : Apart (place_in b j c 0) (place_in b j c (per_entry (n_of b))) b a → a ≡ with_row b j c (look a j c)
  unfolding with_row slot_place entry_slot
  apart_row q =
      let n = agree_n a b header in
      let s = agree_numbers a b header in
      let first : place_in a j c 0 ≡ place_in b j c 0 = λ i. slot_place (n i) (entry_slot (n i) (s i) c j 0) in
      let past = place_in b j c (per_entry (n_of b)) in
      let size : per_entry (n_of a) * slot_length ≡ past - place_in b j c 0 = omega (arith, ap per_entry n) in
      let row = row_bytes a j c has ok ∙ ap₂ (part a) first size in
      let room : past ≤ length a = omega (arith, entry_room a j c has, first, ap per_entry n) in
      apart_three a (place_in b j c 0) past (omega arith) room b q
      ∙ ap (λ (l : List ℕ). take (place_in b j c 0) b ++ (l ++ drop past b))
      (sym row ∙ ap (λ (x : ℕ). entry_bytes x (look a j c)) n)

-- ---- a message's stores, all in one row

apart_none : (first past : ℕ) (b : List ℕ) → Apart first past b b
apart_none first past b = record { long = refl; same = λ k m l. refl }

apart_then : (first past : ℕ) (b a d : List ℕ) → Apart first past b a → Apart first past a d → Apart first past b d
apart_then first past b a d p q = record { long = q.long ∙ p.long; same = λ k m l. q.same k m l ∙ p.same k m l }

module _ (first past : ℕ) (v : Decl) (long : length v ≡ 20) where
  apart_put : (b : List ℕ) (at : ℕ) → past ≤ length b → first ≤ at → at + slot_length ≤ past → Apart first past b (put_slot b at v)
  apart_put b at room l g =
      record {
        long = put_length b at v (omega arith) long;
        same = λ k m w. part_elsewhere b at v (omega arith) long k m
            (⊎_elim (λ (o : k + m ≤ first). inl (omega arith)) (λ (o : past ≤ k). inr (omega arith)) w);
      }

  apart_mark : (r : Bool) (b : List ℕ) (at : ℕ) → past ≤ length b → first ≤ at → at + slot_length ≤ past
      → Apart first past b (cond r (put_slot b at v) b)
  apart_mark true b at room l g = apart_put b at room l g
  apart_mark false b at room l g = apart_none first past b

-- the entry of sender j and number c is e, its slots have their one form, and no byte outside them changed
pub record Rowed (b a : List ℕ) (j c : ℕ) (e : Entry) : Type 0 where
  pub stored : StoredIn (first_of b j c) (past_of b j c) b a j c e
  pub apart : Apart (place_in b j c 0) (place_in b j c (per_entry (n_of b))) b a

module _ (b : List ℕ) (j c : ℕ) (fits : Fits b j c) where
  abbrev has : Has b j c
  has = fits.has

  -- so that the head and that entry stay legal, and the bytes are those with the entry's row written
  module _ (a : List ℕ) (e : Entry) (r : Rowed b a j c e) where
    abbrev s : StoredIn (first_of b j c) (past_of b j c) b a j c e
    s = r.stored

    pub rowed_has : Has a j c
    rowed_has =
        record {
          head = s.sound.head;
          sender = omega (arith, agree_n a b s.header, has.sender);
          number = omega (arith, agree_numbers a b s.header, has.number);
        }

    pub rowed_entry : entry_legal a j c ≡ true
    rowed_entry =
        let n = agree_n a b s.header in
        let numbers = agree_numbers a b s.header in
        sound_entry a j c
        (subst₂ (λ (x y : ℕ). Sound (entry_slot x y c j 0) (entry_slot x y c j (per_entry x)) a) (sym n) (sym numbers) s.sound)

    pub rowed_look : look a j c ≡ e
    rowed_look = stored_in_entry b j c (first_of b j c) (past_of b j c) a e s

    pub rowed_bytes : a ≡ with_row b j c e
    rowed_bytes = apart_row b a j c rowed_has rowed_entry s.header r.apart ∙ ap (with_row b j c) rowed_look

  -- nothing stored
  pub rowed_none : Bytes b → Rowed b b j c (look b j c)
  rowed_none bytes =
      record {
        stored = stored_nothing b j c (first_of b j c) (past_of b j c) (fits_sound b j c fits bytes);
        apart = apart_none (place_in b j c 0) (place_in b j c (per_entry (n_of b))) b;
      }

  module _ (bytes : Bytes b) (v : Decl) (d : IsDecl v) (k : Kind) (p : ℕ) (hp : p < n_of b) where
    abbrev at : ℕ → ℕ
    at i = place_in b j c i

    abbrev first : ℕ
    first = at 0

    abbrev past : ℕ
    past = at (per_entry (n_of b))

    room : past ≤ length b
    unfolding slot_place entry_slot
    room = omega (arith, entry_room b j c has)

    inside : (i : ℕ) → i < per_entry (n_of b) → (first ≤ at i) × (at i + slot_length ≤ past)
    unfolding slot_place entry_slot
    inside i l = (omega arith, omega arith)

    heard_below : heard_slot (n_of b) k p < per_entry (n_of b)
    heard_below = go k
      where
        go : (k : Kind) → heard_slot (n_of b) k p < per_entry (n_of b)
        go SEND = send_below (n_of b)
        go ECHO = echo_below (n_of b) p hp
        go READY = ready_below (n_of b) p hp

    module _ (r t : Bool) where
      abbrev b₁ : List ℕ
      b₁ = put_slot b (at (heard_slot (n_of b) k p)) v

      abbrev b₂ : List ℕ
      b₂ = cond r (put_slot b₁ (at (ready_sent_slot (n_of b))) v) b₁

      abbrev pub laid : List ℕ
      laid = cond t (put_slot b₂ (at (delivered_slot (n_of b))) v) b₂

      pub rowed_taken : Rowed b laid j c (marked r t v (recorded k p v (look b j c)))
      rowed_taken =
          let h = inside (heard_slot (n_of b) k p) heard_below in
          let s = inside (ready_sent_slot (n_of b)) (ready_sent_below (n_of b)) in
          let g = inside (delivered_slot (n_of b)) (delivered_below (n_of b)) in
          let one = apart_put first past v d.long b (at (heard_slot (n_of b) k p)) room h.0 h.1 in
          let two = apart_mark first past v d.long r b₁ (at (ready_sent_slot (n_of b))) (omega (arith, room, one.long)) s.0 s.1 in
          let both = apart_then first past b b₁ b₂ one two in
          let three = apart_mark first past v d.long t b₂ (at (delivered_slot (n_of b))) (omega (arith, room, both.long)) g.0 g.1 in
          record {
            stored = stored_taken (first_of b j c) (past_of b j c) b (fits_sound b j c fits bytes) v d (n_of b) (numbers_of b) refl refl j c
                has.sender has.number k p hp r t;
            apart = apart_then first past b b₂ laid both three;
          }

-- what a change of one entry's row keeps
module _ (b a : List ℕ) (j c : ℕ) (e : Entry) (r : Rowed b a j c e) where
  -- each byte outside it
  pub rowed_same : (i : ℕ) → (i < place_in b j c 0) ⊎ (place_in b j c (per_entry (n_of b)) ≤ i) → get_or a i 0 ≡ get_or b i 0
  rowed_same i w =
      let u : (i + 1 ≤ place_in b j c 0) ⊎ (place_in b j c (per_entry (n_of b)) ≤ i) =
      ⊎_elim (λ (l : i < place_in b j c 0). inl (omega arith)) (λ l. inr l) w
      in
      get_d_first a i 1 (omega arith) ∙ ap (λ (p : List ℕ). get_or p 0 0) (r.apart.same i 1 u) ∙ sym (get_d_first b i 1 (omega arith))

  -- each slot that had its one form
  slot_kept : (m : ℕ) → slot_ok b (slot_place (n_of b) m) ≡ true → slot_ok a (slot_place (n_of b) m) ≡ true
  unfolding slot_place
  slot_kept m o =
      elim (dec_lt m (first_of b j c)) [
        | yes l ↦ elsewhere (inl (omega arith))
        | no f ↦ elim (dec_lt m (past_of b j c)) [
          | yes l ↦ ap (λ (x : ℕ). slot_ok a (slot_place x m)) (sym (agree_n a b r.stored.header))
              ∙ r.stored.sound.slots m (omega arith) l
          | no g ↦ elsewhere (inr (omega arith))
        ]
      ]
    where
      elsewhere : (slot_place (n_of b) m + slot_length ≤ place_in b j c 0) ⊎ (place_in b j c (per_entry (n_of b)) ≤ slot_place (n_of b) m)
          → slot_ok a (slot_place (n_of b) m) ≡ true
      elsewhere w =
          ok_part a (slot_place (n_of b) m) ∙ ap (λ (p : List ℕ). slot_ok p 0) (r.apart.same (slot_place (n_of b) m) slot_length w)
          ∙ sym (ok_part b (slot_place (n_of b) m)) ∙ o

  -- and so each entry that was legal
  pub rowed_others : (j₂ c₂ : ℕ) → entry_legal b j₂ c₂ ≡ true → entry_legal a j₂ c₂ ≡ true
  rowed_others j₂ c₂ o =
      let n = agree_n a b r.stored.header in
      let s = agree_numbers a b r.stored.header in
      entry_all a j₂ c₂
      (λ i l. (λ x. slot_ok a (slot_place (n x) (entry_slot (n x) (s x) c₂ j₂ i)))
      ∙ slot_kept (entry_slot (n_of b) (numbers_of b) c₂ j₂ i) (entry_at b j₂ c₂ o i (rw n at l)))
