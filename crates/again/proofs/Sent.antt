-- A return and what was sent, answer by answer, from what the code found.
use Prim.Native.Nat.{ℕ, ◌+◌, ◌<◌, ◌≤◌}
use mathlib.Core.Path.{◌≡◌, refl, sym, ap, ◌∙◌}
use mathlib.Core.Bool.{Bool, true, false, cond, true≢false, ◌&&◌}
use mathlib.Core.List.{List}
use mathlib.Core.Option.{Option, none, some}
use native.Mathlib.Omega.{arith}
use lib.Dec.{eqb, ltb}
use lib.ListN.{length, get_or, replicate}
use borrow.Author.Tests.{lt-ltb, le-ltb}
use Rattle.lot.specs.declared.Declaration.{Declaration}
use Rattle.lot.specs.Declaration.{declaration_at, bytes_of}
use Rattle.message.specs.declared.Kind as message
use Rattle.message.specs.declared.Kind.TheVariants.{Send, Echo, Ready}
use Rattle.message.specs.Message.{number_of, is_kind, request_wire, fields, wire}
use Rattle.entry.specs.Entry.{Decl, Kind, SEND, ECHO, READY, Entry, outgoing, is_some, PerEntry}
use Rattle.meaning.specs.Slot.{part, slot_at}
use Rattle.meaning.specs.Layout.{slot_length, place_from, slot_place, published_slot, send_slot, ready_sent_slot}
use Rattle.meaning.specs.Book.{n_of, numbers_of, own_of, season_of, slot_of, look}
use Rattle.meaning.specs.Legal.{legal, Has}
use Rattle.meaning.proofs.Meant.{others_published}
use Rattle.meaning.proofs.Entries.{look_is}
use Rattle.again.proofs.Same.{part_numbers}
use Rattle.calls.specs.Entered.{kind_of, letter, letters, kind_number}
use Rattle.layout.specs.Places.{Begins}
use Rattle.calls.proofs.KindNumber.{kind_known, kind_unknown, kind_send, kind_echo, kind_ready, number_of_kind}
use Rattle.meaning.proofs.Seen.{from_base, heard_seen, sent_seen, published_seen}
use Rattle.calls.specs.declared.Sent.{Sent}
use Rattle.calls.specs.Again.{returned, sending, said_of, sent_on, sent_of, sent_as}
use Rattle.again.specs.Letter.{letter_of}

-- ---- a return

module _ (b : List ℕ) where
  pub returned_legal : legal b ≡ true → (season : ℕ) → season ≡ season_of b → (request : List ℕ) → request ≡ request_wire season
      → record { answer = 0; request = request } ≡ returned b
  unfolding returned
  returned_legal h season e request q =
      let w = q ∙ ap request_wire e in
      rw h (λ i. record { answer = 0; request = w i })

  pub returned_no_book : legal b ≡ false → (answer : ℕ) → answer ≡ 1 → record { answer = answer; request = replicate 11 0 } ≡ returned b
  unfolding returned
  returned_no_book h answer e = rw (h, e)

-- ---- what was sent

-- the slot at `at`
module _ (b : List ℕ) (at kind j c : ℕ) (room : at + slot_length ≤ length b) (r : Bool) (er : r ≡ is_some (slot_at b at)) where
  full_part : r ≡ true → slot_at b at ≡ some (part b (at + 1) 20)
  unfolding slot_at
  full_part t = go (eqb (get_or b at 0) 1) refl
    where
      go : (x : Bool) → eqb (get_or b at 0) 1 ≡ x → cond x (some (part b (at + 1) 20)) none ≡ some (part b (at + 1) 20)
      go true e = refl
      go false e = absurd (true≢false (sym t ∙ (rw e at er)))

  pub sent_full : r ≡ true → (d : Declaration) → d ≡ declaration_at b (at + 1) → (v : Decl) → v ≡ bytes_of d → (season : ℕ)
      → season ≡ season_of b → (k : ℕ) → k ≡ kind → (m : List ℕ) → m ≡ fields k season j c v
      → some m ≡ letter_of kind (season_of b) j c (slot_at b at)
  unfolding wire
  sent_full t d ed v ev season es k ek m em =
      let n = ed ∙ sym (part_numbers b (at + 1) (omega arith)) in
      let y = em ∙ (λ i. fields (ek i) (es i) j c ((ev ∙ ap bytes_of n) i)) in
      rw (full_part t) (ap some y)

-- the slot of each kind
module _ (b : List ℕ) (kind j c : ℕ) (has : Has b j c) (w : Sent) where
  abbrev Is : Type 0
  Is = w ≡ sent_as b (kind_of kind) j c

  -- what a slot holds, said
  said : (k : Kind) (o : Option Decl) → letter_of (kind_number k) (season_of b) j c o ≡ letters (season_of b) j c (said_of k o)
  unfolding letter
  said k none = refl
  said k (some v) = refl

  inside : (k : Kind) → kind_of kind ≡ some k → sending 0 (sent_on b k j c) ≡ sent_as b (kind_of kind) j c
  inside k e = rw (e, lt-ltb _ _ has.sender, lt-ltb _ _ has.number)

  from : (k : Kind) → kind_of kind ≡ some k → (o : Option Decl) → o ≡ outgoing k (look b j c)
      → w ≡ sending 0 (letter_of kind (season_of b) j c o) → Is
  unfolding sent_on
  from k e o eo ew =
      let n = number_of_kind kind k e in
      ew ∙ ap (λ (x : ℕ). sending 0 (letter_of x (season_of b) j c o)) n
      ∙ ap (sending 0) (said k o ∙ ap (λ (o : Option Decl). letters (season_of b) j c (said_of k o)) eo) ∙ inside k e

  pub sent_send : kind ≡ 1 → (own n at : ℕ) → own ≡ own_of b → j ≡ own → n ≡ n_of b → at ≡ slot_place n (published_slot c)
      → w ≡ sending 0 (letter_of kind (season_of b) j c (slot_at b at)) → Is
  sent_send e own n at eo ej en ea ew =
      let place = ea ∙ ap (λ (x : ℕ). slot_place x c) en in
      from SEND (kind_send kind e) (slot_at b at) (ap (slot_at b) place ∙ sym (published_seen b j c has (ej ∙ eo))) ew

  pub sent_other : kind ≡ 1 → (own : ℕ) → own ≡ own_of b → (j ≡ own → ⊥) → w ≡ sending 0 none → Is
  sent_other e own eo f ew =
      let none_there =
      ap (λ (x : PerEntry Entry). (x j c).published) (look_is b)
      ∙ others_published (n_of b) (numbers_of b) (own_of b) (slot_of b) j c (λ q. f (q ∙ sym eo))
      in
      from SEND (kind_send kind e) none (sym none_there) ew

  module _ (base : ℕ) (at : Begins b j c base) where
    pub sent_echo : kind ≡ 2 → (send : ℕ) → send ≡ place_from base send_slot
        → w ≡ sending 0 (letter_of kind (season_of b) j c (slot_at b send))
        → Is
    sent_echo e send es ew =
        let place = es ∙ from_base b j c has base at.is send_slot in
        from ECHO (kind_echo kind e) (slot_at b send) (ap (slot_at b) place ∙ sym (heard_seen b j c has SEND j has.sender)) ew

    pub sent_ready : kind ≡ 3 → (n sent : ℕ) → n ≡ n_of b → sent ≡ place_from base (ready_sent_slot n)
        → w ≡ sending 0 (letter_of kind (season_of b) j c (slot_at b sent)) → Is
    sent_ready e n sent en es ew =
        let named = ap (λ (x : ℕ). place_from base (ready_sent_slot x)) en in
        let place = es ∙ named ∙ from_base b j c has base at.is (ready_sent_slot (n_of b)) in
        from READY (kind_ready kind e) (slot_at b sent) (ap (slot_at b) place ∙ sym (sent_seen b j c has)) ew

-- 1, 2, 4, or past them
module _ (b : List ℕ) (kind j c : ℕ) (w : Sent) where
  pub sent_no_book : legal b ≡ false → w ≡ sending 1 none → w ≡ sent_of b kind j c
  unfolding sent_of
  sent_no_book h e = rw h e

  module _ (h : legal b ≡ true) where
    pub sent_no_kind : is_kind kind ≡ false → w ≡ sending 2 none → w ≡ sent_of b kind j c
    unfolding sent_of
    sent_no_kind k e = rw h (e ∙ ap (λ (o : Option Kind). sent_as b o j c) (sym (kind_unknown kind k)))

    module _ (k : is_kind kind ≡ true) where
      known : (x : Sent) → x ≡ sending 4 none → (ltb j (n_of b) && ltb c (numbers_of b)) ≡ false → x ≡ sent_as b (kind_of kind) j c
      known x e f = rw ((kind_known kind k).1, f) e

      pub sent_no_sender : n_of b ≤ j → w ≡ sending 4 none → w ≡ sent_of b kind j c
      unfolding sent_of
      sent_no_sender l e = rw h (known w e (rw (le-ltb _ _ l)))

      module _ (l : j < n_of b) where
        pub sent_no_number : numbers_of b ≤ c → w ≡ sending 4 none → w ≡ sent_of b kind j c
        unfolding sent_of
        sent_no_number m e = rw h (known w e (rw (lt-ltb _ _ l, le-ltb _ _ m)))

  pub sent_there : legal b ≡ true → w ≡ sent_as b (kind_of kind) j c → w ≡ sent_of b kind j c
  unfolding sent_of
  sent_there h e = rw h e

-- the kinds that there are
pub kind_is : (k : message.Kind) (n : ℕ) → number_of k ≡ n → is_kind n ≡ true
unfolding is_kind
kind_is Send n e = rw (← e) refl
kind_is Echo n e = rw (← e) refl
kind_is Ready n e = rw (← e) refl
