-- The slots of a meaning, numbered as they stand in the book: read as entries again, they are the meaning's.
use Prim.Native.Nat.{ℕ, ◌+◌, ◌*◌, ◌-◌, ◌/◌, ◌%◌, ◌≤◌, ◌<◌}
use mathlib.Core.Path.{◌≡◌, refl, sym, ap, ◌∙◌, fun_ext}
use mathlib.Core.Bool.{Bool, true, false, cond, ◌&&◌}
use mathlib.Core.Option.{Option, none}
use native.Mathlib.Nat.{add-zero, mul-add-div_right, mul-add-mod_self_right, div-eq_of_lt, mod-eq_of_lt}
use native.Mathlib.Omega.{arith}
use lib.Dec.{eqb, ltb}
use borrow.Author.Tests.{eqb-true, eqb-false, ltb-true, ltb-false, lt-ltb, le-ltb}
use Rattle.entry.specs.Entry.{Decl, Entry, fresh, PerEntry, Stays, Filled}
use Rattle.meaning.specs.Layout.{per_entry, entry_slot, echo_slot, ready_slot, ready_sent_slot, delivered_slot}
use Rattle.meaning.specs.Book.{Header, Meaning, for_houses}
use Rattle.meaning.specs.Legal.{IsSlot, IsEntry, IsBook}
use Rattle.meaning.proofs.Written.{with_entries}
use Rattle.meaning.proofs.Entries.{entry_from, row_in, published_in, entry_in, entries_in, entry_same}

-- slot i of an entry's row; the READYs begin where an ECHO from a house n would stand
abbrev in_row : ℕ → Entry → ℕ → Option Decl
in_row n e i =
    cond (ltb i (echo_slot 0)) e.send
    (cond (ltb i (echo_slot n)) (e.echo (i - echo_slot 0))
    (cond (ltb i (ready_sent_slot n)) (e.ready (i - echo_slot n)) (cond (ltb i (delivered_slot n)) e.ready_sent e.delivered)))

-- slot k of the book
unfoldable pub slots_of : Meaning → ℕ → Option Decl
slots_of B k =
    let h = B.header in
    let n = h.n in
    let past = k - h.numbers in
    let row = past / per_entry n in
    cond (ltb k h.numbers) (B.entries h.own k).published (in_row n (B.entries (row % n) (row / n)) (past % per_entry n))

pick : (x y : Option Decl) (t : Bool) → IsSlot x → IsSlot y → IsSlot (cond t x y)
pick x y true a b = a
pick x y false a b = b

-- ---- a row

module _ (n : ℕ) (e : Entry) where
  echo_at : (p : ℕ) → p < n → in_row n e (echo_slot p) ≡ e.echo p
  echo_at p l =
      let x : echo_slot p - echo_slot 0 ≡ p = omega arith in
      rw (le-ltb (echo_slot p) (echo_slot 0) (omega arith), lt-ltb (echo_slot p) (echo_slot n) (omega arith), x)

  ready_at : (p : ℕ) → p < n → in_row n e (ready_slot n p) ≡ e.ready p
  ready_at p l =
      let i = ready_slot n p in
      let x : ready_slot n p - echo_slot n ≡ p = omega arith in
      rw (le-ltb i (echo_slot 0) (omega arith), le-ltb i (echo_slot n) (omega arith), lt-ltb i (ready_sent_slot n) (omega arith), x)

  sent_at : in_row n e (ready_sent_slot n) ≡ e.ready_sent
  sent_at =
      let i = ready_sent_slot n in
      let ready = le-ltb i i (omega arith) in
      rw (le-ltb i (echo_slot 0) (omega arith), le-ltb i (echo_slot n) (omega arith), ready, lt-ltb i (delivered_slot n) (omega arith))

  delivered_at : in_row n e (delivered_slot n) ≡ e.delivered
  delivered_at =
      let i = delivered_slot n in
      let ready = le-ltb i (ready_sent_slot n) (omega arith) in
      rw (le-ltb i (echo_slot 0) (omega arith), le-ltb i (echo_slot n) (omega arith), ready, le-ltb i i (omega arith))

  houses_are : (f g : ℕ → Option Decl) → ((p : ℕ) → p < n → f p ≡ g p) → ((p : ℕ) → n ≤ p → g p ≡ none) → for_houses n f ≡ g
  houses_are f g h past = fun_ext (λ p. go p (ltb p n) refl)
    where
      go : (p : ℕ) (t : Bool) → ltb p n ≡ t → cond t (f p) none ≡ g p
      go p true q = h p (ltb-true p n q)
      go p false q = sym (past p (ltb-false p n q))

  row_entry : IsEntry n e → entry_from n (in_row n e) e.published ≡ e
  row_entry ok =
      let echo = houses_are (λ p. in_row n e (echo_slot p)) e.echo echo_at ok.echo_past in
      let ready = houses_are (λ p. in_row n e (ready_slot n p)) e.ready ready_at ok.ready_past in
      λ i.
      record {
        send = e.send;
        echo = echo i;
        ready = ready i;
        ready_sent = sent_at i;
        delivered = delivered_at i;
        published = e.published;
      }

  row_is_slot : IsEntry n e → (i : ℕ) → IsSlot (in_row n e i)
  row_is_slot ok i =
      pick e.send echoes (ltb i (echo_slot 0)) ok.send
      (pick (e.echo (i - echo_slot 0)) readies (ltb i (echo_slot n)) (ok.echo (i - echo_slot 0))
      (pick (e.ready (i - echo_slot n)) marks (ltb i (ready_sent_slot n)) (ok.ready (i - echo_slot n))
      (pick e.ready_sent e.delivered (ltb i (delivered_slot n)) ok.ready_sent ok.delivered)))
    where
      marks : Option Decl
      marks = cond (ltb i (delivered_slot n)) e.ready_sent e.delivered

      readies : Option Decl
      readies = cond (ltb i (ready_sent_slot n)) (e.ready (i - echo_slot n)) marks

      echoes : Option Decl
      echoes = cond (ltb i (echo_slot n)) (e.echo (i - echo_slot 0)) readies

-- ---- the book

div_row : (m r i : ℕ) → i < m → (r * m + i) / m ≡ r
div_row m r i l = mul-add-div_right (omega arith) r i ∙ ap (λ (x : ℕ). r + x) (div-eq_of_lt l) ∙ add-zero r

mod_row : (m r i : ℕ) → i < m → (r * m + i) % m ≡ i
mod_row m r i l = mul-add-mod_self_right r m i ∙ mod-eq_of_lt l

module _ (B : Meaning) where
  abbrev h : Header
  h = B.header

  published_at_lem : (c : ℕ) → c < h.numbers → slots_of B c ≡ (B.entries h.own c).published
  unfolding slots_of
  published_at_lem c l = rw (lt-ltb c h.numbers l)

  entry_slot_at : (c j i : ℕ) → j < h.n → i < per_entry h.n
      → slots_of B (entry_slot h.n h.numbers c j i) ≡ in_row h.n (B.entries j c) i
  unfolding slots_of entry_slot
  entry_slot_at c j i hj hi =
      let m = per_entry h.n in
      let s = h.numbers in
      let row = c * h.n + j in
      let past : s + row * m + i - s ≡ row * m + i = omega arith in
      let not_published = le-ltb (s + row * m + i) s (omega arith) in
      rw (not_published, past, div_row m row i hi, mod_row m row i hi, div_row h.n c j hj, mod_row h.n c j hj)

  module _ (ok : IsBook B) where
    pub slots_are_slots : (k : ℕ) → IsSlot (slots_of B k)
    unfolding slots_of
    slots_are_slots k =
        let n = h.n in
        let past = k - h.numbers in
        let row = past / per_entry n in
        let e = B.entries (row % n) (row / n) in
        pick (B.entries h.own k).published (in_row n e (past % per_entry n)) (ltb k h.numbers)
        (ok.entries.each h.own k).published (row_is_slot n e (ok.entries.each (row % n) (row / n)) (past % per_entry n))

    pub slots_entries : entries_in h.n h.numbers h.own (slots_of B) ≡ B.entries
    slots_entries = fun_ext (λ j. fun_ext (λ c. go j c (ltb j h.n) (ltb c h.numbers) refl refl))
      where
        published : (j c : ℕ) → c < h.numbers → (t : Bool) → eqb j h.own ≡ t → cond t (slots_of B c) none ≡ (B.entries j c).published
        published j c l true e = published_at_lem c l ∙ ap (λ (x : ℕ). (B.entries x c).published) (sym (eqb-true j h.own e))
        published j c l false e = sym (ok.entries.others j c (eqb-false j h.own e))

        go : (j c : ℕ) (t u : Bool) → ltb j h.n ≡ t → ltb c h.numbers ≡ u
            → cond (t && u) (entry_in h.n h.numbers h.own (slots_of B) j c) fresh ≡ B.entries j c
        go j c true true a b =
            entry_same h.n (row_in h.n h.numbers (slots_of B) j c) (in_row h.n (B.entries j c))
            (published_in h.own (slots_of B) j c) (B.entries j c).published
            (λ i l. entry_slot_at c j i (ltb-true j h.n a) l) (published j c (ltb-true c h.numbers b) (eqb j h.own) refl)
            ∙ row_entry h.n (B.entries j c) (ok.entries.each j c)
        go j c true false a b = sym (ok.entries.past_number j c (ltb-false c h.numbers b))
        go j c false u a b = sym (ok.entries.past_sender j c (ltb-false j h.n a))

-- ---- where each entry's slots stay, the book's slots stay

pick_stays : (x y x₂ y₂ : Option Decl) (t : Bool) → Stays x x₂ → Stays y y₂ → Stays (cond t x y) (cond t x₂ y₂)
pick_stays x y x₂ y₂ true f g = f
pick_stays x y x₂ y₂ false f g = g

row_stays : (n : ℕ) (e e₂ : Entry) → Filled e e₂ → (i : ℕ) → Stays (in_row n e i) (in_row n e₂ i)
row_stays n e e₂ f i =
    pick_stays _ _ _ _ (ltb i (echo_slot 0)) f.send
    (pick_stays _ _ _ _ (ltb i (echo_slot n)) (f.echo (i - echo_slot 0))
    (pick_stays _ _ _ _ (ltb i (ready_sent_slot n)) (f.ready (i - echo_slot n))
    (pick_stays _ _ _ _ (ltb i (delivered_slot n)) f.ready_sent f.delivered)))

pub slots_stay : (B : Meaning) (f : PerEntry Entry) → ((j c : ℕ) → Filled (B.entries j c) (f j c)) → (k : ℕ)
    → Stays (slots_of B k) (slots_of (with_entries B f) k)
unfolding slots_of
slots_stay B f stays k =
    let h = B.header in
    let past = k - h.numbers in
    let row = past / per_entry h.n in
    let j = row % h.n in
    let c = row / h.n in
    pick_stays _ _ _ _ (ltb k h.numbers) (stays h.own k).published
    (row_stays h.n (B.entries j c) (f j c) (stays j c) (past % per_entry h.n))
