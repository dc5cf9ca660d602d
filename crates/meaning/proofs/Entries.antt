-- The entries that a book's slots mean, and what one more filled slot changes of them.
use Prim.Native.Nat.{ℕ, ◌<◌}
use mathlib.Core.Path.{◌≡◌, refl, sym, ap, ap₂, ◌∙◌, fun_ext}
use mathlib.Core.Logic.{◌≢◌}
use mathlib.Core.Bool.{Bool, true, false, cond, ◌&&◌, and-eq-true_iff, true≢false}
use mathlib.Core.List.{List}
use mathlib.Core.Option.{Option, none, some}
use native.Mathlib.Omega.{arith}
use lib.Dec.{eqb, ltb}
use borrow.Author.Tests.{eqb-true, eqb-false, eq-eqb, ne_eqb, ltb-true, lt-ltb}
use Rattle.entry.specs.Entry.{Decl, SEND, ECHO, READY, Entry, fresh, recorded, marked, PerEntry, same_entry, put_at}
use Rattle.entry.specs.Lists.{upd}
use Rattle.entry.proofs.Basics.{upd_same, upd_other}
use Rattle.meaning.specs.Layout.{per_entry, slot_count, entry_slot, send_slot, echo_slot, ready_slot, ready_sent_slot, delivered_slot}
use Rattle.meaning.specs.Book.{n_of, numbers_of, own_of, slot_of, for_houses, look}
use Rattle.meaning.proofs.Places.{send_below, echo_below, ready_below, ready_sent_below, delivered_below, entry_slot_below}
use Rattle.meaning.proofs.Places.{published_slot_below, entry_slot_past, same_entry_row, same_entry_slot}

-- the entry of a row of slots, and of what was published
abbrev pub entry_from : ℕ → (ℕ → Option Decl) → Option Decl → Entry
entry_from n row published =
    record {
      send = row send_slot;
      echo = for_houses n (λ p. row (echo_slot p));
      ready = for_houses n (λ p. row (ready_slot n p));
      ready_sent = row (ready_sent_slot n);
      delivered = row (delivered_slot n);
      published = published;
    }

abbrev pub row_in : (n s : ℕ) → (ℕ → Option Decl) → (sender number i : ℕ) → Option Decl
row_in n s slot j c i = slot (entry_slot n s c j i)

abbrev pub published_in : ℕ → (ℕ → Option Decl) → (sender number : ℕ) → Option Decl
published_in own slot j c = cond (eqb j own) (slot c) none

abbrev pub entry_in : (n s own : ℕ) → (ℕ → Option Decl) → PerEntry Entry
entry_in n s own slot j c = entry_from n (row_in n s slot j c) (published_in own slot j c)

abbrev pub entries_in : (n s own : ℕ) → (ℕ → Option Decl) → PerEntry Entry
entries_in n s own slot j c = cond (ltb j n && ltb c s) (entry_in n s own slot j c) fresh

pub look_is : (b : List ℕ) → look b ≡ entries_in (n_of b) (numbers_of b) (own_of b) (slot_of b)
unfolding look
look_is b = refl

-- ---- one slot of a row replaced

module _ (n : ℕ) where
  houses_same : (f g : ℕ → Option Decl) → ((p : ℕ) → p < n → f p ≡ g p) → for_houses n f ≡ for_houses n g
  houses_same f g h = fun_ext (λ p. go p (ltb p n) refl)
    where
      go : (p : ℕ) (t : Bool) → ltb p n ≡ t → cond t (f p) none ≡ cond t (g p) none
      go p true e = h p (ltb-true p n e)
      go p false e = refl

  module _ (row : ℕ → Option Decl) (x : Option Decl) where
    houses_other : (g : ℕ → ℕ) (i : ℕ) → ((p : ℕ) → p < n → g p ≢ i) → for_houses n (λ p. upd row i x (g p)) ≡ for_houses n (λ p. row (g p))
    houses_other g i d = houses_same (λ p. upd row i x (g p)) (λ p. row (g p)) (λ p l. upd_other row i x (g p) (d p l))

    houses_one : (g : ℕ → ℕ) (q : ℕ) → q < n → ((p : ℕ) → g p ≡ g q → p ≡ q)
        → for_houses n (λ p. upd row (g q) x (g p)) ≡ upd (for_houses n (λ p. row (g p))) q x
    houses_one g q l inj = fun_ext (λ p. go p (eqb p q) refl)
      where
        go : (p : ℕ) (t : Bool) → eqb p q ≡ t → for_houses n (λ p. upd row (g q) x (g p)) p ≡ cond t x (for_houses n (λ p. row (g p)) p)
        go p true e = rw (eqb-true p q e, lt-ltb q n l) (upd_same row (g q) x)
        go p false e = ap (λ (y : Option Decl). cond (ltb p n) y none) (upd_other row (g q) x (g p) (λ r. eqb-false p q e (inj p r)))

  pub entry_same : (f g : ℕ → Option Decl) (o x : Option Decl) → ((i : ℕ) → i < per_entry n → f i ≡ g i) → o ≡ x
      → entry_from n f o ≡ entry_from n g x
  entry_same f g o x h e =
      let echo = houses_same (λ p. f (echo_slot p)) (λ p. g (echo_slot p)) (λ p l. h (echo_slot p) (echo_below n p l)) in
      let ready = houses_same (λ p. f (ready_slot n p)) (λ p. g (ready_slot n p)) (λ p l. h (ready_slot n p) (ready_below n p l)) in
      λ i.
      record {
        send = h send_slot (send_below n) i;
        echo = echo i;
        ready = ready i;
        ready_sent = h (ready_sent_slot n) (ready_sent_below n) i;
        delivered = h (delivered_slot n) (delivered_below n) i;
        published = e i;
      }

module _ (n : ℕ) (row : ℕ → Option Decl) (o : Option Decl) (v : Decl) where
  abbrev filled : ℕ → Entry
  filled i = entry_from n (upd row i (some v)) o

  abbrev before : Entry
  before = entry_from n row o

  -- a slot for each house, and one for all, where another slot is filled
  each : (g : ℕ → ℕ) (i : ℕ) → ((p : ℕ) → p < n → g p ≢ i) → for_houses n (λ p. upd row i (some v) (g p)) ≡ for_houses n (λ p. row (g p))
  each = houses_other n row (some v)

  one : (k i : ℕ) → k ≢ i → upd row i (some v) k ≡ row k
  one k i d = upd_other row i (some v) k d

  here : (i : ℕ) → upd row i (some v) i ≡ some v
  here i = upd_same row i (some v)

  pub send_filled : (p : ℕ) → filled send_slot ≡ recorded SEND p v before
  send_filled p =
      let echo = each echo_slot 0 (λ q l e. omega arith) in
      let ready = each (ready_slot n) 0 (λ q l e. omega arith) in
      let sent = one (ready_sent_slot n) 0 (λ e. omega arith) in
      let delivered = one (delivered_slot n) 0 (λ e. omega arith) in
      λ i. record { send = some v; echo = echo i; ready = ready i; ready_sent = sent i; delivered = delivered i; published = o }

  pub echo_filled : (p : ℕ) → p < n → filled (echo_slot p) ≡ recorded ECHO p v before
  echo_filled p h =
      let send = one send_slot (echo_slot p) (λ e. omega arith) in
      let echo = houses_one n row (some v) echo_slot p h (λ q e. omega arith) in
      let ready = each (ready_slot n) (echo_slot p) (λ q l e. omega arith) in
      let sent = one (ready_sent_slot n) (echo_slot p) (λ e. omega arith) in
      let delivered = one (delivered_slot n) (echo_slot p) (λ e. omega arith) in
      λ i. record { send = send i; echo = echo i; ready = ready i; ready_sent = sent i; delivered = delivered i; published = o }

  pub ready_filled : (p : ℕ) → p < n → filled (ready_slot n p) ≡ recorded READY p v before
  ready_filled p h =
      let send = one send_slot (ready_slot n p) (λ e. omega arith) in
      let echo = each echo_slot (ready_slot n p) (λ q l e. omega arith) in
      let ready = houses_one n row (some v) (ready_slot n) p h (λ q e. omega arith) in
      let sent = one (ready_sent_slot n) (ready_slot n p) (λ e. omega arith) in
      let delivered = one (delivered_slot n) (ready_slot n p) (λ e. omega arith) in
      λ i. record { send = send i; echo = echo i; ready = ready i; ready_sent = sent i; delivered = delivered i; published = o }

  pub ready_sent_filled : filled (ready_sent_slot n) ≡ marked true false v before
  ready_sent_filled =
      let send = one send_slot (ready_sent_slot n) (λ e. omega arith) in
      let echo = each echo_slot (ready_sent_slot n) (λ q l e. omega arith) in
      let ready = each (ready_slot n) (ready_sent_slot n) (λ q l e. omega arith) in
      let sent = here (ready_sent_slot n) in
      let delivered = one (delivered_slot n) (ready_sent_slot n) (λ e. omega arith) in
      λ i. record { send = send i; echo = echo i; ready = ready i; ready_sent = sent i; delivered = delivered i; published = o }

  pub delivered_filled : filled (delivered_slot n) ≡ marked false true v before
  delivered_filled =
      let send = one send_slot (delivered_slot n) (λ e. omega arith) in
      let echo = each echo_slot (delivered_slot n) (λ q l e. omega arith) in
      let ready = each (ready_slot n) (delivered_slot n) (λ q l e. omega arith) in
      let sent = one (ready_sent_slot n) (delivered_slot n) (λ e. omega arith) in
      let delivered = here (delivered_slot n) in
      λ i. record { send = send i; echo = echo i; ready = ready i; ready_sent = sent i; delivered = delivered i; published = o }

-- the entries of a book hang on its slots alone
pub entries_same : (n s own : ℕ) (f g : ℕ → Option Decl) → ((k : ℕ) → k < slot_count n s → f k ≡ g k)
    → entries_in n s own f ≡ entries_in n s own g
entries_same n s own f g h = fun_ext (λ j. fun_ext (λ c. go j c (ltb j n) (ltb c s) refl refl))
  where
    go : (j c : ℕ) (t u : Bool) → ltb j n ≡ t → ltb c s ≡ u
        → cond (t && u) (entry_in n s own f j c) fresh ≡ cond (t && u) (entry_in n s own g j c) fresh
    go j c true true a b =
        let hj = ltb-true j n a in
        let hc = ltb-true c s b in
        entry_same n (row_in n s f j c) (row_in n s g j c) (published_in own f j c) (published_in own g j c)
        (λ i l. h (entry_slot n s c j i) (entry_slot_below n s c j i hc hj l))
        (ap (λ (o : Option Decl). cond (eqb j own) o none) (h c (published_slot_below n s c hc)))
    go j c true false a b = refl
    go j c false u a b = refl

-- ---- one entry of a book replaced

same_test : (a b c d : ℕ) → (a ≡ b → c ≡ d) → (c ≡ d → a ≡ b) → eqb a b ≡ eqb c d
same_test a b c d f g = go (eqb c d) refl
  where
    go : (t : Bool) → eqb c d ≡ t → eqb a b ≡ t
    go true e = eq-eqb a b (g (eqb-true c d e))
    go false e = ne_eqb a b (λ q. eqb-false c d e (f q))

pub same_entry_lem : (j c j₂ c₂ : ℕ) → same_entry j c j₂ c₂ ≡ true → (j₂ ≡ j) × (c₂ ≡ c)
same_entry_lem j c j₂ c₂ h = let b = (and-eq-true_iff (eqb j₂ j) (eqb c₂ c)).0 h in (eqb-true j₂ j b.0, eqb-true c₂ c b.1)

not_same_entry : (j c j₂ c₂ : ℕ) → same_entry j c j₂ c₂ ≡ false → j₂ ≡ j → c₂ ≡ c → ⊥
not_same_entry j c j₂ c₂ h p q = true≢false (sym ((and-eq-true_iff (eqb j₂ j) (eqb c₂ c)).1 (eq-eqb j₂ j p, eq-eqb c₂ c q)) ∙ h)

module _ (n s own : ℕ) (slot : ℕ → Option Decl) (j c : ℕ) (hj : j < n) (hc : c < s) where
  pub entries_in_lem : entries_in n s own slot j c ≡ entry_in n s own slot j c
  entries_in_lem = rw (lt-ltb j n hj, lt-ltb c s hc)

  -- another row of slots that differs from this one in one entry only
  entries_place : (other : ℕ → Option Decl) (e : Entry) → entry_in n s own other j c ≡ e
      → ((j₂ c₂ : ℕ) → j₂ < n → c₂ < s → (j₂ ≡ j → c₂ ≡ c → ⊥) → entry_in n s own other j₂ c₂ ≡ entry_in n s own slot j₂ c₂)
      → entries_in n s own other ≡ put_at (entries_in n s own slot) j c e
  entries_place other e h f = fun_ext (λ j₂. fun_ext (λ c₂. go j₂ c₂ (same_entry j c j₂ c₂) refl))
    where
      rest : (j₂ c₂ : ℕ) (t u : Bool) → ltb j₂ n ≡ t → ltb c₂ s ≡ u → (j₂ ≡ j → c₂ ≡ c → ⊥)
          → cond (t && u) (entry_in n s own other j₂ c₂) fresh ≡ cond (t && u) (entry_in n s own slot j₂ c₂) fresh
      rest j₂ c₂ true true a b d = f j₂ c₂ (ltb-true j₂ n a) (ltb-true c₂ s b) d
      rest j₂ c₂ true false a b d = refl
      rest j₂ c₂ false u a b d = refl

      go : (j₂ c₂ : ℕ) (t : Bool) → same_entry j c j₂ c₂ ≡ t → entries_in n s own other j₂ c₂ ≡ cond t e (entries_in n s own slot j₂ c₂)
      go j₂ c₂ true q = let p = same_entry_lem j c j₂ c₂ q in ap₂ (entries_in n s own other) p.0 p.1 ∙ rw (lt-ltb j n hj, lt-ltb c s hc) h
      go j₂ c₂ false q = rest j₂ c₂ (ltb j₂ n) (ltb c₂ s) refl refl (not_same_entry j c j₂ c₂ q)

  module _ (x : Option Decl) where
    -- slot i of the entry
    pub entries_put : (i : ℕ) → i < per_entry n
        → entries_in n s own (upd slot (entry_slot n s c j i) x)
        ≡ put_at (entries_in n s own slot) j c (entry_from n (upd (row_in n s slot j c) i x) (published_in own slot j c))
    entries_put i hi =
        entries_place (upd slot k x) (entry_from n (upd (row_in n s slot j c) i x) (published_in own slot j c))
        (entry_same n (row_in n s (upd slot k x) j c) (upd (row_in n s slot j c) i x)
        (published_in own (upd slot k x) j c) (published_in own slot j c)
        (λ i₂ l. ap (λ (t : Bool). cond t x (row_in n s slot j c i₂)) (same_slot i₂)) (published j c hc))
        (λ j₂ c₂ h₂ l₂ d.
        entry_same n (row_in n s (upd slot k x) j₂ c₂) (row_in n s slot j₂ c₂)
        (published_in own (upd slot k x) j₂ c₂) (published_in own slot j₂ c₂)
        (λ i₂ l.
        upd_other slot k x (entry_slot n s c₂ j₂ i₂)
        (λ e. let q = same_entry_slot n s c₂ j₂ i₂ c j i h₂ hj l hi e in d q.1 q.0))
        (published j₂ c₂ l₂))
      where
        k : ℕ
        k = entry_slot n s c j i

        same_slot : (i₂ : ℕ) → eqb (entry_slot n s c j i₂) k ≡ eqb i₂ i
        same_slot i₂ = same_test (entry_slot n s c j i₂) k i₂ i (λ e. same_entry_row n s c j i₂ i e) (λ e. ap (entry_slot n s c j) e)

        published : (j₂ c₂ : ℕ) → c₂ < s → published_in own (upd slot k x) j₂ c₂ ≡ published_in own slot j₂ c₂
        published j₂ c₂ h = rw (upd_other slot k x c₂ (λ e. omega (arith, entry_slot_past n s c j i)))

    -- what was published at the own number c
    pub entries_published : j ≡ own
        → entries_in n s own (upd slot c x) ≡ put_at (entries_in n s own slot) j c (entry_from n (row_in n s slot j c) x)
    entries_published e =
        entries_place (upd slot c x) (entry_from n (row_in n s slot j c) x)
        (entry_same n (row_in n s (upd slot c x) j c) (row_in n s slot j c) (published_in own (upd slot c x) j c) x
        (row j c) (rw (eq-eqb j own e) (upd_same slot c x)))
        (λ j₂ c₂ h₂ l₂ d.
        entry_same n (row_in n s (upd slot c x) j₂ c₂) (row_in n s slot j₂ c₂)
        (published_in own (upd slot c x) j₂ c₂) (published_in own slot j₂ c₂)
        (row j₂ c₂) (published j₂ c₂ d (eqb j₂ own) refl))
      where
        row : (j₂ c₂ i : ℕ) → i < per_entry n → upd slot c x (entry_slot n s c₂ j₂ i) ≡ slot (entry_slot n s c₂ j₂ i)
        row j₂ c₂ i l = upd_other slot c x (entry_slot n s c₂ j₂ i) (λ q. omega (arith, entry_slot_past n s c₂ j₂ i))

        published : (j₂ c₂ : ℕ) → (j₂ ≡ j → c₂ ≡ c → ⊥) → (t : Bool) → eqb j₂ own ≡ t
            → cond t (upd slot c x c₂) none ≡ cond t (slot c₂) none
        published j₂ c₂ d true q = upd_other slot c x c₂ (d (eqb-true j₂ own q ∙ sym e))
        published j₂ c₂ d false q = refl
