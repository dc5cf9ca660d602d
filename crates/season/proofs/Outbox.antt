-- The book is its own outbox: what an honest house sent is what its book gives, and what its book gives it sent to all.
use Prim.Native.Nat.{ℕ, ◌≤◌, ◌<◌}
use mathlib.Core.Path.{◌≡◌, refl, sym, ap, ◌∙◌, subst}
use mathlib.Core.Bool.{Bool, true, false, cond, ◌&&◌, true≢false}
use mathlib.Core.List.{List}
use mathlib.Core.Option.{Option, none, some}
use native.Mathlib.Nat.{mul-le-mul_left}
use native.Mathlib.Omega.{arith}
use lib.Dec.{T, eqb, ltb, eqb→eq, eqb_refl, ltb→lt}
use Rattle.card.specs.Count.{count}
use Rattle.card.proofs.Counting.{count_pos}
use Rattle.message.specs.Message.{read_of}
use Rattle.message.specs.Message as message
use Rattle.meaning.specs.Book.{look}
use Rattle.meaning.specs.Legal.{legal}
use Rattle.entry.specs.Entry.{Decl, Kind, SEND, ECHO, READY, Entry, outgoing, same_kind, is_some}
use Rattle.protocol.specs.Steps.{say}
use Rattle.entry.specs.Lists.{at}
use Rattle.protocol.specs.Run as protocol
use Rattle.protocol.specs.Thresholds.{rules_of, wall_of}
use Rattle.entry.proofs.Basics.{and_l, and_r, and_mk, is_kind_eq, is_some_of, entry_refl}
use Rattle.protocol.proofs.Mail.{find}
use Rattle.protocol.proofs.Again.{way}
use Rattle.protocol.proofs.Invariant.{Inv, true_copy}
use Rattle.protocol.proofs.Views.{view}
use Rattle.calls.specs.Again.{sent_as, sending, said_of, sent_of}
use Rattle.calls.specs.Entered.{is_there, kind_number, kind_of, letter, letters}
use Rattle.calls.specs.declared.Sent.{Sent}
use Rattle.calls.proofs.KindNumber.{number_of_kind}
use Rattle.season.specs.Run.{Houses, is_honest, Copy, State}
use Rattle.season.specs.Claims.{OfSeason, Outgoing, SentTo}
use Rattle.season.proofs.Mail.{Says, Both, mails_at}
use Rattle.season.proofs.Calls.{wall, Means, sent_is}

-- what is given is of a kind
known : (b : List ℕ) (kind j c : ℕ) → (sent_of b kind j c).gives ≡ true → (k : Kind) × (kind_of kind ≡ some k)
unfolding sent_of
known b kind j c e = go (legal b) (kind_of kind) e
  where
    go : (t : Bool) (o : Option Kind) → (cond t (sent_as b o j c) (sending 1 none)).gives ≡ true → (k : Kind) × (o ≡ some k)
    go true none q = absurd (true≢false (sym q))
    go true (some k) q = (k, refl)
    go false o q = absurd (true≢false (sym q))

same_some : (v w : Decl) → some v ≡ some w → v ≡ w
same_some v w e = cc

-- what is given was said
said : (season j c : ℕ) (k : Kind) (o : Option Decl) → is_there (letters season j c (said_of k o)) ≡ true → (v : Decl) × (o ≡ some v)
said season j c k none e = absurd (true≢false (sym e))
said season j c k (some v) e = (v, refl)

module _ (H : Houses) (s : State) (z : protocol.State) (M : Means H s z)
    (held : (j c : ℕ) → Inv (wall H) j c (view j c z)) where
  -- what house r's book gives of what it gave
  gives : (r : ℕ) → T (is_honest H r) → (k : Kind) (j c : ℕ) → j < H.n → c < H.numbers → (v : Decl)
      → outgoing k (z.gave.books r j c) ≡ some v
      → sent_of (s.gave.books r) (kind_number k) j c ≡ sending 0 (some (letter H.season j c (say k v)))
  gives r t k j c lj lc v e =
      let b = s.gave.books r in
      let stands : outgoing k (look b j c) ≡ some v = rw (← M.gave.entries r t) e in
      sent_is H r s z M t b (M.gave.books r t) (λ q. true) k j c lj lc
      ∙ ap (λ (o : Option Decl). sending 0 (letters H.season j c (said_of k o))) stands

  pub outbox : (i : ℕ) (m : Copy) → at s.mail i ≡ some m
      → T (is_honest H m.from) × Outgoing (s.gave.books m.from) (read_of m.message).five m.message
  unfolding wall_of rules_of
  outbox i m e = go (at z.mail i) refl (rw e at (mails_at (Says H.season) s.mail z.mail M.mail i))
    where
      go : (x : Option protocol.Copy) → at z.mail i ≡ x → Both (Says H.season) (some m) x
          → T (is_honest H m.from) × Outgoing (s.gave.books m.from) (read_of m.message).five m.message
      go none f S = absurd S
      go (some x) f S =
          let I = held x.sender x.number in
          let said_it = true_copy (wall H) x.sender x.number (view x.sender x.number z) I i x f
          (entry_refl x.sender x.number) in
          let o = I.books.owner x.from x.kind x.decl said_it in
          let lj = ltb→lt x.sender H.n (and_l (ltb x.sender H.n) (ltb x.number H.numbers) o.3) in
          let lc = ltb→lt x.number H.numbers (and_r (ltb x.sender H.n) (ltb x.number H.numbers) o.3) in (
            rw S.from o.0,
            rw (S.read, S.from, S.message) (gives x.from o.0 x.kind x.sender x.number lj lc x.decl said_it),
          )

  -- a copy says what its sender gave, on an entry of the book
  pub reads : (i : ℕ) (m : Copy) → at s.mail i ≡ some m → OfSeason H (read_of m.message).five
  unfolding wall_of rules_of
  reads i m e = go (at z.mail i) refl (rw e at (mails_at (Says H.season) s.mail z.mail M.mail i))
    where
      kind : (k : Kind) → (1 ≤ kind_number k) × (kind_number k ≤ 3)
      kind SEND = (omega arith, omega arith)
      kind ECHO = (omega arith, omega arith)
      kind READY = (omega arith, omega arith)

      go : (x : Option protocol.Copy) → at z.mail i ≡ x → Both (Says H.season) (some m) x → OfSeason H (read_of m.message).five
      go none f S = absurd S
      go (some x) f S =
          let I = held x.sender x.number in
          let said_it = true_copy (wall H) x.sender x.number (view x.sender x.number z) I i x f
          (entry_refl x.sender x.number) in
          let o = I.books.owner x.from x.kind x.decl said_it in
          rw S.read (
            (kind x.kind).0,
            (kind x.kind).1,
            refl,
            ltb→lt x.sender H.n (and_l (ltb x.sender H.n) (ltb x.number H.numbers) o.3),
            ltb→lt x.number H.numbers (and_r (ltb x.sender H.n) (ltb x.number H.numbers) o.3),
          )

  module _ (j c : ℕ) (lj : j < H.n) (lc : c < H.numbers) where
    -- of what house r gave, a copy to each house
    copy_to_lem : (r : ℕ) → T (is_honest H r) → (k : Kind) (v : Decl) → outgoing k (z.gave.books r j c) ≡ some v → (q : ℕ) → q < H.n
        → SentTo s r q (letter H.season j c (say k v))
    unfolding wall_of rules_of
    copy_to_lem r t k v e q lq =
        let I = held j c in
        let house : ℕ → Entry = λ p. z.gave.books p j c in
        let one = count_pos (eqb q) H.n q lq (eqb_refl q) in
        let mine = count_pos (λ p. eqb r p && is_some (outgoing k (house p))) H.n r
        (ltb→lt r H.n (and_l (ltb r H.n) (H.honest r) t))
        (and_mk (eqb r r) _ (eqb_refl r) (is_some_of (outgoing k (house r)) v e)) in
        let y = find (λ m. protocol.on_it j c m && way k (eqb r) (eqb q) m) z.mail (omega (
          arith,
          I.post.at_least k (eqb r) (eqb q),
          mine,
          one,
          mul-le-mul_left (count (eqb q) H.n) mine,
        )) in
        there y.0 y.1 y.2 (and_l (protocol.on_it j c y.1) _ y.3) (and_r (protocol.on_it j c y.1) _ y.3)
      where
        there : (i : ℕ) (x : protocol.Copy) → at z.mail i ≡ some x → T (protocol.on_it j c x) → T (way k (eqb r) (eqb q) x)
            → SentTo s r q (letter H.season j c (say k v))
        there i x f a w = go (at s.mail i) refl (rw f at (mails_at (Says H.season) s.mail z.mail M.mail i))
          where
            ends : T (eqb r x.from && eqb q x.to)
            ends = and_r (same_kind k x.kind) _ w

            from : r ≡ x.from
            from = eqb→eq r x.from (and_l (eqb r x.from) _ ends)

            kind : k ≡ x.kind
            kind = is_kind_eq k x.kind (and_l (same_kind k x.kind) _ w)

            decl : some v ≡ some x.decl
            decl =
                sym e ∙ (λ i. outgoing (kind i) (z.gave.books (from i) j c))
                ∙ true_copy (wall H) j c (view j c z) (held j c) i x f a

            go : (o : Option Copy) → at s.mail i ≡ o → Both (Says H.season) o (some x)
                → SentTo s r q (letter H.season j c (say k v))
            go none g S = absurd S
            go (some m) g S =
                record {
                  place = i;
                  copy = m;
                  posted = g;
                  from = S.from ∙ sym from;
                  to = S.to ∙ sym (eqb→eq q x.to (and_r (eqb r x.from) _ ends));
                  says =
                      let n = eqb→eq j x.sender (and_l (eqb j x.sender) _ a) in
                      let n₂ = eqb→eq c x.number (and_r (eqb j x.sender) _ a) in
                      let d : v ≡ x.decl = same_some v x.decl decl in
                      S.message ∙ (λ i. letter H.season (sym n i) (sym n₂ i) (say (sym kind i) (sym d i)));
                }

    pub sent : (r kind : ℕ) → T (is_honest H r) → (sent_of (s.gave.books r) kind j c).gives ≡ true → (q : ℕ) → q < H.n
        → SentTo s r q (sent_of (s.gave.books r) kind j c).message
    sent r kind t e q lq =
        let b = s.gave.books r in
        let found = known b kind j c e in
        let k : Kind = found.0 in
        let is = ap (λ (x : ℕ). sent_of b x j c) (number_of_kind kind k found.1)
        ∙ sent_is H r s z M t b (M.gave.books r t) (λ q. true) k j c lj lc in
        let y = said H.season j c k (outgoing k (look b j c)) (sym (ap (λ (o : Sent). o.gives) is) ∙ e) in
        let message = ap (λ (o : Sent). o.message) is
        ∙ ap (λ (o : Option Decl). (sending 0 (letters H.season j c (said_of k o))).message) y.1 in
        subst (SentTo s r q) (sym message)
        (copy_to_lem r t k y.0 (ap (λ (f : ℕ → ℕ → _). outgoing k (f j c)) (M.gave.entries r t) ∙ y.1) q lq)
