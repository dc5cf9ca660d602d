-- Receiving by entry keeps what it tests, and every byte outside the named entry.
use Prim.Native.Nat.{ℕ}
use mathlib.Core.Path.{◌≡◌, refl, ap}
use mathlib.Core.Bool.{Bool, true, false, cond, ◌&&◌, and-eq-true_iff}
use mathlib.Core.List.{List}
use mathlib.Core.Option.{Option, none, some}
use lib.Dec.{eqb, ltb}
use lib.ListN.{length, get_or, length-set}
use lib.Seq.{get_or-set_other}
use borrow.Author.Tests.{eqb-true, ltb-true}
use Rattle.words.specs.Words.{Bytes}
use Rattle.lot.specs.Declaration.{bytes_of}
use Rattle.message.specs.Message.{Five, read_of, request_of, is_request}
use Rattle.entry.specs.Entry.{Kind}
use Rattle.protocol.specs.Steps.{Out}
use Rattle.protocol.specs.Book.{receiving}
use Rattle.meaning.specs.Layout.{helped_place}
use Rattle.meaning.specs.Book.{Help, Meaning, n_of, numbers_of, season_of, header_of, count_help, meant, limit_of, help_of}
use Rattle.meaning.specs.Legal.{legal, head_legal, entry_legal, Has, Fits}
use Rattle.meaning.proofs.Helped.{help_head, help_entry, help_meant}
use Rattle.meaning.proofs.Row.{rowed_same, rowed_others}
use Rattle.calls.specs.Entered.{helping, kind_of}
use Rattle.calls.specs.Call.{refusal, step_of, asked, asked_as, request_answer, requested}
use Rattle.calls.specs.ByEntry.{answering_in, heard_on, heard_in, any_in, received_entry, Outside}
use Rattle.calls.proofs.Requests.{request_from, request_low}
use Rattle.calls.proofs.ByEntry.{Left, called_left}

-- bytes a after bytes b: the head, the entries that were legal, and each byte of which W holds
pub record Kept (b a : List ℕ) (W : ℕ → Type 0) : Type 0 where
  pub head : head_legal b ≡ true → head_legal a ≡ true
  pub header : header_of a ≡ header_of b
  pub limit : limit_of a ≡ limit_of b
  pub entry : (j c : ℕ) → entry_legal b j c ≡ true → entry_legal a j c ≡ true
  pub long : length a ≡ length b
  pub same : (i : ℕ) → W i → get_or a i 0 ≡ get_or b i 0

kept_less : (b a : List ℕ) (Z W : ℕ → Type 0) → ((i : ℕ) → W i → Z i) → Kept b a Z → Kept b a W
kept_less b a Z W f k =
    record { head = k.head; header = k.header; limit = k.limit; entry = k.entry; long = k.long; same = λ i w. k.same i (f i w) }

module _ (b : List ℕ) (bytes : Bytes b) where
  kept_none : (W : ℕ → Type 0) → Kept b b W
  kept_none W = record { head = λ h. h; header = refl; limit = refl; entry = λ j c e. e; long = refl; same = λ i w. refl }

  kept_left : (a : List ℕ) (j c : ℕ) (o : Out) → Left b a j c o.entry → Kept b a (Outside b j c)
  unfolding help_of
  kept_left a j c o l =
      record {
        head = λ _. l.rowed.stored.sound.head;
        header = l.rowed.stored.header;
        limit = ap (λ (w : Help). w.limit) l.rowed.stored.help;
        entry = rowed_others b a j c o.entry l.rowed;
        long = l.rowed.apart.long;
        same = rowed_same b a j c o.entry l.rowed;
      }

  kept_asked : (p season : ℕ) → head_legal b ≡ true → Kept b (requested b p season).book (λ i. i ≡ helped_place p → ⊥)
  unfolding requested count_help meant help_of
  kept_asked p season h = go (eqb (request_answer b p season) 0) refl
    where
      more : request_answer b p season ≡ 0 → Kept b (count_help b p) (λ i. i ≡ helped_place p → ⊥)
      more z =
          let from = request_from b p season z in
          let low = request_low b p season z in
          record {
            head = λ _. help_head b h bytes p from low;
            header = ap (λ (B : Meaning). B.header) (help_meant b h bytes p from low);
            limit = ap (λ (B : Meaning). B.help.limit) (help_meant b h bytes p from low);
            entry = help_entry b h bytes p from low;
            long = length-set b (helped_place p) _;
            same = λ i f. get_or-set_other b (helped_place p) i _ 0 f;
          }

      go : (t : Bool) → eqb (request_answer b p season) 0 ≡ t
          → Kept b (cond t (record { given = helping; book = count_help b p }) (refusal (request_answer b p season) b)).book
          (λ i. i ≡ helped_place p → ⊥)
      go true e = more (eqb-true (request_answer b p season) 0 e)
      go false e = kept_none (λ i. i ≡ helped_place p → ⊥)

  module _ (p : ℕ) (h : head_legal b ≡ true) where
    kept_on : (m : Five) → Kept b (heard_on b p m).book (Outside b m.sender m.number)
    unfolding heard_on
    kept_on m = inside (ltb m.sender (n_of b) && ltb m.number (numbers_of b)) refl (entry_legal b m.sender m.number) refl
      where
        answers : Fits b m.sender m.number → (k : Option Kind)
            → Kept b (answering_in b (asked_as p m.sender m.number (bytes_of m.declaration) k)).book
            (Outside b m.sender m.number)
        answers fits none = kept_none (Outside b m.sender m.number)
        answers fits (some k) =
            kept_left _ m.sender m.number (step_of b (receiving p k m.sender m.number (bytes_of m.declaration)))
            (called_left b m.sender m.number fits bytes p (bytes_of m.declaration) k)

        inside : (t : Bool) → (ltb m.sender (n_of b) && ltb m.number (numbers_of b)) ≡ t → (u : Bool)
            → entry_legal b m.sender m.number ≡ u
            → Kept b (cond t (cond u (answering_in b (asked p m)) (refusal 1 b)) (refusal 4 b)).book (Outside b m.sender m.number)
        inside true e true f =
            let q = (and-eq-true_iff (ltb m.sender (n_of b)) (ltb m.number (numbers_of b))).0 e in
            let has : Has b m.sender m.number =
            record { head = h; sender = ltb-true m.sender (n_of b) q.0; number = ltb-true m.number (numbers_of b) q.1 }
            in
            answers (record { has = has; entry = f }) (kind_of m.kind)
        inside true e false f = kept_none (Outside b m.sender m.number)
        inside false e u f = kept_none (Outside b m.sender m.number)

    abbrev Beyond : Option Five → ℕ → Type 0
    Beyond x i = (m : Five) → x ≡ some m → Outside b m.sender m.number i

    kept_in : (x : Option Five) → Kept b (heard_in b p x).book (Beyond x)
    unfolding heard_in
    kept_in none = kept_none (Beyond none)
    kept_in (some m) = season (eqb m.season (season_of b))
      where
        season : (t : Bool) → Kept b (cond t (heard_on b p m) (refusal 3 b)).book (Beyond (some m))
        season true = kept_less b _ (Outside b m.sender m.number) (Beyond (some m)) (λ i f. f m refl) (kept_on m)
        season false = kept_none (Beyond (some m))

  module _ (p : ℕ) (message : List ℕ) where
    abbrev pub Elsewhere : ℕ → Type 0
    Elsewhere i =
        ((m : Five) → (read_of message).five ≡ some m → Outside b m.sender m.number i)
        × (is_request message ≡ true → i ≡ helped_place p → ⊥)

    pub received_kept : Kept b (received_entry b p message).book Elsewhere
    unfolding received_entry request_of
    received_kept = go (head_legal b) refl (is_request message) refl
      where
        go : (t : Bool) → head_legal b ≡ t → (u : Bool) → is_request message ≡ u
            → Kept b (cond t (any_in b p (request_of message) (read_of message).five) (refusal 1 b)).book Elsewhere
        go true h true r =
            rw r (kept_less b _ (λ i. i ≡ helped_place p → ⊥) Elsewhere (λ i f. f.1 r) (kept_asked p _ h))
        go true h false r =
            rw r (kept_less b _ (Beyond p h (read_of message).five) Elsewhere (λ i f. f.0) (kept_in p h (read_of message).five))
        go false h u r = kept_none Elsewhere
