-- The rule between entries holds: an accepted publication or message changes the named entry alone, and what it gives and leaves there
-- hangs on the book's header and that entry.
use Prim.Native.Nat.{ℕ}
use mathlib.Core.Path.{◌≡◌, refl, sym, ap, ◌∙◌, subst, subst₂}
use mathlib.Core.Bool.{Bool, true, false, cond}
use mathlib.Core.List.{List}
use mathlib.Core.Option.{Option, none, some}
use lib.Dec.{eqb}
use Rattle.lot.specs.Declaration.{bytes_of}
use Rattle.words.specs.Words.{Bytes, word_at}
use Rattle.message.specs.Message.{Five, read_of, is_request, request_of}
use Rattle.message.proofs.Request.{request_names, no_request}
use Rattle.entry.specs.Entry.{Decl, Entry, PerEntry, same_entry, put_at, Kind}
use Rattle.protocol.specs.Steps.{Out}
use Rattle.protocol.specs.Book.{Call, publishing, sender_of, number_of, outcome, receiving}
use Rattle.protocol.proofs.Calls.{alone}
use Rattle.meaning.specs.Book.{Header, header_of, help_of, numbers_of, own_of, season_of, look, meant}
use Rattle.meaning.specs.Legal.{legal}
use Rattle.meaning.proofs.Agree.{agree_own, agree_season}
use Rattle.meaning.proofs.Entries.{same_entry_lem}
use Rattle.meaning.proofs.Stores.{stored_entry}
use Rattle.calls.specs.Entered.{Result, handed, rules_by, letters, kind_of}
use Rattle.calls.specs.Call.{refusal, step_of, called, published, asked, heard_from, heard_any, received, answering, asked_as}
use Rattle.calls.proofs.Keeps.{called_stored, called_given, requested_entries}
use Rattle.calls.specs.Between.{Other, Alike, Between}

place_other : (f : PerEntry Entry) (j c : ℕ) (x : Entry) (j₂ c₂ : ℕ) → Other j c j₂ c₂ → put_at f j c x j₂ c₂ ≡ f j₂ c₂
place_other f j c x j₂ c₂ d = go (same_entry j c j₂ c₂) refl
  where
    go : (t : Bool) → same_entry j c j₂ c₂ ≡ t → cond t x (f j₂ c₂) ≡ f j₂ c₂
    go true e = absurd (d (same_entry_lem j c j₂ c₂ e))
    go false e = refl

-- ---- the named entry alone

module _ (b : List ℕ) (h : legal b ≡ true) (bytes : Bytes b) where
  called_others : (a : Call) (j c : ℕ) → Other (sender_of (own_of b) a) (number_of a) j c → look (called b a).book j c ≡ look b j c
  called_others a j c d =
      ap (λ (f : PerEntry Entry). f j c) (called_stored b h bytes a).entries
      ∙ place_other (look b) (sender_of (own_of b) a) (number_of a) (step_of b a).entry j c d

  pub published_others : (number : ℕ) (v : Decl) (j c : ℕ) → Other (own_of b) number j c → look (published b number v).book j c ≡ look b j c
  unfolding published
  published_others number v j c d = rw h (called_others (publishing number v) j c d)

  -- the entry that a message names is what reading its bytes gives
  pub received_others : (p : ℕ) (message : List ℕ) (j c : ℕ)
      → ((m : Five) → (read_of message).five ≡ some m → Other m.sender m.number j c)
      → look (received b p message).book j c ≡ look b j c
  unfolding received
  received_others p message j c d = rw h (any (request_of message) (read_of message).five d)
    where
      asking : (m : Five) → Other m.sender m.number j c → (o : Option Kind)
          → look (answering b (asked_as p m.sender m.number (bytes_of m.declaration) o)).book j c ≡ look b j c
      asking m d none = refl
      asking m d (some k) = called_others (receiving p k m.sender m.number (bytes_of m.declaration)) j c d

      in_season : (m : Five) → Other m.sender m.number j c → (t : Bool)
          → look (cond t (answering b (asked p m)) (refusal 3 b)).book j c ≡ look b j c
      in_season m d true = asking m d (kind_of m.kind)
      in_season m d false = refl

      go : (x : Option Five) → ((m : Five) → x ≡ some m → Other m.sender m.number j c) → look (heard_from b p x).book j c ≡ look b j c
      go none d = refl
      go (some m) d = in_season m (d m refl) (eqb m.season (season_of b))

      any : (o : Option ℕ) (x : Option Five) → ((m : Five) → x ≡ some m → Other m.sender m.number j c)
          → look (heard_any b p o x).book j c ≡ look b j c
      any none x d = go x d
      any (some season) x d = ap (λ (f : PerEntry Entry). f j c) (requested_entries b h bytes p season)

  -- the header and the help stay
  abbrev Stay : Result → Type 0
  Stay r = (header_of r.book ≡ header_of b) × (help_of r.book ≡ help_of b)

  stays : (n : ℕ) → Stay (refusal n b)
  stays n = (refl, refl)

  called_header : (a : Call) → Stay (called b a)
  called_header a = ((called_stored b h bytes a).header, (called_stored b h bytes a).help)

  pub published_header : (number : ℕ) (v : Decl) → Stay (published b number v)
  unfolding published
  published_header number v = rw h (called_header (publishing number v))

  pub received_header : (p : ℕ) (message : List ℕ) → is_request message ≡ false → Stay (received b p message)
  unfolding received
  received_header p message t = rw (h, no_request message t) (go (read_of message).five)
    where
      asking : (x : Option Call) → Stay (answering b x)
      asking none = stays 2
      asking (some a) = called_header a

      in_season : (m : Five) (t : Bool) → Stay (cond t (answering b (asked p m)) (refusal 3 b))
      in_season m true = asking (asked p m)
      in_season m false = stays 3

      go : (x : Option Five) → Stay (heard_from b p x)
      go none = stays 2
      go (some m) = in_season m (eqb m.season (season_of b))

  pub request_others : (p : ℕ) (message : List ℕ) → is_request message ≡ true → look (received b p message).book ≡ look b
  unfolding received
  request_others p message t = rw (h, request_names message t) (requested_entries b h bytes p (word_at message 7))

-- ---- two books that agree on the header and on one entry

module _ (b d : List ℕ) (hb : legal b ≡ true) (hd : legal d ≡ true) (bb : Bytes b) (bd : Bytes d) (same : header_of b ≡ header_of d) where
  step_same : (a : Call) → look b (sender_of (own_of b) a) (number_of a) ≡ look d (sender_of (own_of b) a) (number_of a)
      → step_of b a ≡ step_of d a
  unfolding step_of meant
  step_same a e =
      (alone (rules_by (header_of b)) (numbers_of b) (own_of b) a).same (look b) (look d) e
      ∙ ap (λ (h : Header). outcome (rules_by h) h.numbers h.own a (look d)) same

  called_same : (a : Call) → look b (sender_of (own_of b) a) (number_of a) ≡ look d (sender_of (own_of b) a) (number_of a)
      → Alike (called b a) (called d a) (sender_of (own_of b) a) (number_of a)
  called_same a e =
      let o = step_same a e in
      let c = number_of a in
      let own = agree_own b d same in
      let season = agree_season b d same in
      record {
        given =
            called_given b hb bb a
            ∙ (λ i. handed (o i).answer (letters (season i) (sender_of (own i) a) c (o i).message) (o i).delivery)
            ∙ sym (called_given d hd bd a);
        entry =
            stored_entry b (sender_of (own_of b) a) c (called b a).book (step_of b a).entry (called_stored b hb bb a)
            ∙ ap (λ (x : Out). x.entry) o
            ∙ sym (stored_entry d (sender_of (own_of d) a) c (called d a).book (step_of d a).entry (called_stored d hd bd a))
            ∙ ap (λ (x : ℕ). look (called d a).book (sender_of x a) c) (sym own);
      }

  pub published_same : (c : ℕ) (v : Decl) → look b (own_of b) c ≡ look d (own_of b) c
      → Alike (published b c v) (published d c v) (own_of b) c
  unfolding published
  published_same c v e = rw (hb, hd) (called_same (publishing c v) e)

  pub received_same : (p : ℕ) (message : List ℕ) (j c : ℕ) → is_request message ≡ false
      → ((m : Five) → (read_of message).five ≡ some m → (m.sender ≡ j) × (m.number ≡ c))
      → look b j c ≡ look d j c → Alike (received b p message) (received d p message) j c
  unfolding received
  received_same p message j c t names e = rw (hb, hd, no_request message t) (go (read_of message).five names)
    where
      asking : (m : Five) → m.sender ≡ j → m.number ≡ c → (o : Option Kind)
          → Alike (answering b (asked_as p m.sender m.number (bytes_of m.declaration) o))
          (answering d (asked_as p m.sender m.number (bytes_of m.declaration) o)) j c
      asking m x y none = record { given = refl; entry = e }
      asking m x y (some k) =
          let a : Call = receiving p k m.sender m.number (bytes_of m.declaration) in
          subst₂ (λ (j c : ℕ). Alike (called b a) (called d a) j c) x y (called_same a (rw (x, y) e))

      in_season : (m : Five) → m.sender ≡ j → m.number ≡ c → (t : Bool)
          → Alike (cond t (answering b (asked p m)) (refusal 3 b)) (cond t (answering d (asked p m)) (refusal 3 d)) j c
      in_season m x y true = asking m x y (kind_of m.kind)
      in_season m x y false = record { given = refl; entry = e }

      go : (x : Option Five) → ((m : Five) → x ≡ some m → (m.sender ≡ j) × (m.number ≡ c)) → Alike (heard_from b p x) (heard_from d p x) j c
      go none f = record { given = refl; entry = e }
      go (some m) f =
          let names = f m refl in
          subst (λ (x : ℕ). Alike (heard_from b p (some m)) (cond (eqb m.season x) (answering d (asked p m)) (refusal 3 d)) j c)
          (agree_season b d same) (in_season m names.0 names.1 (eqb m.season (season_of b)))

pub between : Between
between =
    record {
      published_others = λ b L. published_others b L.legal L.bytes;
      received_others = λ b L. received_others b L.legal L.bytes;
      published_header = λ b L. published_header b L.legal L.bytes;
      received_header = λ b L. received_header b L.legal L.bytes;
      published_same = λ b d L M. published_same b d L.legal M.legal L.bytes M.bytes;
      received_same = λ b d L M. received_same b d L.legal M.legal L.bytes M.bytes;
      request_others = λ b L. request_others b L.legal L.bytes;
    }
