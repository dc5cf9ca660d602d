-- 13 is given for nothing but a conflict: each other way through receiving's tests has another answer.
use Prim.Native.Nat.{ℕ, ◌<◌}
use mathlib.Core.Path.{◌≡◌, refl, sym, ◌∙◌}
use mathlib.Core.Bool.{true, false}
use mathlib.Core.List.{List}
use mathlib.Core.Logic.{inl, inr}
use mathlib.Core.Option.{Option, none, some}
use native.Mathlib.Decide.{dec_lt, ℕ_discrete}
use native.Mathlib.Omega.{arith}
use lib.Dec.{eqb}
use borrow.Author.Tests.{eqb-false}
use Rattle.lot.specs.Declaration.{bytes_of}
use Rattle.message.specs.Message.{Five, read_as, malformed, read_of, well_formed, five_at, request_of}
use Rattle.message.proofs.RoundTrip.{read_known}
use Rattle.entry.specs.Entry.{Decl, Kind, heard}
use Rattle.entry.proofs.Basics.{bcase}
use Rattle.meaning.specs.Book.{n_of, numbers_of, season_of, limit_of, helped_of, look, sheet_of}
use Rattle.meaning.specs.Legal.{legal}
use Rattle.calls.specs.Entered.{ok_by, kind_of}
use Rattle.calls.specs.Call.{received}
use Rattle.calls.specs.Answers.{Reads, Inside, Plausible, Conflict, Receiving}
use Rattle.calls.proofs.KindNumber.{kind_known}
use Rattle.calls.proofs.Ordered.{receiving_ordered}

-- what reading gives
read_either : (message : List ℕ) {C : Type 0} → (read_of message ≡ malformed → C) → ((m : Five) → read_of message ≡ read_as m → C) → C
unfolding read_of
read_either message f g = bcase (well_formed message) (λ t. g (five_at message) (rw t)) (λ t. f (rw t))

module _ (b : List ℕ) (p : ℕ) (message : List ℕ) (told : (received b p message).given.answer ≡ 13) where
  ordered : Receiving b p message
  ordered = receiving_ordered b p message

  -- another answer is none
  not_told : {C : Type 0} (n : ℕ) → (received b p message).given.answer ≡ n → eqb n 13 ≡ false → C
  not_told n e f = absurd (eqb-false n 13 f (sym e ∙ told))

  no_request : legal b ≡ true → (season : ℕ) → request_of message ≡ some season → ⊥
  no_request h season q = go (ℕ_discrete season (season_of b))
    where
      mine : request_of message ≡ some (season_of b) → ⊥
      mine q = go (dec_lt p (n_of b)) (dec_lt (helped_of b p) (limit_of b))
        where
          go : Dec (p < n_of b) → Dec (helped_of b p < limit_of b) → ⊥
          go (no l) d = not_told 4 (ordered.request_missing h q (omega arith)) refl
          go (yes l) (no i) = not_told 14 (ordered.request_enough h q l (omega arith)) refl
          go (yes l) (yes i) = not_told 0 (ordered.request_accepted h q l i) refl

      go : Dec (season ≡ season_of b) → ⊥
      go (no f) = not_told 3 (ordered.request_other_season h season q f) refl
      go (yes e) = mine (rw e at q)

  module _ (m : Five) (R : Reads b message m) where
    abbrev v : Decl
    v = bytes_of m.declaration

    inside : Inside b p m
    inside = go (dec_lt m.sender (n_of b)) (dec_lt m.number (numbers_of b)) (dec_lt p (n_of b))
      where
        go : Dec (m.sender < n_of b) → Dec (m.number < numbers_of b) → Dec (p < n_of b) → Inside b p m
        go (no f) d e = not_told 4 (ordered.missing m R (inl (omega arith))) refl
        go (yes l) (no f) e = not_told 4 (ordered.missing m R (inr (inl (omega arith)))) refl
        go (yes l) (yes i) (no f) = not_told 4 (ordered.missing m R (inr (inr (omega arith)))) refl
        go (yes l) (yes i) (yes k) = record { sender = l; number = i; house = k }

    plausible : Plausible b p m
    plausible =
        bcase (ok_by (sheet_of b) v) (λ t. record { inside = inside; plausible = t })
        (λ f. not_told 5 (ordered.not_plausible m R inside f) refl)

    from : m.kind ≡ 1 → p ≡ m.sender
    from e = go (ℕ_discrete p m.sender)
      where
        go : Dec (p ≡ m.sender) → p ≡ m.sender
        go (yes q) = q
        go (no f) = not_told 6 (ordered.not_sender m R plausible e f) refl

    conflicts : Conflict b p m
    conflicts =
        let k = kind_known m.kind (read_known message m R.reads) in
        go k.0 k.1 (heard k.0 p (look b m.sender m.number)) refl
      where
        go : (k : Kind) → kind_of m.kind ≡ some k → (o : Option Decl) → heard k p (look b m.sender m.number) ≡ o → Conflict b p m
        go k e none h = not_told 0 (ordered.accepted m R plausible from k e h) refl
        go k e (some w) h =
            record {
              plausible = plausible;
              from = from;
              kind = k;
              kind_is = e;
              stands = w;
              heard = h;
              other = λ q. not_told 7 (ordered.repeat m R plausible from k e (h ∙ rw q)) refl;
            }

  pub conflict_only : (m : Five) × Reads b message m × Conflict b p m
  conflict_only =
      bcase (legal b) (λ h. asked h (request_of message) refl) (λ f. not_told 1 (ordered.no_book f) refl)
    where
      reads : legal b ≡ true → (m : Five) → read_of message ≡ read_as m → (m : Five) × Reads b message m × Conflict b p m
      reads h m r = go (ℕ_discrete m.season (season_of b))
        where
          go : Dec (m.season ≡ season_of b) → (m : Five) × Reads b message m × Conflict b p m
          go (no f) = not_told 3 (ordered.other_season h m r f) refl
          go (yes e) = let R : Reads b message m = record { legal = h; reads = r; season = e } in (m, R, conflicts m R)

      asked : legal b ≡ true → (q : Option ℕ) → request_of message ≡ q → (m : Five) × Reads b message m × Conflict b p m
      asked h none q =
          read_either message (λ r. not_told 2 (ordered.malformed h q r) refl) (reads h)
      asked h (some season) q = absurd (no_request h season q)
