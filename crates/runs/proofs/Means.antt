-- What is read off a run at the bytes is read off the protocol's run that it means, which has entries in place of bytes and so computes in
-- a hundredth of the time.
use Prim.Native.Nat.{ℕ, ◌<◌}
use mathlib.Core.Path.{◌≡◌, refl, sym, ap, ◌∙◌}
use mathlib.Core.Bool.{true}
use mathlib.Core.List.{List}
use lib.Dec.{T, ltb}
use borrow.Author.Tests.{lt-ltb}
use native.Mathlib.Omega.{arith}
use Rattle.card.specs.Card.{fitting, quorum, amplify, deliver}
use Rattle.lot.specs.Declaration.{declaration_at, bytes_of}
use Rattle.sheet.specs.Sheet.{plausible}
use Rattle.sheet.specs.Kept.{sheet_at}
use Rattle.message.specs.Message.{wire, read_of, request_of}
use Rattle.entry.specs.Entry.{Decl, Kind, SEND, ECHO, READY, Entry, heard, same}
use Rattle.protocol.specs.Steps.{publishes, takes_send, takes_echo, takes_ready, recording, receive, publish}
use Rattle.protocol.specs.Book.{Book, receiving, outcome, after}
use Rattle.protocol.specs.Run as protocol
use Rattle.protocol.specs.Thresholds.{wall_of}
use Rattle.meaning.specs.Layout.{heard_slot}
use Rattle.meaning.specs.Book.{n_of, numbers_of, helped_of, slot_in, entry_of, look}
use Rattle.meaning.specs.Legal.{IsDecl}
use Rattle.calls.specs.Entered.{ok_by, kind_number, wired, letter}
use Rattle.calls.specs.Call.{received}
use Rattle.season.specs.Run.{Houses, is_honest, Open, State, Step, copy_to, start, run}
use Rattle.season.proofs.Mail.{read_letter}
use Rattle.season.proofs.Copies.{copy_answered}
use Rattle.runs.specs.Sample.{says}
use Rattle.season.proofs.Calls.{wall, n_is, numbers_is, Means}
use Rattle.season.proofs.Steps.{steps_of, season_means}

-- the protocol's state at the end of the run that these steps mean; with this unfolded it computes
unfoldable pub end_of : Houses → List Step → protocol.State
unfolding wall_of fitting quorum amplify deliver ok_by plausible bytes_of sheet_at wire read_of request_of protocol.run protocol.step
    protocol.called protocol.consumes outcome after publish publishes receive recording takes_send takes_echo takes_ready same
end_of H l = protocol.run (wall H) (steps_of H l) protocol.start

means : (H : Houses) → Open H → (l : List Step) → Means H (run H l (start H)) (end_of H l)
unfolding end_of
means H O l = season_means H O l

-- what is read off the run at the bytes, where the same is read off the protocol's
pub read_off : {A : Type 0} (H : Houses) → Open H → (l : List Step) (seen : State → A) (told : protocol.State → A)
    → ((s : State) (z : protocol.State) → Means H s z → seen s ≡ told z) → (met : A) → told (end_of H l) ≡ met
    → seen (run H l (start H)) ≡ met
read_off H O l seen told same met e = same (run H l (start H)) (end_of H l) (means H O l) ∙ e

module _ (H : Houses) (s : State) (z : protocol.State) (M : Means H s z) (r : ℕ) (honest : T (is_honest H r)) where
  abbrev b : List ℕ
  b = s.gave.books r

  below : (i : ℕ) → i < H.n → ltb i (n_of b) ≡ true
  below i l = lt-ltb i (n_of b) (omega (arith, n_is H r b (M.gave.books r honest), l))

  -- how often house r helped asker p
  pub helped_is : (p : ℕ) → helped_of b p ≡ z.power.helped r p
  helped_is p = sym (ap (λ (f : ℕ → ℕ). f p) (M.gave.helped r honest))

  module _ (j c : ℕ) (lj : j < H.n) (lc : c < H.numbers) where
    numbered : ltb c (numbers_of b) ≡ true
    numbered = lt-ltb c (numbers_of b) (omega (arith, numbers_is H r b (M.gave.books r honest), lc))

    entry_is : entry_of b j c ≡ z.gave.books r j c
    unfolding look
    entry_is = rw (below j lj, numbered) at (sym (ap (λ (E : Book). E j c) (M.gave.entries r honest)))

    -- what house r heard of a kind from house p
    pub heard_is : (k : Kind) (p : ℕ) → p < H.n → slot_in b j c (heard_slot H.n k p) ≡ heard k p (z.gave.books r j c)
    unfolding entry_of
    heard_is SEND p l = ap (λ (e : Entry). e.send) entry_is
    heard_is ECHO p l = rw (below p l) at (ap (λ (e : Entry). e.echo p) entry_is)
    heard_is READY p l =
        rw (← n_is H r b (M.gave.books r honest)) (rw (below p l) at (ap (λ (e : Entry). e.ready p) entry_is))

-- what house r answers to house p's message of the kind on house 0's entry
abbrev pub told_answer : Houses → protocol.State → (house from : ℕ) → Kind → Decl → ℕ
told_answer H z r p k v = (outcome (wall H).rules (wall H).numbers r (receiving p k 0 0 v) (z.gave.books r)).answer

pub answered : (H : Houses) (s : State) (z : protocol.State) → Means H s z → (r p : ℕ) (k : Kind) (v : Decl) → IsDecl v → T (is_honest H r)
    → 2026 ≡ H.season → (received (s.gave.books r) p (says (kind_number k) v)).given.answer ≡ told_answer H z r p k v
unfolding letter
answered H s z M r p k v d honest e =
    copy_answered H s z M (copy_to p (says (kind_number k) v) r) (protocol.copy_to 0 0 p k v r)
    (record {
      from = refl;
      to = refl;
      consumed = refl;
      read = ap (λ (season : ℕ). (read_of (wired (kind_number k) season 0 0 (declaration_at v 0))).five) e ∙ read_letter H.season 0 0 k v;
      message = ap (λ (season : ℕ). wired (kind_number k) season 0 0 (declaration_at v 0)) e;
      decl = d;
    })
    honest
