-- A copy that an honest house sent, brought again: a house that heard it refuses it with 7. Consumed at a house that is up it is heard, and
-- what is heard stays heard.
use Prim.Native.Nat.{ℕ}
use mathlib.Core.Path.{◌≡◌, ap, ◌∙◌}
use mathlib.Core.Bool.{false, not, ◌&&◌}
use mathlib.Core.List.{List, ◌∷◌}
use mathlib.Core.Logic.{⊎_elim}
use mathlib.Core.Option.{some}
use lib.Dec.{T, ltb, ltb→lt}
use Rattle.entry.specs.Entry.{Entry, heard, same_entry}
use Rattle.entry.specs.Lists.{at}
use Rattle.entry.proofs.Basics.{true_of, false_of, not_of, and_l, and_r, and_mk, entry_refl, upd_same}
use Rattle.entry.proofs.Filled.{filled_heard}
use Rattle.protocol.specs.Steps.{refused, may}
use Rattle.protocol.specs.Book.{Book, outcome, after}
use Rattle.protocol.specs.Run.{n, Wall, Copy, State, Step, consume, is_honest, is_up, call_of, called, arrives, consumes, step, run}
use Rattle.protocol.proofs.Order.{receiving_ordered}
use Rattle.protocol.proofs.Slots.{run_fills}
use Rattle.protocol.proofs.Invariant.{Inv, true_copy}
use Rattle.protocol.proofs.Views.{view}
use Rattle.protocol.proofs.Consuming.{answers}

module _ (B : Wall) (s : State) (i : ℕ) (m : Copy) (at_i : at s.mail i ≡ some m)
    (I : Inv B m.sender m.number (view m.sender m.number s)) where
  -- what house m .to has on the copy's entry
  abbrev entry_of : State → Entry
  entry_of x = x.gave.books m.to m.sender m.number

  abbrev Heard : Entry → Type 0
  Heard e = heard m.kind m.from e ≡ some m.decl

  pub heard_repeat : (r : ℕ) (b : Book) → Heard (b m.sender m.number)
      → outcome B.rules B.numbers r (call_of m) b ≡ refused 7 (b m.sender m.number)
  heard_repeat r b h =
      let sent = true_copy B m.sender m.number (view m.sender m.number s) I i m at_i (entry_refl m.sender m.number) in
      let w = I.books.owner m.from m.kind m.decl sent in
      (receiving_ordered B.rules B.numbers r m.from m.kind m.sender m.number m.decl b).repeat
      (ltb→lt m.sender (n B) (and_l (ltb m.sender (n B)) _ w.3))
      (ltb→lt m.number B.numbers (and_r (ltb m.sender (n B)) _ w.3))
      (ltb→lt m.from (n B) (and_l (ltb m.from (n B)) _ w.0))
      (true_of (B.rules.ok m.decl) w.1) (true_of (may m.sender m.kind m.from) w.2) h

  module _ (up : T (is_up B s m.to)) (new : m.consumed ≡ false) where
    honest : T (is_honest B m.to)
    honest = and_l (is_honest B m.to) _ up

    consumed_heard : Heard (entry_of (step B (consume i) s))
    unfolding step consumes arrives called after
    consumed_heard =
        rw (
          at_i,
          true_of (is_honest B m.to && not m.consumed) (and_mk (is_honest B m.to) _ honest (not_of m.consumed new)),
          false_of (s.power.down m.to) (and_r (is_honest B m.to) _ up),
          upd_same s.gave.books m.to (after B.rules B.numbers m.to (call_of m) (s.gave.books m.to)),
          true_of (same_entry m.sender m.number m.sender m.number) (entry_refl m.sender m.number),
        )
        (⊎_elim (λ y. y.1) (λ y. ap (heard m.kind m.from) y.2 ∙ y.1) (answers B s i m at_i honest I))

    -- whatever steps come
    pub stays_heard : (l : List Step) → Heard (entry_of (run B (consume i ∷ l) s))
    unfolding run
    stays_heard l =
        filled_heard (run_fills B l (step B (consume i) s) m.to m.sender m.number) m.kind m.from m.decl consumed_heard
