-- The run of four houses with a liar: the premises of the claims are met, and without the help nobody delivers.
use mathlib.Core.Path.{◌≡◌, refl, sym, ap, subst}
use mathlib.Core.List.{List, [], ◌∷◌}
use Prim.Native.Nat.{ℕ, ◌≤◌}
use lib.Dec.{eqb, ltb, lit<, lit≤}
use Rattle.card.specs.Card.{tolerated, fitting, down_ok, most_down}
use Rattle.card.specs.Card as card
use Rattle.entry.specs.Entry.{ECHO}
use Rattle.protocol.specs.Run as protocol
use Rattle.meaning.specs.Layout.{most_limit}
use Rattle.season.specs.Run.{State, Open}
use Rattle.season.proofs.Calls.{Means}
use Rattle.runs.specs.Sample.{sample}
use Rattle.runs.specs.Counts.{counts}
use Rattle.runs.specs.Liar.{houses, steps, end, unasked, unhelped, delivered, Seen, seen, met, Met}
use Rattle.runs.proofs.Sample.{sample_open}
use Rattle.runs.proofs.Means.{end_of, read_off, helped_is, heard_is}
use Rattle.runs.proofs.Counts.{told_counts, counts_told, drained_by, limited_by, one_of, down_is}

opened : Open houses
unfolding houses sample fitting tolerated card.houses_ok down_ok most_down most_limit
opened = sample_open 4 0 1 (λ p. ltb p 3) refl refl refl

-- what is read off the protocol's state
abbrev told_deliveries : protocol.State → List (List (List ℕ))
told_deliveries z = z.gave.deliveries 0 0 0 ∷ z.gave.deliveries 1 0 0 ∷ z.gave.deliveries 2 0 0 ∷ []

abbrev told : protocol.State → Seen
told z =
    record {
      deliveries = told_deliveries z;
      counts = told_counts houses z;
      heard = (z.gave.books 2 0 0).echo 3;
      liar = z.power.helped 0 3;
      back = z.power.helped 0 1;
    }

module _ (s : State) (z : protocol.State) (M : Means houses s z) where
  deliveries_told : delivered s ≡ told_deliveries z
  deliveries_told = λ i. let d = sym M.gave.deliveries i in d 0 0 0 ∷ d 1 0 0 ∷ d 2 0 0 ∷ []

  seen_told : seen s ≡ told z
  unfolding seen houses sample
  seen_told =
      λ i.
      record {
        deliveries = deliveries_told i;
        counts = counts_told houses s z M i;
        heard = heard_is houses s z M 2 tt 0 0 (lit< tt) (lit< tt) ECHO 3 (lit< tt) i;
        liar = helped_is houses s z M 0 tt 3 i;
        back = helped_is houses s z M 0 tt 1 i;
      }

-- the protocol's runs, computed
computed : seen end ≡ met
unfolding end houses steps end_of
computed = read_off houses opened steps seen told seen_told met refl

unhelped_nothing : delivered unhelped ≡ [] ∷ [] ∷ [] ∷ []
unfolding unhelped houses unasked end_of
unhelped_nothing = read_off houses opened unasked delivered told_deliveries deliveries_told ([] ∷ [] ∷ [] ∷ []) refl

pub liar : Met
unfolding houses sample seen fitting tolerated
liar =
    let counted : counts houses end ≡ met.counts = ap (λ (x : Seen). x.counts) computed in
    record {
      computed = computed;
      opened = opened;
      few = lit≤ tt;
      limited = limited_by houses end _ counted (λ r. one_of (eqb r 1));
      low = subst (λ (x : ℕ). x ≤ 0) (sym (down_is houses end _ counted)) (lit≤ tt);
      drained = drained_by houses end _ counted refl refl;
      alone = unhelped_nothing;
    }
