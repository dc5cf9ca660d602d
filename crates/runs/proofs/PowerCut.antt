-- The run of three houses: the premises of the claims can be met, and so what they claim comes of it.
use mathlib.Core.Path.{◌≡◌, refl, sym, ap, subst}
use mathlib.Core.Bool.{true}
use Prim.Native.Nat.{ℕ, ◌≤◌}
use lib.Dec.{eqb, lit<, lit≤}
use Rattle.card.specs.Card.{tolerated, fitting, down_ok, most_down}
use Rattle.card.specs.Card as card
use Rattle.protocol.specs.Run as protocol
use Rattle.meaning.specs.Layout.{most_limit}
use Rattle.season.specs.Run.{Open, State}
use Rattle.season.specs.Claims.{Everywhere}
use Rattle.season.proofs.Calls.{Means}
use Rattle.season.proofs.Season.{claims}
use Rattle.runs.specs.Sample.{sample, lot}
use Rattle.runs.specs.Counts.{counts}
use Rattle.runs.specs.PowerCut.{houses, steps, end, Seen, seen, met, Met}
use Rattle.runs.proofs.Sample.{sample_open}
use Rattle.runs.proofs.Means.{end_of, read_off, helped_is}
use Rattle.runs.proofs.Counts.{told_counts, counts_told, drained_by, limited_by, one_of, down_is}

opened : Open houses
unfolding houses sample fitting tolerated card.houses_ok down_ok most_down most_limit
opened = sample_open 3 1 1 (λ p. true) refl refl refl

-- what is read off the protocol's state
abbrev told : protocol.State → Seen
told z =
    record {
      publications = z.gave.publications 0 0 0;
      deliveries = z.gave.deliveries 2 0 0;
      nothing = z.gave.deliveries 1 0 0;
      counts = told_counts houses z;
      helped = z.power.helped 0 2;
    }

seen_told : (s : State) (z : protocol.State) → Means houses s z → seen s ≡ told z
unfolding seen houses sample
seen_told s z M =
    λ i.
    record {
      publications = sym M.gave.publications i 0 0 0;
      deliveries = sym M.gave.deliveries i 2 0 0;
      nothing = sym M.gave.deliveries i 1 0 0;
      counts = counts_told houses s z M i;
      helped = helped_is houses s z M 0 tt 2 i;
    }

-- the protocol's run, computed
computed : seen end ≡ met
unfolding end houses steps end_of
computed = read_off houses opened steps seen told seen_told met refl

pub example : Met
unfolding houses sample seen fitting tolerated
example =
    let counted : counts houses end ≡ met.counts = ap (λ (x : Seen). x.counts) computed in
    record {
      computed = computed;
      opened = opened;
      few = lit≤ tt;
      limited = limited_by houses end _ counted (λ r. one_of (eqb r 2));
      low = subst (λ (x : ℕ). x ≤ 1) (sym (down_is houses end _ counted)) (lit≤ tt);
      published = ap (λ (x : Seen). x.publications) computed;
      drained = drained_by houses end _ counted refl refl;
      delivered = ap (λ (x : Seen). x.deliveries) computed;
    }

pub everywhere : Everywhere houses 0 0 end lot
unfolding end houses
everywhere =
    ((claims houses example.opened steps 0 0 (lit< tt) (lit< tt)).complete example.few example.limited example.low
    example.drained
    ).all 2 lot tt example.delivered
