-- The run with a lying sender: the premises of the claims are met, and so what they claim comes of it.
use mathlib.Core.Path.{◌≡◌, refl, sym, ap, subst}
use mathlib.Core.List.{List, [], ◌∷◌}
use Prim.Native.Nat.{ℕ, ◌≤◌}
use lib.Dec.{T, ltb, lit<, lit≤}
use Rattle.card.specs.Card.{tolerated, fitting, down_ok, most_down}
use Rattle.card.specs.Card as card
use Rattle.entry.specs.Entry.{SEND}
use Rattle.protocol.specs.Run as protocol
use Rattle.meaning.specs.Layout.{most_limit, send_slot}
use Rattle.meaning.specs.Book.{slot_in}
use Rattle.season.specs.Run.{is_honest, Open, State}
use Rattle.season.specs.Claims.{Everywhere}
use Rattle.season.proofs.Calls.{Means}
use Rattle.season.proofs.Season.{readies_counted, claims}
use Rattle.runs.specs.Sample.{sample, lot}
use Rattle.runs.specs.Counts.{counts}
use Rattle.runs.specs.Split.{houses, steps, end, Seen, seen, met, Met}
use Rattle.runs.proofs.Sample.{sample_open}
use Rattle.runs.proofs.Means.{end_of, read_off, heard_is}
use Rattle.runs.proofs.Counts.{told_counts, counts_told, drained_by, limited_by, down_is}

opened : Open houses
unfolding houses sample fitting tolerated card.houses_ok down_ok most_down most_limit
opened = sample_open 4 0 0 (λ p. ltb 0 p) refl refl refl

-- what is read off the protocol's state
abbrev told : protocol.State → Seen
told z =
    record {
      heard = (z.gave.books 1 0 0).send ∷ (z.gave.books 2 0 0).send ∷ (z.gave.books 3 0 0).send ∷ [];
      deliveries = z.gave.deliveries 1 0 0 ∷ z.gave.deliveries 2 0 0 ∷ z.gave.deliveries 3 0 0 ∷ [];
      readies = protocol.readies 0 0 z;
      counts = told_counts houses z;
    }

seen_told : (s : State) (z : protocol.State) → Means houses s z → seen s ≡ told z
unfolding seen houses sample
seen_told s z M =
    λ i.
    let d = sym M.gave.deliveries i in
    record {
      heard = send 1 tt i ∷ send 2 tt i ∷ send 3 tt i ∷ [];
      deliveries = d 1 0 0 ∷ d 2 0 0 ∷ d 3 0 0 ∷ [];
      readies = readies_counted houses s z M 0 0 i;
      counts = counts_told houses s z M i;
    }
  where
    send : (r : ℕ) → T (is_honest houses r) → slot_in (s.gave.books r) 0 0 send_slot ≡ (z.gave.books r 0 0).send
    send r t = heard_is houses s z M r t 0 0 (lit< tt) (lit< tt) SEND 0 (lit< tt)

-- the protocol's run, computed
computed : seen end ≡ met
unfolding end houses steps end_of
computed = read_off houses opened steps seen told seen_told met refl

abbrev first : List (List (List ℕ)) → List (List ℕ)
first [] = []
first (x ∷ l) = x

pub split : Met
unfolding houses sample seen fitting tolerated
split =
    let counted : counts houses end ≡ met.counts = ap (λ (x : Seen). x.counts) computed in
    record {
      computed = computed;
      opened = opened;
      few = lit≤ tt;
      limited = limited_by houses end _ counted (λ r. lit≤ tt);
      low = subst (λ (x : ℕ). x ≤ 0) (sym (down_is houses end _ counted)) (lit≤ tt);
      drained = drained_by houses end _ counted refl refl;
      delivered = ap (λ (x : Seen). first x.deliveries) computed;
    }

-- house 3 heard the lie and delivers the lot, by the claims too: house 1 did
pub followed : Everywhere houses 0 0 end lot
unfolding end houses
followed =
    ((claims houses split.opened steps 0 0 (lit< tt) (lit< tt)).complete split.few split.limited split.low split.drained
    ).all 1 lot tt split.delivered
