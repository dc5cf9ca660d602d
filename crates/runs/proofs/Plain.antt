-- The run with d = 0: the premises of 01's exact counts can be met, and so what they claim comes of it.
use mathlib.Core.Path.{◌≡◌, refl, sym, ap}
use mathlib.Core.Bool.{not, ◌&&◌}
use Prim.Native.Nat.{◌≤◌}
use lib.Dec.{ltb, lit<, lit≤}
use Rattle.card.specs.Card.{tolerated, fitting, down_ok, most_down}
use Rattle.card.specs.Card as card
use Rattle.entry.specs.Entry.{ECHO, READY}
use Rattle.protocol.specs.Run as protocol
use Rattle.meaning.specs.Layout.{most_limit}
use Rattle.calls.specs.Entered.{is_decl}
use Rattle.calls.proofs.Fits.{is_decl_lem}
use Rattle.season.specs.Run.{Open, State, copies, readies}
use Rattle.season.specs.Claims.{Exact}
use Rattle.season.proofs.Calls.{wall, Means}
use Rattle.season.proofs.Season.{between_counted, unconsumed_counted, claims}
use Rattle.runs.specs.Plain.{houses, steps, end, Seen, seen, met, Met}
use Rattle.runs.specs.Sample.{sample, lot, lie}
use Rattle.runs.specs.Counts.{counts}
use Rattle.runs.proofs.Sample.{sample_open}
use Rattle.runs.proofs.Means.{end_of, read_off, heard_is, told_answer, answered}
use Rattle.runs.proofs.Counts.{told_counts, counts_told, limited_by, down_is}

opened : Open houses
unfolding houses sample fitting tolerated card.houses_ok down_ok most_down most_limit
opened = sample_open 4 0 0 (λ p. ltb p 3) refl refl refl

-- what is read off the protocol's state
abbrev told : protocol.State → Seen
told z =
    record {
      publications = z.gave.publications 0 0 0;
      deliveries = z.gave.deliveries 2 0 0;
      between = protocol.between (wall houses) 0 0 z;
      left = protocol.copies_of 0 0 (λ m. protocol.is_between (wall houses) m && not m.consumed) z.mail;
      counts = told_counts houses z;
      first_echo = (z.gave.books 1 0 0).echo 3;
      other_echo = (z.gave.books 2 0 0).echo 3;
      forged = (z.gave.books 2 0 0).ready 3;
      honest = (z.gave.books 2 0 0).ready 1;
      again = told_answer houses z 1 3 ECHO lie;
      otherwise = told_answer houses z 1 3 ECHO lot;
      carried = told_answer houses z 1 0 ECHO lot;
    }

seen_told : (s : State) (z : protocol.State) → Means houses s z → seen s ≡ told z
unfolding seen houses sample is_decl
seen_told s z M =
    λ i.
    record {
      publications = sym M.gave.publications i 0 0 0;
      deliveries = sym M.gave.deliveries i 2 0 0;
      between = between_counted houses s z M 0 0 i;
      left = unconsumed_counted houses s z M 0 0 i;
      counts = counts_told houses s z M i;
      first_echo = heard_is houses s z M 1 tt 0 0 (lit< tt) (lit< tt) ECHO 3 (lit< tt) i;
      other_echo = heard_is houses s z M 2 tt 0 0 (lit< tt) (lit< tt) ECHO 3 (lit< tt) i;
      forged = heard_is houses s z M 2 tt 0 0 (lit< tt) (lit< tt) READY 3 (lit< tt) i;
      honest = heard_is houses s z M 2 tt 0 0 (lit< tt) (lit< tt) READY 1 (lit< tt) i;
      again = answered houses s z M 1 3 ECHO lie (is_decl_lem lie refl) tt refl i;
      otherwise = answered houses s z M 1 3 ECHO lot (is_decl_lem lot refl) tt refl i;
      carried = answered houses s z M 1 0 ECHO lot (is_decl_lem lot refl) tt refl i;
    }

-- the protocol's run, computed
computed : seen end ≡ met
unfolding end houses steps end_of
computed = read_off houses opened steps seen told seen_told met refl

pub plain : Met
unfolding houses sample seen fitting tolerated
plain =
    let counted : counts houses end ≡ met.counts = ap (λ (x : Seen). x.counts) computed in
    record {
      computed = computed;
      opened = opened;
      few = lit≤ tt;
      still = refl;
      limited = limited_by houses end _ counted (λ r. lit≤ tt);
      high = down_is houses end _ counted;
      published = ap (λ (x : Seen). x.publications) computed;
      consumed = ap (λ (x : Seen). x.left) computed;
      delivered = ap (λ (x : Seen). x.deliveries) computed;
    }

-- what the claims say of it
exactly : Exact houses 0 0 end
unfolding end
exactly =
    (claims houses plain.opened steps 0 0 (lit< tt) (lit< tt)).exact plain.few plain.still plain.limited plain.high

-- n + 2hn copies and hn READYs, h being 3
pub cost_is : copies 0 0 end ≡ 28
unfolding houses
cost_is = exactly.cost (exactly.drained plain.consumed) tt lot plain.published

pub readies_are : readies 0 0 end ≡ 12
unfolding houses
readies_are = exactly.all_readies (exactly.drained plain.consumed) 2 lot tt plain.delivered
