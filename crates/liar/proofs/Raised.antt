-- The run of two liars among four houses: what it ends with is computed, and so each claim that asks for at most t wrong is false of it.
use Prim.Native.Nat.{ℕ, ◌≤◌}
use mathlib.Core.Path.{◌≡◌, refl, sym, ap, subst, ◌∙◌}
use mathlib.Core.Bool.{Bool, not, ◌&&◌}
use mathlib.Core.List.{List, [], ◌∷◌}
use native.Mathlib.Omega.{arith}
use lib.Dec.{T, lit<, lit≤}
use lib.ListN.{get_or}
use Rattle.card.specs.Card.{tolerated, fitting, down_ok, most_down}
use Rattle.card.specs.Card as card
use Rattle.protocol.specs.Run as protocol
use Rattle.meaning.specs.Layout.{most_limit}
use Rattle.season.specs.Run.{is_honest, is_up, Open, State, Step, downs, run}
use Rattle.season.specs.Claims.{Delivered, Published, consumption}
use Rattle.season.proofs.Calls.{wall, Means}
use Rattle.season.proofs.Season.{consumed_counted, claims}
use Rattle.runs.specs.Sample.{sample, lot, lie}
use Rattle.runs.specs.Counts.{counts}
use Rattle.runs.proofs.Sample.{sample_open}
use Rattle.runs.proofs.Means.{end_of, read_off}
use Rattle.runs.proofs.Counts.{told_counts, counts_told, drained_by, limited_by, down_is}
use Rattle.liar.specs.Raised.{honest, houses, steps, end, Seen, seen, met, Raised, NoMore}
use Rattle.liar.proofs.Unmoved.{up}
use Rattle.liar.proofs.Final.{final}
use Rattle.liar.proofs.Consumed.{consumption_down}

opened : Open houses
unfolding houses sample fitting tolerated card.houses_ok down_ok most_down most_limit
opened = sample_open 4 0 0 honest refl refl refl

-- what is read off the protocol's state
abbrev told : protocol.State → Seen
told z =
    record {
      publications = z.gave.publications 0 0 0;
      first = z.gave.deliveries 0 0 0;
      second = z.gave.deliveries 1 0 0;
      consumed = protocol.consumed_between (wall houses) 0 0 z;
      counts = told_counts houses z;
    }

seen_told : (s : State) (z : protocol.State) → Means houses s z → seen s ≡ told z
unfolding seen houses sample
seen_told s z M =
    λ i.
    record {
      publications = sym M.gave.publications i 0 0 0;
      first = sym M.gave.deliveries i 0 0 0;
      second = sym M.gave.deliveries i 1 0 0;
      consumed = consumed_counted houses s z M 0 0 i;
      counts = counts_told houses s z M i;
    }

-- the protocol's run, computed
computed : seen end ≡ met
unfolding end houses steps end_of
computed = read_off houses opened steps seen told seen_told met refl

counted : counts houses end ≡ met.counts
unfolding seen
counted = ap (λ (x : Seen). x.counts) computed

published : Published houses 0 0 end lot
unfolding seen
published = ap (λ (x : Seen). x.publications) computed

first : Delivered houses 0 0 end 0 lot
unfolding seen
first = ap (λ (x : Seen). x.first) computed

second : Delivered houses 0 0 end 1 lie
unfolding seen
second = ap (λ (x : Seen). x.second) computed

-- they differ in the last byte of the kilograms
different : lot ≡ lie → ⊥
different e = omega (arith, ap (λ (l : List ℕ). get_or l 11 0) e)

first_stays : (next : List Step) → Delivered houses 0 0 (run houses next end) 0 lot
unfolding end houses sample
first_stays next = final houses opened steps next 0 0 (lit< tt) (lit< tt) 0 lot tt first

second_stays : (next : List Step) → Delivered houses 0 0 (run houses next end) 1 lie
unfolding end houses sample
second_stays next = final houses opened steps next 0 0 (lit< tt) (lit< tt) 1 lie tt second

-- lists with one declaration each
abbrev only : List (List ℕ) → List ℕ
only [] = []
only (v ∷ l) = v

-- house 1 did not deliver the lot
not_lot : (s : State) → Delivered houses 0 0 s 1 lie → Delivered houses 0 0 s 1 lot → ⊥
not_lot s a b = different (ap only (sym b ∙ a))

none_down : downs houses end ≡ 0
none_down = down_is houses end _ counted

-- house 1 is up
other_up : T (is_up houses end 1)
unfolding houses sample
other_up = up houses end (omega (arith, none_down)) 1 tt

other_stays_up : (requests copies : List ℕ) → T (is_up houses (run houses (consumption requests copies) end) 1)
other_stays_up requests copies =
    subst (λ (f : ℕ → Bool). T (is_honest houses 1 && not (f 1))) (sym (consumption_down houses requests copies end)) other_up

pub raised : Raised
unfolding houses sample seen fitting tolerated
raised =
    record {
      computed = computed;
      opened = opened;
      one_more = refl;
      still = refl;
      limited = limited_by houses end _ counted (λ r. lit≤ tt);
      high = none_down;
      drained = drained_by houses end _ counted refl refl;
      first_honest = tt;
      second_honest = tt;
      published = published;
      first = first;
      second = second;
      different = different;
      first_stays = first_stays;
      second_stays = second_stays;
      not_agreed = λ A. different (A.agree 0 1 lot lie tt tt first second);
      not_complete = λ C. not_lot end second (C.all 0 lot tt first 1 other_up);
      not_deliverable = λ D.
          not_lot (run houses (consumption D.requests D.copies) end) (second_stays (consumption D.requests D.copies))
          (D.everywhere 1 (other_stays_up D.requests D.copies));
      not_exact = λ E. not_lot end second (E.by_count tt lot published (ap (λ (x : Seen). x.consumed) computed) 1 other_up);
    }

pub no_more : NoMore
unfolding end
no_more =
    record {
      at_most_t = λ H O l j c hj hc few. (claims H O l j c hj hc).agreed few;
      one_more = λ A. raised.not_agreed (A houses opened steps 0 0 (lit< tt) (lit< tt) (omega (arith, raised.one_more)));
    }
