-- What is read off a season's end is read off the protocol's run that it means; and what the claims ask of that end.
use Prim.Native.Nat.{ℕ, ◌≤◌}
use mathlib.Core.Path.{◌≡◌, sym, ap, subst}
use mathlib.Core.Bool.{Bool, true, false, cond, not, ◌&&◌}
use native.Mathlib.Omega.{arith}
use Rattle.entry.specs.Lists.{tally}
use Rattle.protocol.specs.Run as protocol
use Rattle.protocol.specs.Thresholds as thresholds
use Rattle.season.specs.Run.{Houses, State, Drained, Limited, downs}
use Rattle.season.proofs.Calls.{wall, Means}
use Rattle.season.proofs.Season.{downs_same, copies_same, copies_left, requests_left}
use Rattle.runs.specs.Counts.{Counts, counts}

abbrev pub told_counts : Houses → protocol.State → Counts
told_counts H z =
    record {
      copies = protocol.copies 0 0 z;
      left = protocol.copies_of 0 0 (λ m. protocol.up_copy (wall H) z m && not m.consumed) z.mail;
      requests = tally (λ m. protocol.up_request (wall H) z m && not m.consumed) z.power.requests;
      down = thresholds.downs (wall H) z;
      returned = z.power.returned;
    }

pub counts_told : (H : Houses) (s : State) (z : protocol.State) → Means H s z → counts H s ≡ told_counts H z
unfolding counts
counts_told H s z M =
    λ i.
    record {
      copies = copies_same H s z M 0 0 i;
      left = copies_left H s z M 0 0 i;
      requests = requests_left H s z M 0 0 i;
      down = sym (downs_same H s z M) i;
      returned = sym M.returned i;
    }

-- one house returned once
pub one_of : (b : Bool) → cond b 1 0 ≤ 1
one_of true = omega arith
one_of false = omega arith

module _ (H : Houses) (s : State) (c : Counts) (e : counts H s ≡ c) where
  pub drained_by : c.left ≡ 0 → c.requests ≡ 0 → Drained H 0 0 s
  unfolding counts
  drained_by copies requests =
      record {
        copies = subst (λ (x : Counts). x.left ≡ 0) (sym e) copies;
        requests = subst (λ (x : Counts). x.requests ≡ 0) (sym e) requests;
      }

  pub limited_by : ((r : ℕ) → c.returned r ≤ H.limit) → Limited H s
  unfolding counts
  limited_by few r t = subst (λ (x : Counts). x.returned r ≤ H.limit) (sym e) (few r)

  pub down_is : downs H s ≡ c.down
  unfolding counts
  down_is = ap (λ (x : Counts). x.down) e
