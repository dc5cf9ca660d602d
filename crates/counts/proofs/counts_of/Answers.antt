-- The counts are those of the card's column for n - 2f, and f more.
use Prim.Native.Nat.{ℕ, ◌+◌, ◌*◌, ◌-◌, ◌<◌}
use mathlib.Core.Path.{◌≡◌, ap, sym, ◌∙◌}
use mathlib.Core.Bool.{true}
use native.Mathlib.Omega.{arith}
use Rattle.card.specs.declared.Column.{Column}
use Rattle.card.specs.Card.{most_down, houses_ok, down_ok, tolerated, fitting, quorum, amplify, deliver, column_of, counts_of}
use Rattle.card.proofs.Wall.{houses_byte, down_between, rest_houses, tolerated_byte}
use Rattle.card.proofs.Overlap.{quorum_down}
use Rattle.counts.proofs.counts_of.Goals as goal

-- what is known of the column
module _ (n f : ℕ) (pre : (houses_ok n ≡ true) × (down_ok n f ≡ true)) (x : Column) (e : x ≡ column_of (n - 2 * f)) where
  pub column_t : x.t < 256
  unfolding column_of
  column_t = omega (arith, ap (λ (x : Column). x.t) e, tolerated_byte (n - 2 * f) (rest_houses n f pre.0 pre.1))

  pub column_quorum : x.quorum + f ≡ quorum n (fitting n f)
  unfolding column_of fitting
  column_quorum =
      ap (λ (x : Column). x.quorum + f) e ∙ sym (quorum_down n (tolerated (n - 2 * f)) f (down_between n f pre.1).1)

  pub column_room : x.quorum + f < 512
  unfolding quorum fitting tolerated
  column_room = omega (arith, column_quorum, houses_byte n pre.0)

pub overflow_mul-f : goal.overflow_mul-f
unfolding most_down
overflow_mul-f c = record { fits = omega (arith, (down_between _ _ c.requires.1).0) }

pub overflow_sub-n : goal.overflow_sub-n
overflow_sub-n c = omega (arith, (down_between _ _ c.requires.1).1)

pub column_of-column-requires : goal.column_of-column-requires
column_of-column-requires c = rest_houses _ _ c.requires.0 c.requires.1

pub overflow_add-result : goal.overflow_add-result
overflow_add-result c = record { fits = omega (arith, column_room _ _ c.requires _ c.column_of-column.ensures) }

pub overflow_add-result-2 : goal.overflow_add-result-2
overflow_add-result-2 c = record { fits = omega (arith, column_t _ _ c.requires _ c.column_of-column.ensures) }

pub overflow_mul-result : goal.overflow_mul-result
overflow_mul-result c = record { fits = omega (arith, column_t _ _ c.requires _ c.column_of-column.ensures) }

pub overflow_add-result-3 : goal.overflow_add-result-3
unfolding most_down
overflow_add-result-3 c =
    let p = c.requires in
    record { fits = omega (arith, column_t _ _ p _ c.column_of-column.ensures, (down_between _ _ p.1).0) }

pub overflow_add-result-4 : goal.overflow_add-result-4
unfolding most_down
overflow_add-result-4 c =
    let p = c.requires in
    record { fits = omega (arith, column_t _ _ p _ c.column_of-column.ensures, (down_between _ _ p.1).0) }

pub returns : goal.returns
unfolding column_of counts_of fitting amplify deliver
returns c =
    let e = c.column_of-column.ensures in
    let q = column_quorum _ _ c.requires _ e in
    λ i. record { t = (e i).t; quorum = q i; amplify = amplify (e i).t; deliver = deliver (e i).t c.args.f }
