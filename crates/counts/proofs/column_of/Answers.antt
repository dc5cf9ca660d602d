-- The card's column at n - 1 is the column of the formulas for n houses.
use Rattle.std.proofs.Common.{◌≡◌, ◌+◌, ◌-◌, ap, ◌∙◌, arith}
use Rattle.card.specs.Card.{largest, column_of}
use Rattle.card.proofs.Wall.{houses_between, card_is}
use Rattle.counts.proofs.column_of.Goals as goal

pub overflow_sub-result : goal.overflow_sub-result
overflow_sub-result c = (houses_between _ c.requires).0

pub offset_bounds-card-n : goal.offset_bounds-card-n
unfolding largest
offset_bounds-card-n c = let b = houses_between _ c.requires in record { fits = omega arith }

pub bounds-card-n : goal.bounds-card-n
unfolding largest
bounds-card-n c = let b = houses_between _ c.requires in omega arith

pub returns : goal.returns
unfolding largest column_of
returns c =
    let b = houses_between _ c.requires in
    let e : c.args.n - 1 + 1 ≡ c.args.n = omega arith in
    card_is _ (c.args.n - 1) (omega arith) ∙ ap column_of e
