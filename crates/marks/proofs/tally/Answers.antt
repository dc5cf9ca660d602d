-- The houses and those that may be down are a book's, so that the card has a column for them.
use Rattle.std.proofs.Common.{ap, ap₂, ◌∙◌, arith}
use Rattle.card.specs.Card.{houses_ok, down_ok, counts_of}
use Rattle.marks.proofs.tally.Goals as goal

pub counts_of-counts-requires : goal.counts_of-counts-requires
counts_of-counts-requires c =
    let n = c.from-n.ensures ∙ c.requires.0.n in (
      ap houses_ok n ∙ c.requires.0.within.n,
      ap₂ down_ok n (c.from.ensures ∙ c.down_of.ensures) ∙ c.requires.0.within.down,
    )

pub count_same-requires : goal.count_same-requires
count_same-requires c = omega (arith, c.requires.1, c.from-n.ensures)

pub returns : goal.returns
returns c = (
  c.counts_of-counts.ensures ∙ ap₂ counts_of c.from-n.ensures (c.from.ensures ∙ c.down_of.ensures),
  rw c.from-n.ensures at c.count_same.ensures.0,
)
