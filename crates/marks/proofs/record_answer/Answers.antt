-- Full with the same declaration 7, full with another 13, empty 0.
use Rattle.marks.proofs.Recorded.{same_recorded, other_recorded, empty_recorded}
use Rattle.marks.proofs.record_answer.Goals as goal

pub returns-then-not-is_full : goal.returns-then-not-is_full
returns-then-not-is_full c = empty_recorded _ _ _ _ c.is_full.ensures c.if-not-is_full.true

pub returns-then-count_same-eq1 : goal.returns-then-count_same-eq1
returns-then-count_same-eq1 c =
    same_recorded _ _ _ _ c.is_full.ensures c.if-not-is_full.false _ c.count_same.ensures.0 c.if-count_same-eq1.true

pub returns : goal.returns
returns c = other_recorded _ _ _ _ c.is_full.ensures c.if-not-is_full.false _ c.count_same.ensures.0 c.if-count_same-eq1.false
