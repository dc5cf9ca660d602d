-- Eight slots more are gathered; at the end all k are, and the tests of the strays are the row's.
use Rattle.std.proofs.Common.{◌≡◌, ◌∙◌, ◌*◌, true, false, arith}
use Rattle.meaning.specs.Legal.{row_ok}
use Rattle.slots.specs.Strays.{clear}
use Rattle.slots.proofs.Gathered.{clear_more, clear_less}
use Rattle.slots.proofs.Rows.{row_none, row_more}
use Rattle.slots.proofs.are_slots_ok.Goals as goal
use Rattle.slots.proofs.are_slots_ok.Goals.{then-all-eq0, else-all-eq0}

pub loop-i-init : goal.loop-i-init
unfolding clear
loop-i-init c = row_none _ _ true

pub loop-i-preserved : goal.loop-i-preserved
loop-i-preserved c =
    row_more _ _ _ _ (8 * c.loop-i.i) 8 _ _ (omega arith) (omega arith) c.loop-i.invariant c.gather_row-strays.ensures

pub returns-then-all-eq0-2 : goal.returns-then-all-eq0-2
returns-then-all-eq0-2 c =
    let all = c.gather_row-all.result in
    row_more _ _ _ _ (8 * c.loop-i.i) _ _ _ (omega arith) (omega arith) c.loop-i.invariant
    (elim c.if-all-eq0.branch [
      | then-all-eq0 w ↦ clear_more all true w.if-all-eq0.true (cc)
      | else-all-eq0 w ↦ clear_less all true w.if-all-eq0.false (cc)
    ] ∙ c.gather_row-all.ensures)

pub returns-else-all-eq0-2 : goal.returns-else-all-eq0-2
returns-else-all-eq0-2 c =
    let all = c.gather_row-all.result in
    let e : false ≡ row_ok c.args.b.now c.args.at c.args.k = row_more _ _ _ _ (8 * c.loop-i.i) _ _ _ (omega arith) (omega arith)
    c.loop-i.invariant
    (elim c.if-all-eq0.branch [
      | then-all-eq0 w ↦ clear_more all false w.if-all-eq0.true (cc)
      | else-all-eq0 w ↦ clear_less all false w.if-all-eq0.false (cc)
    ] ∙ c.gather_row-all.ensures) in
    cc
