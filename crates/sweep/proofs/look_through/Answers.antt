-- The counts have room for one line more; and what is seen after it is what the definition sees.
use Rattle.std.proofs.Common.{◌≤◌, take, sym, ap, ◌∙◌, subst, arith, add-one, length-take, slice_index_or}
use Rattle.lines.specs.declared.Seen.{Seen}
use Rattle.lines.specs.Look.{Fair, looked}
use Rattle.lines.proofs.Scan.{fair, seen_more, small_more}
use Rattle.roll.specs.Roll.{zero_line}
use Rattle.sweep.proofs.look_through.Goals as goal

pub look-seen-requires : goal.look-seen-requires
look-seen-requires c =
    let l = c.loop-line in
    let ls = take c.args.look.n c.args.roll.now in
    let few : l.line-index ≤ 4096 = omega (arith, length-take c.args.look.n c.args.roll.now) in
    subst Fair (sym l.invariant.0) (fair c.args.look.lot l.line-index ls few l.invariant.1)

pub loop-line-preserved : goal.loop-line-preserved
loop-line-preserved c =
    let l = c.loop-line in
    let lot = c.args.look.lot in
    let ls = take c.args.look.n c.args.roll.now in (
      c.look-seen.ensures.0 ∙ ap (λ (s : Seen). looked lot s (slice_index_or ls l.line-index zero_line)) l.invariant.0
          ∙ rw add-one (sym (seen_more lot l.line-index ls (omega arith))),
      rw add-one (small_more l.line-index ls (omega arith) l.invariant.1 c.look-seen.ensures.1),
    )
