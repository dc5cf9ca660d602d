-- One byte more is laid; at the end all are.
use Rattle.std.proofs.Common.{◌≡◌, length, refl, arith, add-one, length-set}
use Rattle.std.proofs.Math.Seq.{paste-zero, paste-suc}
use Rattle.slots.proofs.lay_at.Goals as goal

pub loop-i-preserved : goal.loop-i-preserved
loop-i-preserved c =
    let a = c.args in
    let l = c.loop-i in (
      rw (l.invariant.0, add-one l.i) (paste-suc a.b.now a.at a.bytes.now l.i 0 (omega arith) (omega arith)),
      simp length-set l.invariant.1,
    )
