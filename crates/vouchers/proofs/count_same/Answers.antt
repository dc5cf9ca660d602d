-- One slot more is looked at, by its three tests; at the end all n are.
use Rattle.std.proofs.Common.{rules, ◌≡◌, ℕ, length, get_or, Fits, w8}
use Rattle.vouchers.proofs.Counting.{none_differs, first_differs, second_differs, third_differs, counted}
use Rattle.vouchers.proofs.count_same.Goals as goal
use Rattle.vouchers.proofs.count_same.Goals.{then-eight_at-first+then-eight_at-second+then-eight_at-third, else-eight_at-first}
use Rattle.vouchers.proofs.count_same.Goals.{else-eight_at-first-via-then-eight_at-first+then-eight_at-second+else-eight_at-third}
use Rattle.vouchers.proofs.count_same.Goals.{else-eight_at-first-via-then-eight_at-first+else-eight_at-second}
use Rattle.vouchers.proofs.count_same.Goals.{else-eight_at-first-via-else-eight_at-first}

pub loop-p-preserved : goal.loop-p-preserved
loop-p-preserved c =
    let a = c.args in
    let x = c.eight_at-first.result in
    let y = c.eight_at-second.result in
    let z = c.eight_at-third.result in
    let more = c.loop-p-test.true in
    let so_far = c.loop-p.invariant in
    let first = c.eight_at.ensures in
    elim c.if-eight_at-first.branch [
      | then-eight_at-first+then-eight_at-second+then-eight_at-third w ↦
          none_differs a.b.now a.at x y z _ _ _ more so_far _ _ _ _ first w.eight_at-then-eight_at-first.ensures
          w.eight_at-then-eight_at-second.ensures w.if-eight_at-first.true w.if-eight_at-second.true w.if-eight_at-third.true w.found-is
      | else-eight_at-first w ↦
          elim w.else-eight_at-first.branch [
            | else-eight_at-first-via-then-eight_at-first+then-eight_at-second+else-eight_at-third v ↦
                third_differs a.b.now a.at x y z _ _ _ more so_far _ _ v.eight_at-then-eight_at-second.ensures v.if-eight_at-third.false
                w.found-is
            | else-eight_at-first-via-then-eight_at-first+else-eight_at-second v ↦
                second_differs a.b.now a.at x y z _ _ _ more so_far _ _ v.eight_at-then-eight_at-first.ensures v.if-eight_at-second.false
                w.found-is
            | else-eight_at-first-via-else-eight_at-first v ↦
                first_differs a.b.now a.at x y z _ _ _ more so_far _ _ first v.if-eight_at-first.false w.found-is
          ]
    ]

pub returns : goal.returns
returns c =
    let a = c.args in
    let long : length a.d ≡ 20 = search rules in
    let bytes : (i : ℕ) → Fits w8 (get_or a.d i 0) = λ i. search rules in
    counted a.b.now a.d _ a.at _ _ _ _ _ _ c.requires long (λ i. (c.type_inv.b i).fits) (λ i. (bytes i).fits) c.put_slot.ensures
    c.eight_at-first.ensures c.eight_at-second.ensures c.eight_at-third.ensures c.loop-p-test.false c.loop-p.invariant
