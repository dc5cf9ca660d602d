-- The first lines, as many as were gone through, are seen.
use Rattle.std.proofs.Common.{◌≡◌, take}
use Rattle.lines.specs.Look.{seen_in, Small}
use Rattle.sweep.proofs.look_through.Given as goal

abbrev pub invariant-loop-line : goal.invariant-loop-line
invariant-loop-line l =
    (l.seen ≡ seen_in l.look.lot (take l.line-index l.line-items)) × Small (take l.line-index l.line-items)
