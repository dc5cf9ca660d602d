-- The seen counts have room and the place is one of the lines; what the code works out is what is asked.
use Rattle.std.proofs.Common.{◌≡◌, List, length, Result, Ok, Err, sym, ap, ◌∙◌, subst, arith}
use Rattle.std.specs.Result.{IsErrAnd}
use Rattle.refusal.specs.declared.Refusal.{Refusal}
use Rattle.refusal.specs.Answer.{answer_of}
use Rattle.roll.specs.declared.Line.{Line}
use Rattle.roll.specs.declared.Totals.{Totals}
use Rattle.roll.specs.declared.Ask.{Ask}
use Rattle.roll.specs.Roll.{outcome, changed}
use Rattle.lines.specs.declared.Seen.{Seen}
use Rattle.lines.specs.Look.{Fair, Within}
use Rattle.lines.proofs.Scan.{fair, within}
use Rattle.plans.specs.declared.Look.{Look}
use Rattle.plans.specs.Plan.{begun, decided}
use Rattle.sweep.specs.Sweep.{looked_at, settled}
use Rattle.sweep.proofs.Core.{works}
use Rattle.sweep.proofs.change.Goals as goal

-- what is decided, as the code has it, is what the definition decides
settles : (ls : List Line) (t : Totals) (q : Ask) (k : Look) (s : Seen) → k ≡ begun (length ls) t q → s ≡ looked_at k ls
    → settled ls t (decided (length ls) t q s) ≡ changed ls t q
settles ls t q k s ek es =
    ap (λ (x : Seen). settled ls t (decided (length ls) t q x)) (es ∙ ap (λ (x : Look). looked_at x ls) ek) ∙ works ls t q

-- an error that a `?` hands on is the error
refused_by : (r : Result Unit Refusal) (e : Refusal) → IsErrAnd r (λ (x : Refusal). x ≡ e) → r ≡ Err e
refused_by (Ok x) e h = absurd h
refused_by (Err x) e h = ap Err h

pub decide-requires : goal.decide-requires
decide-requires c =
    let look = c.begin.result in
    let ls = c.args.roll.now in
    let e = c.look_through-seen.ensures in (
      subst Fair (sym e.0) (fair look.lot look.n ls (omega arith) e.1),
      subst (λ (s : Seen). Within s c.args.totals.now.lines) (sym e.0)
          (within look.lot look.n c.args.totals.now.lines ls (omega arith)),
    )

pub returns-in_err-plan : goal.returns-in_err-plan
returns-in_err-plan c =
    let ls = c.args.roll.now in
    let t = c.args.totals.now in
    ap (λ (r : Result Unit Refusal). outcome (answer_of r) ls t) (refused_by c.from_residual.result _ c.from_residual.ensures.1)
    ∙ ap (settled ls t) (sym c.in_err-plan.was ∙ c.decide.ensures.0)
    ∙ settles ls t c.args.ask c.begin.result c.look_through-seen.result c.begin.ensures.0 c.look_through-seen.ensures.0

pub returns : goal.returns
returns c =
    let ls = c.args.roll.now in
    let t = c.args.totals.now in
    ap (λ (x : List Line). outcome 0 x c.in_ok-plan.plan.totals) c.carry.ensures
    ∙ ap (settled ls t) (sym c.in_ok-plan.was ∙ c.decide.ensures.0)
    ∙ settles ls t c.args.ask c.begin.result c.look_through-seen.result c.begin.ensures.0 c.look_through-seen.ensures.0
