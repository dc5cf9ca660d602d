-- Each asker of the range was helped at most d times.
use Rattle.std.proofs.Common.{◌∙◌, refl, rules, tests, arith}
use Rattle.std.proofs.lemmas.Iterator.{YieldsList-from_range}
use Rattle.std.proofs.lemmas.Iterator.Search.{all_from_yields_List}
use Rattle.book.proofs.Legality.{help_at, helps_all}
use Rattle.book.proofs.are_helps_ok.Goals as goal

pub returns : goal.returns
returns c =
    let a = c.args in
    all_from_yields_List (help_at a.b.now a.d) _ _ _ c.all.ensures.ran (YieldsList-from_range 0 a.k a.k refl (omega arith))
    (λ x b q k. search (rules, tests))
    ∙ helps_all a.b.now a.d a.k
