-- What this crate promises holds.
use mathlib.Core.Path.{sym, ap, ◌∙◌}
use Rattle.meaning.specs.Opening.{Opened}
use Rattle.opening.specs.Claims.{Claims}

pub claims : Claims
claims =
    record {
      open_settled = λ b n s own f d season sheet r r' after after' p q.
          let e = p ∙ sym q in
          (ap (λ (o : Opened). o.answer) e, ap (λ (o : Opened). o.book) e);
    }
