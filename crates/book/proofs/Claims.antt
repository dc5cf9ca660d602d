-- What this crate promises holds.
use mathlib.Core.Path.{sym, ◌∙◌}
use Rattle.book.specs.Claims.{Claims}

pub claims : Claims
claims =
    record {
      legal_settled = λ b r r' p q. p ∙ sym q;
      head_settled = λ b r r' p q. p ∙ sym q;
      entry_settled = λ b base r r' p q. p ∙ sym q;
    }
