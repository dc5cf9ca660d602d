-- What this crate promises holds.
use mathlib.Core.Path.{sym, ◌∙◌}
use Rattle.sizes.specs.Claims.{Claims}

pub claims : Claims
claims =
    record {
      length_settled = λ n s r r' p q.
          let e = p ∙ sym q in
          λ i. record { answer = (e i).answer; length = (e i).length };
    }
