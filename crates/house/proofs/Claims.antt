-- What the fourteen calls promise beside their contracts holds.
use mathlib.Core.Path.{sym, ◌∙◌}
use Rattle.sizes.proofs.Claims as sizes
use Rattle.opening.proofs.Claims as opening
use Rattle.calls.proofs.Claims as calls
use Rattle.house.specs.Claims.{Claims}
use Rattle.message.proofs.Trips.{trips}
use Rattle.roll.specs.Roll.{entered, struck}
use Rattle.roll.proofs.Claims as roll

pub claims : Claims
claims =
    record {
      trips = trips;
      roll = roll.claims;
      settled = record {
        sizes = sizes.claims;
        opening = opening.claims;
        calls = (calls.claims).settled;
        judge_settled = λ sheet d r r' p q. p ∙ sym q;
        write_settled = λ kind season sender number d r r' p q. p ∙ sym q;
        read_settled = λ s r r' p q. p ∙ sym q;
        line_settled = λ d r r' p q. p ∙ sym q;
        insert_settled = λ ls₀ t l r r' ls ls' u u' p q. (roll.claims).settled (entered ls₀ t l) r r' ls ls' u u' p q;
        strike_settled = λ ls₀ t lot r r' ls ls' u u' p q. (roll.claims).settled (struck ls₀ t lot) r r' ls ls' u u' p q;
      };
    }
