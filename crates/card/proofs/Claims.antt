-- What this crate promises holds.
use Rattle.card.specs.Claims.{Claims}
use Rattle.card.proofs.Wall as wall
use Rattle.card.proofs.Overlap as counts

pub claims : Claims
claims =
    record {
      rest_houses = wall.rest_houses;
      quorum_down = counts.quorum_down;
      fitting_largest = counts.fitting_largest;
      rest_quorum = counts.rest_quorum;
      rest_deliver = counts.rest_deliver;
      rest_amplify = counts.rest_amplify;
      overlap = counts.overlap;
    }
