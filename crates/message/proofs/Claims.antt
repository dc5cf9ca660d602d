-- What this crate promises holds.
use mathlib.Core.Path.{sym, ◌∙◌}
use Rattle.message.specs.Claims.{Claims}
use Rattle.message.proofs.RoundTrip as trip
use Rattle.message.proofs.Request as request
use Rattle.message.proofs.Told.{told_injective, read_as_injective, read_as_something}

pub claims : Claims
claims =
    record {
      read_of_wire = trip.read_of_wire;
      wire_of_read = trip.wire_of_read;
      one_form = trip.one_form;
      malformed_exactly = trip.malformed_exactly;
      request_of_wire = request.request_of_wire;
      wire_of_request = request.wire_of_request;
      request_alone = request.request_alone;
      told_injective = told_injective;
      read_as_injective = read_as_injective;
      read_as_something = read_as_something;
      settled = record {
        read_settled = λ s r r' p q. told_injective r r' (p ∙ sym q);
        write_settled = λ kind season sender number d r r' p q. p ∙ sym q;
      };
    }
