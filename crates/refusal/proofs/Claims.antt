-- What this crate promises holds.
use Rattle.refusal.specs.Claims.{Claims}
use Rattle.refusal.proofs.Numbers.{number_injective, never_accepted}

pub claims : Claims
claims = record { number_injective = number_injective; never_accepted = never_accepted }
