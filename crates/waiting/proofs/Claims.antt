-- What this crate promises holds.
use Rattle.waiting.specs.Claims.{Claims}
use Rattle.waiting.proofs.Searching.{told_injective, found_injective}

pub claims : Claims
claims = record { told_injective = told_injective; found_injective = found_injective }
