-- What this crate promises beside its contract, which `calls` settles.
use Rattle.std.specs.Prelude.{◌≡◌, Option}
use Rattle.std.proofs.Math.Option as maybe
use Rattle.calls.specs.Search as search
use Rattle.waiting.specs.declared.Place.{Place}
use Rattle.waiting.specs.Found.{told}

pub record Claims : Type 0 where
  -- The number and values of the search's cases settle the case.
  pub told_injective : (x y : Option Place) → told x ≡ told y → x ≡ y
  -- And of places with any numbers.
  pub found_injective : (x y : maybe.Option search.Place) → search.found x ≡ search.found y → x ≡ y
