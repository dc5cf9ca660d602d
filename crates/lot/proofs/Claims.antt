-- What this crate promises.
use Rattle.lot.specs.Claims.{Claims}
use Rattle.lot.proofs.Declared.{numbers_of_bytes, bytes_of_numbers, same_numbers, same_bytes}

pub claims : Claims
claims =
    record {
      same_numbers = same_numbers;
      same_bytes = same_bytes;
      numbers_of_bytes = numbers_of_bytes;
      bytes_of_numbers = bytes_of_numbers;
    }
