-- What this crate promises holds.
use Rattle.words.specs.Claims.{Claims}
use Rattle.words.proofs.Laws as laws
use Rattle.words.proofs.Bytes as bytes

pub claims : Claims
claims =
    record {
      number_of_bytes = laws.word_be;
      bytes_of_number = laws.be_word_at;
      number_small = laws.word_at_small;
      bytes_are_bytes = bytes.be_bytes;
    }
