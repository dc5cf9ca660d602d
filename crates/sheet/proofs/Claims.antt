-- What this crate promises holds.
use Rattle.sheet.proofs.Exactly.{plausible_exactly, no_colonies, no_kilograms, below_zero_lem}
use Rattle.sheet.proofs.Measurable.{below_zero_exactly, minus_zero_lem, minus_zero_limit}
use Rattle.sheet.proofs.Limits.{sheet_legal_exactly}
use Rattle.sheet.specs.Claims.{Claims}
use Rattle.sheet.proofs.OneForm.{sheet_of_bytes, legal_bytes, judged_bytes, judged_exactly, bytes_of_sheet, one_form}

pub claims : Claims
claims =
    record {
      exactly = plausible_exactly;
      no_colonies = no_colonies;
      no_kilograms = no_kilograms;
      below_zero_exactly = below_zero_exactly;
      below_zero_lem = below_zero_lem;
      minus_zero_lem = minus_zero_lem;
      sheet_legal_exactly = sheet_legal_exactly;
      minus_zero_limit = minus_zero_limit;
      sheet_of_bytes = sheet_of_bytes;
      legal_bytes = legal_bytes;
      judged_bytes = judged_bytes;
      judged_exactly = judged_exactly;
      bytes_of_sheet = bytes_of_sheet;
      one_form = one_form;
    }
