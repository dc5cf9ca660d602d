-- The cases of the roll hold, by computing.
use mathlib.Core.Path.{refl}
use lib.Ieee.{of_bits, of_fields, odd, lt}
use Rattle.sheet.specs.Sheet.{finite}
use Rattle.roll.specs.Roll.{finite_readings, better, same_totals, sound, entered, struck}
use Rattle.roll.specs.Cases.{Cases}

pub cases : Cases
unfolding entered struck sound finite_readings same_totals better finite of_bits of_fields odd lt
cases =
    record {
      first = refl;
      before = refl;
      between = refl;
      after = refl;
      lower_zero = refl;
      upper_zero = refl;
      kilogram_off = refl;
      other_zero = refl;
      line_short = refl;
      unordered = refl;
      nan_in_use = refl;
      not_finite = refl;
      reading_first = refl;
      already_there = refl;
      lot_first = refl;
      none_free = refl;
      first_struck = refl;
      highest_struck = refl;
      only_struck = refl;
      not_there = refl;
    }
