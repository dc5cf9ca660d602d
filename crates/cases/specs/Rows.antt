-- Document 01's starred cases, a row to a line, each beside its number there. A row is tested by computing, whatever it says, so that
-- to add one is to add its line.
use Rattle.std.specs.Prelude.{ℕ, Bool, true, false, List, [], ◌∷◌}
use Rattle.std.proofs.Math.Option.{Option, none, some}
use Rattle.std.specs.Float.{binary32}
use Rattle.std.specs.Float.Ieee.{of_bits}
use Rattle.sheet.specs.declared.Gate.TheVariants.{Open, AtMost}
use Rattle.message.specs.Message.{Five}
use Rattle.cases.specs.Row.{Heard, Row, card, short, size, judge, form, calls, sheet, lot, seventeen_half, sample}

-- 20.0 and a NaN, as their bits
abbrev twenty : ℕ
twenty = 0x41a00000

abbrev a_nan : ℕ
a_nan = 0x7fc00000

-- minus 3 and minus zero, as their bits
abbrev minus_three : ℕ
minus_three = 0xc0400000

abbrev minus_zero : ℕ
minus_zero = 0x80000000

-- the message that document 01 writes out, and its 36 bytes there
abbrev a_send : Five
a_send = record { kind = 1; season = 2026; sender = 2; number = 1; declaration = sample }

abbrev whole : List ℕ
whole =
    0x01 ∷ 0x00 ∷ 0x01 ∷ 0x01 ∷ 0x02 ∷ 0x00 ∷ 0x06 ∷ 0x00 ∷ 0x00 ∷ 0x07 ∷ 0xEA ∷ 0x02 ∷ 0x01 ∷ 0x03 ∷ 0x00 ∷ 0x14 ∷ 0x00 ∷ 0x00
    ∷ 0x00 ∷ 0x4D ∷ 0x00 ∷ 0x00 ∷ 0x00 ∷ 0x28 ∷ 0x00 ∷ 0x00 ∷ 0x03 ∷ 0x20 ∷ 0x41 ∷ 0x8C ∷ 0x00 ∷ 0x00 ∷ 0x3F ∷ 0x00 ∷ 0x00 ∷ 0x00 ∷ []

-- an ECHO or a READY from the house: the kind that it gives, and whether it delivers
abbrev echo : ℕ → Option ℕ → Heard
echo house gives = record { house = house; kind = 2; gives = gives; delivers = false }

abbrev ready : ℕ → Option ℕ → Bool → Heard
ready house gives delivers = record { house = house; kind = 3; gives = gives; delivers = delivers }

abbrev pub rows : List (ℕ × Row)
rows =
    (1, card 4 1 3)
    ∷ (2, card 5 1 4)
    ∷ (3, card 16 5 11)
    ∷ (3, short 16 9)
    ∷ (4, judge (sheet 20 Open) (lot 40 800 seventeen_half) 0)
    ∷ (5, judge (sheet 20 Open) (lot 40 801 seventeen_half) 5)
    ∷ (6, judge (sheet 2 Open) (lot 4 9 seventeen_half) 5)
    ∷ (7, judge (sheet 20 (AtMost (of_bits binary32 twenty))) (lot 40 800 twenty) 0)
    ∷ (8, judge (sheet 20 Open) (lot 40 800 a_nan) 5)
    ∷ (9, form a_send whole)
    ∷ (10, calls 4 (echo 0 none ∷ echo 1 none ∷ echo 2 (some 3) ∷ []))
    ∷ (11, calls 4 (ready 1 none false ∷ ready 2 (some 3) false ∷ ready 3 none true ∷ []))
    ∷ (12, calls 1 (ready 0 (some 3) true ∷ []))
    ∷ (13, judge (sheet 20 Open) (lot 0 0 seventeen_half) 5)
    ∷ (14, judge (sheet 20 Open) (lot 0 1 seventeen_half) 5)
    ∷ (15, judge (sheet 20 Open) (lot 1 0 seventeen_half) 0)
    ∷ (16, judge (sheet 20 Open) (lot 40 800 minus_three) 5)
    ∷ (17, judge (sheet 20 Open) (lot 40 800 minus_zero) 0)
    ∷ (18, card 31 10 21)
    ∷ (18, short 31 20)
    ∷ (19, size 31 4 0 169406)
    ∷ (19, size 32 1 9 0)
    ∷ []
