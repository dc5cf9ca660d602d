-- The sheet's 22 bytes: the cap, and for each gate a kind byte and two limits as bits, low then high. Judging at the bytes.
use Rattle.std.specs.Prelude.{ℕ, ◌+◌, Bool, cond, ◌&&◌, List, ◌∷◌, ◌++◌, eqb, length, get_or}
use Rattle.std.specs.Float.{binary32}
use Rattle.std.specs.Float.Ieee.{of_bits, to_bits}
use Rattle.words.specs.Words.{be32, word_at}
use Rattle.sheet.specs.declared.Gate.{Gate}
use Rattle.sheet.specs.declared.Gate.TheVariants.{Open, AtMost, Between}
use Rattle.sheet.specs.declared.Sheet.{Sheet}
use Rattle.sheet.specs.declared.Kept.{Kept}
use Rattle.lot.specs.Declaration.{declaration_at}
use Rattle.sheet.specs.Sheet.{gate_legal, plausible}

-- sheet limits are kept as their bits; a limit that the kind does not use is zero
abbrev pub kept_of : Gate → Kept
kept_of Open = record { kind = 0; low = 0; high = 0 }
kept_of (AtMost high) = record { kind = 1; low = 0; high = to_bits binary32 high }
kept_of (Between low high) = record { kind = 2; low = to_bits binary32 low; high = to_bits binary32 high }

abbrev pub kept_bytes : Kept → List ℕ
kept_bytes k = k.kind ∷ be32 k.low ++ be32 k.high

-- the cap, then each gate's kind, low and high
abbrev pub laid : ℕ → Kept → Kept → List ℕ
laid cap m c = be32 cap ++ (kept_bytes m ++ kept_bytes c)

unfoldable pub sheet_bytes : Sheet → List ℕ
unfolding to_bits
sheet_bytes sheet = laid sheet.cap (kept_of sheet.moisture) (kept_of sheet.conductivity)

-- a kind is 0 open, 1 at most, 2 between
unfoldable pub gate_of : Kept → Gate
unfolding of_bits
gate_of k =
    cond (eqb k.kind 0) Open
    (cond (eqb k.kind 1) (AtMost (of_bits binary32 k.high)) (Between (of_bits binary32 k.low) (of_bits binary32 k.high)))

-- the nine bytes of a gate, and the 22 of a sheet, where they stand
abbrev pub kept_at : List ℕ → ℕ → Kept
kept_at bytes i = record { kind = get_or bytes i 0; low = word_at bytes (i + 1); high = word_at bytes (i + 5) }

unfoldable pub sheet_at : List ℕ → ℕ → Sheet
unfolding gate_of
sheet_at bytes i =
    record { cap = word_at bytes i; moisture = gate_of (kept_at bytes (i + 4)); conductivity = gate_of (kept_at bytes (i + 13)) }

-- a known kind, and zero for each limit that it does not use
unfoldable pub kept_form : Kept → Bool
kept_form k =
    cond (eqb k.kind 0) (eqb k.low 0 && eqb k.high 0) (cond (eqb k.kind 1) (eqb k.low 0) (eqb k.kind 2))

-- the one form of a legal gate
unfoldable pub kept_legal : Kept → Bool
unfolding kept_form gate_of gate_legal
kept_legal k = kept_form k && gate_legal (gate_of k)

-- the 22 bytes at i are the one form of a legal sheet
unfoldable pub sheet_legal_at : List ℕ → ℕ → Bool
unfolding kept_legal
sheet_legal_at bytes i = kept_legal (kept_at bytes (i + 4)) && kept_legal (kept_at bytes (i + 13))

-- a sheet's bytes
abbrev pub sheet_length : ℕ
sheet_length = 22

unfoldable pub is_sheet : List ℕ → Bool
unfolding sheet_legal_at
is_sheet bytes = eqb (length bytes) sheet_length && sheet_legal_at bytes 0

-- judging at the bytes: bytes that are no legal sheet's are 10, then 5, else 0
unfoldable pub judged : List ℕ → List ℕ → ℕ
unfolding is_sheet sheet_at declaration_at plausible
judged sheet declaration =
    cond (is_sheet sheet) (cond (plausible (sheet_at sheet 0) (declaration_at declaration 0)) 0 5) 10
