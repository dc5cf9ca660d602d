-- Declarations that come in are 20 bytes, and plausible at the bytes exactly when their numbers are.
use Prim.Native.Nat.{ℕ, zero, suc}
use mathlib.Core.Path.{◌≡◌, refl, ◌∙◌}
use mathlib.Core.Bool.{Bool, true}
use mathlib.Core.List.{List, [], ◌∷◌}
use borrow.Author.Tests.{eq-eqb, lt-ltb}
use Rattle.words.specs.Words.{Bytes}
use Rattle.lot.specs.declared.Declaration.{Declaration}
use Rattle.sheet.specs.declared.Sheet.{Sheet}
use Rattle.lot.specs.Declaration.{declaration_at, bytes_of}
use Rattle.sheet.specs.Sheet.{plausible}
use Rattle.lot.proofs.Declared.{bytes_are_bytes}
use Rattle.entry.specs.Entry.{Decl}
use Rattle.meaning.specs.Legal.{IsDecl}
use Rattle.calls.specs.Entered.{all_bytes, is_decl, ok_by}

all_bytes_lem : (v : List ℕ) → Bytes v → all_bytes v ≡ true
all_bytes_lem [] b = refl
all_bytes_lem (x ∷ xs) b = rw (lt-ltb x 256 (b zero)) (all_bytes_lem xs (λ i. b (suc i)))

pub decl_true : (v : Decl) → IsDecl v → is_decl v ≡ true
unfolding is_decl
decl_true v d = rw (eq-eqb _ _ d.long) (all_bytes_lem v d.bytes)

-- a declaration's numbers are plausible exactly when its bytes are
pub plausible_ok : (s z : Sheet) (v : Decl) (d : Declaration) (t : Bool) → IsDecl v → s ≡ z → d ≡ declaration_at v 0 → t ≡ plausible s d
    → t ≡ ok_by z v
unfolding ok_by
plausible_ok s z v d t i es ed et = rw (decl_true v i) (et ∙ (λ i. plausible (es i) (ed i)))

-- the numbers read from bytes have 20 bytes
pub read_decl : (s : List ℕ) (i : ℕ) → Bytes s → IsDecl (bytes_of (declaration_at s i))
unfolding bytes_of
read_decl s i b = record { long = refl; bytes = bytes_are_bytes s i b }
