-- What this crate promises: a declaration is its 20 bytes.
use Rattle.std.specs.Prelude.{ℕ, ◌≡◌, ◌↔◌, List, length}
use Rattle.words.specs.Words.{Bytes}
use Rattle.lot.specs.declared.Declaration.{Declaration}
use Rattle.lot.specs.Declaration.{declaration_at, bytes_of}

pub record Claims : Type 0 where
  -- Two declarations are the same exactly when all 20 bytes are: as numbers,
  pub same_numbers : (d e : Declaration) → (bytes_of d ≡ bytes_of e) ↔ (d ≡ e)
  -- and as bytes.
  pub same_bytes : (bytes others : List ℕ) → length bytes ≡ 20 → length others ≡ 20 → Bytes bytes → Bytes others
      → (declaration_at bytes 0 ≡ declaration_at others 0) ↔ (bytes ≡ others)
  -- The 20 bytes read and write unchanged, a NaN's bits too.
  pub numbers_of_bytes : (d : Declaration) → declaration_at (bytes_of d) 0 ≡ d
  pub bytes_of_numbers : (bytes : List ℕ) → length bytes ≡ 20 → Bytes bytes → bytes_of (declaration_at bytes 0) ≡ bytes
