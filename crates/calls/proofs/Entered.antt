-- Bytes that are stored, with what is given, are the step entered.
use Prim.Native.Nat.{ℕ}
use mathlib.Core.Path.{◌≡◌, refl, sym, ap}
use mathlib.Core.Bool.{Bool, true, false}
use mathlib.Core.List.{List}
use Rattle.entry.specs.Entry.{Kind, Decl}
use Rattle.protocol.specs.Steps.{Out, say, only_if}
use Rattle.meaning.specs.Book.{season_of, meant}
use Rattle.meaning.proofs.Stores.{Stored}
use Rattle.meaning.proofs.OneForm.{stored_bytes}
use Rattle.calls.specs.Entered.{result_of, handed, kind_number, wired, letter, letters, entered}
use Rattle.meaning.specs.Legal.{IsDecl}
use Rattle.message.specs.Message.{fields, wire}
use Rattle.lot.specs.Declaration.{declaration_at}
use Rattle.lot.proofs.Declared.{bytes_of_numbers}

-- the 36 bytes with a declaration's own 20 are the writer's
pub letter_bytes : (kind season j c : ℕ) (v : Decl) → IsDecl v → fields kind season j c v ≡ wired kind season j c (declaration_at v 0)
unfolding wire
letter_bytes kind season j c v d = ap (fields kind season j c) (sym (bytes_of_numbers v d.long d.bytes))

-- a message given, or none, is what the step says
pub letter_wired : (season j c : ℕ) (g : Bool) (k : Kind) (v : Decl)
    → only_if g (wired (kind_number k) season j c (declaration_at v 0)) ≡ letters season j c (only_if g (say k v))
unfolding letter
letter_wired season j c true k v = refl
letter_wired season j c false k v = refl

-- bytes that are stored, with what is given, are the step entered
module _ (b : List ℕ) (j c : ℕ) where
  pub entered_is : (o : Out) (a : List ℕ) → Stored b a j c o.entry
      → result_of (handed o.answer (letters (season_of b) j c o.message) o.delivery) a ≡ entered b j c o
  unfolding entered meant
  entered_is o a s =
      λ i. result_of (handed o.answer (letters (season_of b) j c o.message) o.delivery) (stored_bytes b a j c o.entry s i)
