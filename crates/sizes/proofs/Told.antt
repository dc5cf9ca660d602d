-- What is answered tells the length, or why there is none.
use Prim.Native.Nat.{ℕ}
use mathlib.Core.Path.{◌≡◌, sym, ap}
use Rattle.std.specs.Prelude.{Result, Ok, Err}
use Rattle.refusal.specs.declared.Refusal.{Refusal}
use Rattle.refusal.proofs.Numbers.{number_injective, never_accepted}
use Rattle.meaning.specs.Opening.{Length}
use Rattle.sizes.specs.Answer.{told}

pub told_injective : (r s : Result ℕ Refusal) → told r ≡ told s → r ≡ s
told_injective (Ok l) (Ok m) e = ap Ok (ap (λ (x : Length). x.length) e)
told_injective (Ok l) (Err y) e = absurd (never_accepted y (sym (ap (λ (x : Length). x.answer) e)))
told_injective (Err x) (Ok m) e = absurd (never_accepted x (ap (λ (x : Length). x.answer) e))
told_injective (Err x) (Err y) e = ap Err (number_injective x y (ap (λ (x : Length). x.answer) e))
