-- What this crate promises: a number tells its refusal, and no refusal is answered 0.
use Rattle.std.specs.Prelude.{◌≡◌}
use Rattle.refusal.specs.declared.Refusal.{Refusal}
use Rattle.refusal.specs.Answer.{number_of}

pub record Claims : Type 0 where
  pub number_injective : (x y : Refusal) → number_of x ≡ number_of y → x ≡ y
  pub never_accepted : (x : Refusal) → number_of x ≡ 0 → ⊥
