-- The kind with a number, or the refusal of a number that no kind has.
use Rattle.std.specs.Prelude.{ℕ, ◌≡◌, false, Result, MatchResult}
use Rattle.refusal.specs.declared.Refusal.{Refusal}
use Rattle.refusal.specs.declared.Refusal.TheVariants.{Malformed}
use Rattle.message.specs.declared.Kind.{Kind}
use Rattle.message.specs.Message.{is_kind, number_of}

abbrev pub IsKindOf : ℕ → Result Kind Refusal → Type 0
IsKindOf k r = MatchResult r (λ kind. number_of kind ≡ k) (λ e. (is_kind k ≡ false) × (e ≡ Malformed))
