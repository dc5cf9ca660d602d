-- What this crate promises: its contract settles its outcome. What the answer means, `meaning` promises.
use Rattle.std.specs.Prelude.{ℕ, ◌≡◌}
use Rattle.words.specs.Settled.{Settled}
use Rattle.meaning.specs.Opening.{Length, length_answer}
use Rattle.sizes.specs.declared.LengthAnswer.{LengthAnswer}

-- Two outcomes that meet the contract of `length_of` are equal.
pub record Claims : Type 0 where
  -- A public answer gives that length, or answer 9.
  pub length_settled : (n numbers : ℕ)
      → Settled (λ (r : LengthAnswer). ◌≡◌ {A = Length} (record { answer = r.answer; length = r.length }) (length_answer n numbers))
