-- What this crate promises: its contract settles its outcome. What the answer means, `meaning` promises.
use Rattle.std.specs.Prelude.{ℕ, ◌≡◌, List}
use Rattle.words.specs.Settled.{SettledWith}
use Rattle.meaning.specs.Opening.{Opened, opened}

-- Two outcomes that meet the contract of `open_book` are equal, in each byte of the lent buffer too.
pub record Claims : Type 0 where
  -- Opening: 9, 10, 11.
  pub open_settled : (b : List ℕ) (n numbers own f d season : ℕ) (sheet : List ℕ)
      → SettledWith (λ (r : ℕ) after. ◌≡◌ {A = Opened} (record { answer = r; book = after }) (opened b n numbers own f d season sheet))
