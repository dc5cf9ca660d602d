-- What this crate promises: document 01's starred cases hold, as rows of a single table under a single claim.
use Rattle.std.specs.Prelude.{ℕ, ◌≤◌, ◌<◌}
use Rattle.cases.specs.Row.{All, Has}
use Rattle.cases.specs.Rows.{rows}

pub record Claims : Type 0 where
  -- every row holds
  pub all_hold : All rows
  -- none of the cases 1 to 19 is left out
  pub none_left_out : (c : ℕ) → 0 < c → c ≤ 19 → Has c rows
