-- What is read off the end of each computed season, of house 0's entry at number 0: what the claims ask of it, and how many copies it cost.
use Rattle.std.specs.Prelude.{ℕ, not, ◌&&◌}
use Rattle.entry.specs.Lists.{tally}
use Rattle.season.specs.Run.{Houses, State, copies, copies_of, up_between, downs}

pub record Counts : Type 0 where
  pub copies : ℕ
  -- of the copies, and of the requests, between up houses and not consumed
  pub left : ℕ
  pub requests : ℕ
  pub down : ℕ
  pub returned : ℕ → ℕ

unfoldable pub counts : Houses → State → Counts
counts H s =
    record {
      copies = copies 0 0 s;
      left = copies_of 0 0 (λ m. up_between H s m && not m.consumed) s;
      requests = tally (λ m. up_between H s m && not m.consumed) s.power.requests;
      down = downs H s;
      returned = s.power.returned;
    }

-- so many copies, none left; so many down, and who returned how often
abbrev pub drained : ℕ → (down : ℕ) → (returned : ℕ → ℕ) → Counts
drained k down returned = record { copies = k; left = 0; requests = 0; down = down; returned = returned }
