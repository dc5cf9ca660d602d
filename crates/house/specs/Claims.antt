-- What the fourteen calls promise beside their contracts, in document 01's order.
use Rattle.std.specs.Prelude.{ℕ, ◌≡◌, List}
use Rattle.words.specs.Settled.{Settled}
use Rattle.sheet.specs.Kept.{judged}
use Rattle.message.specs.declared.Written.{Written}
use Rattle.sizes.specs.Claims as sizes
use Rattle.opening.specs.Claims as opening
use Rattle.calls.specs.Claims as calls
use Rattle.message.specs.declared.ReadAnswer.{ReadAnswer}
use Rattle.message.specs.Trips.{writes, reads, Trips}
use Rattle.lot.specs.Declaration.{declaration_at}
use Rattle.roll.specs.declared.Line.{Line}
use Rattle.roll.specs.declared.Totals.{Totals}
use Rattle.roll.specs.Roll.{line_of, outcome, entered, struck}
use Rattle.roll.specs.Claims as roll

-- the answer, each line of the roll and the totals
abbrev pub SettledRoll : (ℕ → List Line → Totals → Type 0) → Type 0
SettledRoll Meets = (r r' : ℕ) (ls ls' : List Line) (t t' : Totals) → Meets r ls t → Meets r' ls' t' → (r ≡ r') × (ls ≡ ls') × (t ≡ t')

-- Two outcomes that meet a call's contract are equal, in what is handed back and in each byte of a lent book, or each line of a lent roll
-- and its totals.
pub record Settles : Type 0 where
  -- `gm_length`
  pub sizes : sizes.Claims
  -- `gm_open`
  pub opening : opening.Claims
  -- `gm_publish`, `gm_receive`, `gm_receive_entry`, `gm_waiting`, `gm_return` and `gm_sent`
  pub calls : calls.Settles
  -- `gm_judge`, `gm_write` and `gm_read`
  pub judge_settled : (sheet d : List ℕ) → Settled (λ (r : ℕ). r ≡ judged sheet d)
  pub write_settled : (kind season sender number : ℕ) (d : List ℕ) → Settled (λ (r : Written). r ≡ writes kind season sender number d)
  pub read_settled : (bytes : List ℕ) → Settled (λ (r : ReadAnswer). r ≡ reads bytes)
  -- `gm_roll_line`, `gm_roll_insert` and `gm_roll_strike`
  pub line_settled : (d : List ℕ) → Settled (λ (r : Line). r ≡ line_of (declaration_at d 0))
  pub insert_settled : (roll : List Line) (t : Totals) (l : Line) → SettledRoll (λ r ls u. outcome r ls u ≡ entered roll t l)
  pub strike_settled : (roll : List Line) (t : Totals) (lot : ℕ) → SettledRoll (λ r ls u. outcome r ls u ≡ struck roll t lot)

pub record Claims : Type 0 where
  pub trips : Trips
  -- the lot roll and the season's totals
  pub roll : roll.Claims
  pub settled : Settles
