-- What a liar can't move, and that t can't be raised.
use Rattle.liar.specs.Unmoved.{Unmoved, UnmovedUp}
use Rattle.liar.specs.Twins.{Twins}
use Rattle.liar.specs.Final.{Final}
use Rattle.liar.specs.Raised.{Raised, NoMore}

pub record Claims : Type 0 where
  -- Two runs with the same honest set and the same accepted publications by one honest sender, both drained, end with the same deliveries
  -- for that sender at every honest house,
  pub unmoved : Unmoved
  -- and with any f, whichever other houses are honest, at every house that is up in both.
  pub unmoved_up : UnmovedUp
  -- There are such runs.
  pub twins : Twins
  -- What a house delivered stays.
  pub final : Final
  -- At n = 4 there is a run with two wrong houses in which the two honest ones deliver different declarations on one entry,
  pub raised : Raised
  -- so agreement needs at most t.
  pub no_more : NoMore
