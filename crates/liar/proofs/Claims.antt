-- What a liar can't move, and that t can't be raised, proved.
use Rattle.liar.specs.Claims.{Claims}
use Rattle.liar.proofs.Unmoved.{unmoved, unmoved_up}
use Rattle.liar.proofs.Twins.{twins}
use Rattle.liar.proofs.Final.{final}
use Rattle.liar.proofs.Raised.{raised, no_more}

pub claims : Claims
claims =
    record { unmoved = unmoved; unmoved_up = unmoved_up; twins = twins; final = final; raised = raised; no_more = no_more }
