-- A legal head has room for the season; a request of another is refused.
use Rattle.std.proofs.Common.{arith, refl}
use Rattle.meaning.proofs.Room.{head_room}
use Rattle.receive.proofs.Heard.{request_other}
use Rattle.receive.proofs.ask.Goals as goal

pub season_of-requires : goal.season_of-requires
season_of-requires c = let h = head_room _ c.requires in omega arith

pub returns-then-named-season_of : goal.returns-then-named-season_of
returns-then-named-season_of c =
    let a = c.args in
    request_other a.book.now a.house a.named _ c.season_of.ensures c.if-named-season_of.true _ refl
