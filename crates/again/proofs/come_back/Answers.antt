-- A return on a legal book gives the request of its season; else the answer is 1.
use Rattle.std.proofs.Common.{sym, ◌∙◌, arith}
use Rattle.meaning.proofs.Room.{header_room}
use Rattle.again.proofs.Sent.{returned_legal, returned_no_book}
use Rattle.again.proofs.come_back.Goals as goal

pub returns-then-not-is_legal : goal.returns-then-not-is_legal
returns-then-not-is_legal c = returned_no_book _ (sym c.is_legal.ensures ∙ c.if-not-is_legal.true) _ c.into.ensures

pub season_of-requires : goal.season_of-requires
season_of-requires c = let h = header_room _ (sym c.is_legal.ensures ∙ c.if-not-is_legal.false) in omega arith

pub returns : goal.returns
returns c =
    returned_legal _ (sym c.is_legal.ensures ∙ c.if-not-is_legal.false) _ c.season_of.ensures _ c.write_request-request.ensures
