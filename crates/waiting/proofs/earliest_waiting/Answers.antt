-- A legal book's answer is what the search finds; no book's is 1.
use Rattle.std.proofs.Common.{sym, ◌∙◌, arith}
use Rattle.meaning.proofs.Room.{header_room}
use Rattle.meaning.proofs.Legality.{legal_head}
use Rattle.waiting.proofs.Searching.{waiting_found, waiting_no_book}
use Rattle.waiting.proofs.earliest_waiting.Goals as goal

pub shape_of-requires : goal.shape_of-requires
shape_of-requires c = let h = header_room _ (sym c.is_legal.ensures ∙ c.if-not-is_legal.false) in omega arith

pub search-requires : goal.search-requires
search-requires c = (legal_head _ (sym c.is_legal.ensures ∙ c.if-not-is_legal.false), c.shape_of.ensures.0, c.shape_of.ensures.1)

pub returns-in-Some : goal.returns-in-Some
returns-in-Some c = waiting_found _ (sym c.is_legal.ensures ∙ c.if-not-is_legal.false) _ c.in-Some.ensures

pub returns-in-None : goal.returns-in-None
returns-in-None c = waiting_found _ (sym c.is_legal.ensures ∙ c.if-not-is_legal.false) _ c.in-None.ensures

pub returns-then-not-is_legal : goal.returns-then-not-is_legal
returns-then-not-is_legal c = waiting_no_book _ (sym c.is_legal.ensures ∙ c.if-not-is_legal.true) _ c.into.ensures
