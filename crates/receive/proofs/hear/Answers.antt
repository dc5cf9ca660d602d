-- A legal head has room for the season; a message of another is refused.
use Rattle.std.proofs.Common.{arith, sym, ◌∙◌}
use Rattle.meaning.proofs.Room.{head_room}
use Rattle.admit.proofs.Heard.{shown_head}
use Rattle.receive.proofs.Heard.{message_other, message_found}
use Rattle.receive.proofs.hear.Goals as goal

pub season_of-requires : goal.season_of-requires
season_of-requires c = let h = head_room _ (shown_head _ _ c.requires.0) in omega arith

pub returns-then-letter-season_of : goal.returns-then-letter-season_of
returns-then-letter-season_of c =
    let a = c.args in
    let l = a.letter.now in
    message_other a.book.now l.bytes.now a.house _ _ l.of_season c.season_of.ensures c.if-letter-season_of.true

pub find-requires : goal.find-requires
find-requires c =
    let l = c.args.letter.now in (
      record {
        head = shown_head _ _ c.requires.0;
        formed = l.formed;
        bytes = c.requires.1;
        season = sym l.of_season ∙ c.if-letter-season_of.false ∙ c.season_of.ensures;
      },
      c.requires.0,
    )

pub returns : goal.returns
returns c =
    let a = c.args in
    let l = a.letter.now in
    message_found a.book.now l.bytes.now a.house _ _ l.of_season c.season_of.ensures c.if-letter-season_of.false _ c.find.ensures
