-- The bytes laid are the SEND of the declaration that its 20 bytes say.
use Rattle.std.proofs.Common.{true, false, replicate, ◌∙◌}
use Rattle.calls.proofs.Entered.{letter_bytes}
use Rattle.reply.proofs.announce.Goals as goal

pub returns : goal.returns
returns c =
    let a = c.args in
    let letter = (rw c.number_of.ensures at c.lay_message-message.ensures) ∙ letter_bytes 1 a.season a.sender a.number a.d c.requires in
    λ i.
    record {
      answer = 0;
      gives = true;
      message = letter i;
      delivers = false;
      declaration = replicate 20 0;
      helps = false;
    }
