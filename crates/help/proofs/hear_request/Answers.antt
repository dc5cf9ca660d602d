-- A legal head has room for what is read; then each return is what the tests before it say of the request.
use Rattle.std.proofs.Common.{arith, refl}
use Rattle.meaning.proofs.Room.{head_room}
use Rattle.calls.proofs.Requests.{asker_refused, enough_refused, request_helped, low_byte}
use Rattle.help.proofs.hear_request.Goals as goal

pub n_of-requires : goal.n_of-requires
n_of-requires c = let h = head_room _ c.requires in omega arith

pub helped_at-requires : goal.helped_at-requires
helped_at-requires c = let h = head_room _ c.requires in omega arith

pub limit_of-requires : goal.limit_of-requires
limit_of-requires c = let h = head_room _ c.requires in omega arith

pub count_help-requires : goal.count_help-requires
count_help-requires c =
    let h = head_room _ c.requires in
    let low = low_byte c.args.book.now c.args.house c.requires (omega arith) in
    (omega arith, low)

pub returns-then-house-from : goal.returns-then-house-from
returns-then-house-from c = asker_refused c.args.book.now c.args.house (omega arith) _ refl

pub returns-then-helped_at-limit_of : goal.returns-then-helped_at-limit_of
returns-then-helped_at-limit_of c = enough_refused c.args.book.now c.args.house (omega arith) (omega arith) _ refl

pub returns : goal.returns
returns c = request_helped c.args.book.now c.args.house (omega arith) (omega arith) _ refl _ c.count_help.ensures
