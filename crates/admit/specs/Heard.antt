-- What receiving gives of a message on an entry of the book, as the code hands it on.
use Rattle.std.specs.Prelude.{ℕ, cond, List, get_or}
use Rattle.meaning.specs.Legal.{entry_legal}
use Rattle.calls.specs.Entered.{Result, kind_of}
use Rattle.calls.specs.Call.{refusal, asked_as}
use Rattle.calls.specs.ByEntry.{answering_in}
use Rattle.reply.specs.Handed.{sender_in, number_in, lot_in}

-- on an entry that is legal
unfoldable pub heard_as : List ℕ → (house : ℕ) → (message : List ℕ) → Result
heard_as b p m = answering_in b (asked_as p (sender_in m) (number_in m) (lot_in m) (kind_of (get_or m 3 0)))

-- 1 unless it is
unfoldable pub heard_at : List ℕ → (house : ℕ) → (message : List ℕ) → Result
unfolding heard_as
heard_at b p m = cond (entry_legal b (sender_in m) (number_in m)) (heard_as b p m) (refusal 1 b)
