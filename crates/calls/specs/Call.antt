-- Publishing and receiving at the bytes, a request for help among what is received: the order of answers, and what a call gives and
-- leaves in the lent buffer.
use Rattle.std.specs.Prelude.{ℕ, cond, List, eqb}
use Rattle.std.proofs.Math.Option.{Option, none, some}
use Rattle.lot.specs.Declaration.{bytes_of}
use Rattle.message.specs.Message.{Five, read_of, request_of}
use Rattle.entry.specs.Entry.{Decl, Kind}
use Rattle.protocol.specs.Steps.{Out, must}
use Rattle.protocol.specs.Book.{Call, publishing, receiving, sender_of, number_of, outcome}
use Rattle.protocol.specs.Run.{help_answer}
use Rattle.meaning.specs.Book.{Meaning, meant, n_of, own_of, season_of, limit_of, helped_of, count_help}
use Rattle.meaning.specs.Legal.{legal}
use Rattle.calls.specs.Entered.{Result, handed, helping, rules_by, kind_of, entered}

-- Every refusal leaves the lent buffer byte for byte and carries no message and no delivery.
abbrev pub refusal : ℕ → List ℕ → Result
refusal answer b = record { given = handed answer none none; book = b }

-- a step's outcome at the bytes
abbrev pub carried : List ℕ → (sender number : ℕ) → Out → Result
carried b j c o = cond (eqb o.answer 0) (entered b j c o) (refusal o.answer b)

-- the protocol's step on what the bytes mean: 4 to 8
unfoldable pub step_of : List ℕ → Call → Out
unfolding rules_by
step_of b a =
    let B : Meaning = meant b in outcome (rules_by B.header) B.header.numbers B.header.own a B.entries

unfoldable pub called : List ℕ → Call → Result
unfolding step_of entered
called b a = carried b (sender_of (own_of b) a) (number_of a) (step_of b a)

-- Publishing: 1, 4, 5, 8.
unfoldable pub published : List ℕ → (number : ℕ) → Decl → Result
unfolding called
published b c v = cond (legal b) (called b (publishing c v)) (refusal 1 b)

-- the call that a message of the kind asks for
abbrev pub asked_as : (house sender number : ℕ) → Decl → Option Kind → Option Call
asked_as p j c v none = none
asked_as p j c v (some k) = some (receiving p k j c v)

abbrev pub asked : (house : ℕ) → Five → Option Call
asked p m = asked_as p m.sender m.number (bytes_of m.declaration) (kind_of m.kind)

-- A number that is no kind's asks for no call: 2. What is well formed has a kind (proofs/KindNumber.antt), so that it is never given here.
abbrev pub answering : List ℕ → Option Call → Result
answering b none = refusal 2 b
answering b (some a) = called b a

-- past answer 1: 2 unless the message is well formed, 3 unless it is of the book's season
abbrev pub heard_from : List ℕ → (house : ℕ) → Option Five → Result
heard_from b p none = refusal 2 b
heard_from b p (some m) = cond (eqb m.season (season_of b)) (answering b (asked p m)) (refusal 3 b)

-- the answer to house p's request for help: 3, 4, then, past d, 14
unfoldable pub request_answer : List ℕ → (house season : ℕ) → ℕ
unfolding help_answer helped_of
request_answer b p season = must (eqb season (season_of b)) 3 (help_answer (n_of b) (limit_of b) p (helped_of b p))

-- an accepted request: the asker was helped once more, and nothing else changes
unfoldable pub requested : List ℕ → (house season : ℕ) → Result
unfolding request_answer count_help
requested b p season =
    cond (eqb (request_answer b p season) 0) (record { given = helping; book = count_help b p }) (refusal (request_answer b p season) b)

-- past answer 1: the season that a request names, or what reading gives
abbrev pub heard_any : List ℕ → (house : ℕ) → Option ℕ → Option Five → Result
heard_any b p (some season) m = requested b p season
heard_any b p none m = heard_from b p m

-- Receiving: 1 to 6 in order, then 7 or 13; a request 1 to 4, then 14.
unfoldable pub received : List ℕ → (house : ℕ) → List ℕ → Result
unfolding called requested
received b p message = cond (legal b) (heard_any b p (request_of message) (read_of message).five) (refusal 1 b)
