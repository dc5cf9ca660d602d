-- A house that returns: the request that it asks all with, and what it sent, to send again. Both are read off the book, which stays.
use Rattle.std.specs.Prelude.{ℕ, cond, ◌&&◌, List, ltb, replicate}
use Rattle.std.proofs.Math.Option.{Option, none, some}
use Rattle.message.specs.Message.{request_wire}
use Rattle.entry.specs.Entry.{Decl, Kind, outgoing}
use Rattle.protocol.specs.Steps.{Say, say}
use Rattle.meaning.specs.Book.{n_of, numbers_of, season_of, look}
use Rattle.meaning.specs.Legal.{legal}
use Rattle.calls.specs.Entered.{is_there, or_zeros, kind_of, letter, letters}
use Rattle.calls.specs.declared.Returned.{Returned}
use Rattle.calls.specs.declared.Sent.{Sent}

-- A return is answered 1, else 0.
unfoldable pub returned : List ℕ → Returned
unfolding request_wire
returned b =
    cond (legal b) (record { answer = 0; request = request_wire (season_of b) }) (record { answer = 1; request = replicate 11 0 })

-- an answer, and a message or none, which is zeros
abbrev pub sending : ℕ → Option (List ℕ) → Sent
sending answer message = record { answer = answer; gives = is_there message; message = or_zeros 36 message }

abbrev pub said_of : Kind → Option Decl → Option Say
said_of k none = none
said_of k (some v) = some (say k v)

-- what this house sent of the kind on the entry of sender j and number c, or none
unfoldable pub sent_on : List ℕ → Kind → (sender number : ℕ) → Option (List ℕ)
unfolding letter
sent_on b k j c = letters (season_of b) j c (said_of k (outgoing k (look b j c)))

-- past answer 1: 2 for a number that is no kind's, 4
abbrev pub sent_as : List ℕ → Option Kind → (sender number : ℕ) → Sent
sent_as b none j c = sending 2 none
sent_as b (some k) j c = cond (ltb j (n_of b) && ltb c (numbers_of b)) (sending 0 (sent_on b k j c)) (sending 4 none)

-- What was sent: 1, 2 for a kind not 1 to 3, 4; else the writer's 36 bytes, or a plain none.
unfoldable pub sent_of : List ℕ → (kind sender number : ℕ) → Sent
unfolding sent_on
sent_of b kind j c = cond (legal b) (sent_as b (kind_of kind) j c) (sending 1 none)
