-- What the exported reader hands back: answer 2 and zeros, or answer 0 and the five things, the declaration as its 20 bytes; of a request
-- kind 9 and the season, and zeros.
use Rattle.std.specs.Prelude.{ℕ, replicate}
use Rattle.std.proofs.Math.Option.{Option, none, some}
use Rattle.lot.specs.Declaration.{bytes_of}
use Rattle.message.specs.Message.{Five, Told}
use Rattle.message.specs.declared.ReadAnswer.{ReadAnswer}

abbrev pub read_back : ℕ → Option Five → ReadAnswer
read_back answer none =
    record { answer = answer; kind = 0; season = 0; sender = 0; number = 0; declaration = replicate 20 0 }
read_back answer (some m) =
    record {
      answer = answer;
      kind = m.kind;
      season = m.season;
      sender = m.sender;
      number = m.number;
      declaration = bytes_of m.declaration;
    }

abbrev pub read_answer : (request : Option ℕ) → Told → ReadAnswer
read_answer none t = read_back t.answer t.five
read_answer (some season) t =
    record { answer = 0; kind = 9; season = season; sender = 0; number = 0; declaration = replicate 20 0 }
