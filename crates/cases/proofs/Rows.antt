-- Each kind of row is tested by computing, and a table whose tests all pass holds.
use Prim.Native.Nat.{ℕ, zero, suc, ◌≤◌, ◌<◌}
use native.Mathlib.Decide.{dec_le}
use native.Mathlib.Omega.{arith}
use mathlib.Core.Path.{subst}
use mathlib.Core.List.{List, [], ◌∷◌}
use Rattle.card.specs.Card.{counts_of}
use Rattle.lot.specs.Declaration.{bytes_of}
use Rattle.sheet.specs.Kept.{sheet_bytes, judged}
use Rattle.message.specs.Message.{read_as, read_of, written_of}
use Rattle.meaning.specs.Opening.{length_answer}
use Rattle.calls.specs.Entered.{handed}
use Rattle.calls.specs.Call.{received}
use Rattle.cases.specs.Row.{Heard, Row, card, short, size, judge, form, calls, says, message_for, delivered, fresh_book, Calls, Holds}
use Rattle.cases.specs.Row.{All, Has}
use Rattle.cases.proofs.Tested.{Tested, passed, failed, after, both, either, number, at_most}
use Rattle.cases.proofs.Values.{sized, written, told, outcome}

abbrev each_call : (b : List ℕ) (hs : List Heard) → Tested (Calls b hs)
each_call b [] = passed tt
each_call b (h ∷ hs) =
    let r = received b h.house (says h.kind) in
    both (outcome r.given (handed 0 (message_for h.gives) (delivered h.delivers))) (each_call r.book hs)

abbrev row : (r : Row) → Tested (Holds r)
row (card n t q) = both (number (counts_of n 0).t t) (number (counts_of n 0).quorum q)
row (short n vouchers) = at_most (suc vouchers) (counts_of n 0).quorum
row (size n numbers answer length) = sized (length_answer n numbers) (record { answer = answer; length = length })
row (judge s d answer) = number (judged (sheet_bytes s) (bytes_of d)) answer
row (form m bytes) =
    both
    (written (written_of m.kind m.season m.sender m.number m.declaration) (record { answer = 0; message = bytes }))
    (told (read_of bytes) (read_as m))
row (calls n hs) = each_call (fresh_book n) hs

abbrev pub table : (rs : List (ℕ × Row)) → Tested (All rs)
table [] = passed tt
table (r ∷ rs) = both (row r.1) (table rs)

abbrev has : (c : ℕ) (rs : List (ℕ × Row)) → Tested (Has c rs)
has c [] = failed
has c (r ∷ rs) = either (number r.0 c) (has c rs)

abbrev pub has_each : (n : ℕ) (rs : List (ℕ × Row)) → Tested ((c : ℕ) → 0 < c → c ≤ n → Has c rs)
has_each zero rs = passed (λ c a b. absurd (omega arith))
has_each (suc n) rs =
    after (both (has (suc n) rs) (has_each n rs))
    λ h c a b. elim (dec_le c n) [ yes l ↦ h.1 c a l | no f ↦ subst (λ (x : ℕ). Has x rs) (omega arith) h.0 ]
