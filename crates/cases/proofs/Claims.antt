-- What this crate promises, proved: the whole table is one computation, whose `unfolding` line names what it computes with.
use mathlib.Core.Path.{◌≡◌, refl}
use mathlib.Core.Bool.{true}
use Rattle.card.specs.Card.{houses_ok, down_ok, counts_of}
use Rattle.lot.specs.Declaration.{bytes_of}
use Rattle.sheet.specs.Kept.{sheet_bytes, judged}
use Rattle.message.specs.Message.{wire, read_of, request_of, written_of}
use Rattle.entry.specs.Entry.{same}
use Rattle.protocol.specs.Steps.{recording, takes_send, takes_echo, takes_ready, receive}
use Rattle.protocol.specs.Book.{outcome}
use Rattle.protocol.specs.Thresholds.{rules_of}
use Rattle.entry.proofs.Basics.{T_of}
use Rattle.meaning.specs.Slot.{slot_at}
use Rattle.meaning.specs.Layout.{numbers_ok, most_limit, length_of, entry_slot}
use Rattle.meaning.specs.Book.{meant, write}
use Rattle.meaning.specs.Legal.{legal}
use Rattle.meaning.specs.Opening.{opened, length_answer}
use Rattle.calls.specs.Call.{received}
use Rattle.cases.specs.Rows.{rows}
use Rattle.cases.specs.Claims.{Claims}
use Rattle.cases.proofs.Rows.{table, has_each}

computes : (table rows).test ≡ true
unfolding counts_of judged sheet_bytes bytes_of written_of read_of request_of opened length_answer houses_ok down_ok numbers_ok
    most_limit length_of write received legal meant slot_at entry_slot wire same outcome
    receive recording takes_send takes_echo takes_ready rules_of
computes = refl

pub claims : Claims
claims =
    record {
      all_hold = (table rows).shows (T_of computes);
      none_left_out = (has_each 19 rows).shows tt;
    }
