-- The contracts that `Claims` settles are those of the fourteen calls in the source, as Rattle reads them.
use mathlib.Core.Path.{◌≡◌}
use contract.Lifetimes.{Lfts}
use borrow.Fn.World.{ArgsD, ResD}
use borrow.Fn.Kinds.{ended_of}
use denote.Triple.Clauses.{AtExit}
use Rattle.house.proofs.Claims.{claims}
use Rattle.house.specs.contracts.gm_length
use Rattle.house.proofs.gm_length.Reads as length_reads
use Rattle.house.proofs.gm_length.Kinds as length_kinds
use Rattle.house.specs.contracts.gm_open
use Rattle.house.proofs.gm_open.Reads as open_reads
use Rattle.house.proofs.gm_open.Kinds as open_kinds
use Rattle.house.specs.contracts.gm_publish
use Rattle.house.proofs.gm_publish.Reads as publish_reads
use Rattle.house.proofs.gm_publish.Kinds as publish_kinds
use Rattle.house.specs.contracts.gm_receive
use Rattle.house.proofs.gm_receive.Reads as receive_reads
use Rattle.house.proofs.gm_receive.Kinds as receive_kinds
use Rattle.house.specs.contracts.gm_receive_entry
use Rattle.house.proofs.gm_receive_entry.Reads as receive_entry_reads
use Rattle.house.proofs.gm_receive_entry.Kinds as receive_entry_kinds
use Rattle.house.specs.contracts.gm_waiting
use Rattle.house.proofs.gm_waiting.Reads as waiting_reads
use Rattle.house.proofs.gm_waiting.Kinds as waiting_kinds
use Rattle.house.specs.contracts.gm_return
use Rattle.house.proofs.gm_return.Reads as return_reads
use Rattle.house.proofs.gm_return.Kinds as return_kinds
use Rattle.house.specs.contracts.gm_sent
use Rattle.house.proofs.gm_sent.Reads as sent_reads
use Rattle.house.proofs.gm_sent.Kinds as sent_kinds
use Rattle.house.specs.contracts.gm_judge
use Rattle.house.proofs.gm_judge.Reads as judge_reads
use Rattle.house.proofs.gm_judge.Kinds as judge_kinds
use Rattle.house.specs.contracts.gm_write
use Rattle.house.proofs.gm_write.Reads as write_reads
use Rattle.house.proofs.gm_write.Kinds as write_kinds
use Rattle.house.specs.contracts.gm_read
use Rattle.house.proofs.gm_read.Reads as read_reads
use Rattle.house.proofs.gm_read.Kinds as read_kinds
use Rattle.house.specs.contracts.gm_roll_line
use Rattle.house.proofs.gm_roll_line.Reads as line_reads
use Rattle.house.proofs.gm_roll_line.Kinds as line_kinds
use Rattle.house.specs.contracts.gm_roll_insert
use Rattle.house.proofs.gm_roll_insert.Reads as insert_reads
use Rattle.house.proofs.gm_roll_insert.Kinds as insert_kinds
use Rattle.house.specs.contracts.gm_roll_strike
use Rattle.house.proofs.gm_roll_strike.Reads as strike_reads
use Rattle.house.proofs.gm_roll_strike.Kinds as strike_kinds

pub length_settled : (κs : Lfts 0) (a : ArgsD gm_length.signature κs) (r r' : ResD gm_length.signature κs)
    (s s' : AtExit (ended_of 0 length_kinds.ps length_kinds.r) κs) → length_reads.Post κs a r s → length_reads.Post κs a r' s' → r ≡ r'
length_settled κs a r r' s s' p q = claims.settled.sizes.length_settled _ _ r r' p q

pub open_settled : (κs : Lfts 2) (a : ArgsD gm_open.signature κs) (r r' : ResD gm_open.signature κs)
    (s s' : AtExit (ended_of 2 open_kinds.ps open_kinds.r) κs) → open_reads.Post κs a r s → open_reads.Post κs a r' s'
    → (r ≡ r') × (s.0.now ≡ s'.0.now)
open_settled κs a r r' s s' p q = claims.settled.opening.open_settled _ _ _ _ _ _ _ _ r r' _ _ p q

pub publish_settled : (κs : Lfts 2) (a : ArgsD gm_publish.signature κs) (r r' : ResD gm_publish.signature κs)
    (s s' : AtExit (ended_of 2 publish_kinds.ps publish_kinds.r) κs) → publish_reads.Post κs a r s → publish_reads.Post κs a r' s'
    → (r ≡ r') × (s.0.now ≡ s'.0.now)
publish_settled κs a r r' s s' p q = claims.settled.calls.publish_settled _ _ _ r r' _ _ p q

pub receive_settled : (κs : Lfts 2) (a : ArgsD gm_receive.signature κs) (r r' : ResD gm_receive.signature κs)
    (s s' : AtExit (ended_of 2 receive_kinds.ps receive_kinds.r) κs) → receive_reads.Post κs a r s → receive_reads.Post κs a r' s'
    → (r ≡ r') × (s.0.now ≡ s'.0.now)
receive_settled κs a r r' s s' p q = claims.settled.calls.receive_settled _ _ _ r r' _ _ p q

pub receive_entry_settled : (κs : Lfts 2) (a : ArgsD gm_receive_entry.signature κs) (r r' : ResD gm_receive_entry.signature κs)
    (s s' : AtExit (ended_of 2 receive_entry_kinds.ps receive_entry_kinds.r) κs)
    → receive_entry_reads.Post κs a r s → receive_entry_reads.Post κs a r' s' → (r ≡ r') × (s.0.now ≡ s'.0.now)
receive_entry_settled κs a r r' s s' p q = claims.settled.calls.receive_entry_settled _ _ _ r r' _ _ p q

pub waiting_settled : (κs : Lfts 1) (a : ArgsD gm_waiting.signature κs) (r r' : ResD gm_waiting.signature κs)
    (s s' : AtExit (ended_of 1 waiting_kinds.ps waiting_kinds.r) κs) → waiting_reads.Post κs a r s → waiting_reads.Post κs a r' s' → r ≡ r'
waiting_settled κs a r r' s s' p q = claims.settled.calls.waiting_settled _ r r' p q

pub return_settled : (κs : Lfts 1) (a : ArgsD gm_return.signature κs) (r r' : ResD gm_return.signature κs)
    (s s' : AtExit (ended_of 1 return_kinds.ps return_kinds.r) κs) → return_reads.Post κs a r s → return_reads.Post κs a r' s' → r ≡ r'
return_settled κs a r r' s s' p q = claims.settled.calls.return_settled _ r r' p q

pub sent_settled : (κs : Lfts 1) (a : ArgsD gm_sent.signature κs) (r r' : ResD gm_sent.signature κs)
    (s s' : AtExit (ended_of 1 sent_kinds.ps sent_kinds.r) κs) → sent_reads.Post κs a r s → sent_reads.Post κs a r' s' → r ≡ r'
sent_settled κs a r r' s s' p q = claims.settled.calls.sent_settled _ _ _ _ r r' p q

pub judge_settled : (κs : Lfts 2) (a : ArgsD gm_judge.signature κs) (r r' : ResD gm_judge.signature κs)
    (s s' : AtExit (ended_of 2 judge_kinds.ps judge_kinds.r) κs) → judge_reads.Post κs a r s → judge_reads.Post κs a r' s' → r ≡ r'
judge_settled κs a r r' s s' p q = claims.settled.judge_settled _ _ r r' p q

pub write_settled : (κs : Lfts 1) (a : ArgsD gm_write.signature κs) (r r' : ResD gm_write.signature κs)
    (s s' : AtExit (ended_of 1 write_kinds.ps write_kinds.r) κs) → write_reads.Post κs a r s → write_reads.Post κs a r' s' → r ≡ r'
write_settled κs a r r' s s' p q = claims.settled.write_settled _ _ _ _ _ r r' p q

pub read_settled : (κs : Lfts 1) (a : ArgsD gm_read.signature κs) (r r' : ResD gm_read.signature κs)
    (s s' : AtExit (ended_of 1 read_kinds.ps read_kinds.r) κs) → read_reads.Post κs a r s → read_reads.Post κs a r' s' → r ≡ r'
read_settled κs a r r' s s' p q = claims.settled.read_settled _ r r' p q

pub line_settled : (κs : Lfts 1) (a : ArgsD gm_roll_line.signature κs) (r r' : ResD gm_roll_line.signature κs)
    (s s' : AtExit (ended_of 1 line_kinds.ps line_kinds.r) κs) → line_reads.Post κs a r s → line_reads.Post κs a r' s' → r ≡ r'
line_settled κs a r r' s s' p q = claims.settled.line_settled _ r r' p q

pub insert_settled : (κs : Lfts 2) (a : ArgsD gm_roll_insert.signature κs) (r r' : ResD gm_roll_insert.signature κs)
    (s s' : AtExit (ended_of 2 insert_kinds.ps insert_kinds.r) κs) → insert_reads.Post κs a r s → insert_reads.Post κs a r' s'
    → (r ≡ r') × (s.0.now ≡ s'.0.now) × (s.1.0.now ≡ s'.1.0.now)
insert_settled κs a r r' s s' p q = claims.settled.insert_settled _ _ _ r r' _ _ _ _ p q

pub strike_settled : (κs : Lfts 2) (a : ArgsD gm_roll_strike.signature κs) (r r' : ResD gm_roll_strike.signature κs)
    (s s' : AtExit (ended_of 2 strike_kinds.ps strike_kinds.r) κs) → strike_reads.Post κs a r s → strike_reads.Post κs a r' s'
    → (r ≡ r') × (s.0.now ≡ s'.0.now) × (s.1.0.now ≡ s'.1.0.now)
strike_settled κs a r r' s s' p q = claims.settled.strike_settled _ _ _ r r' _ _ _ _ p q
