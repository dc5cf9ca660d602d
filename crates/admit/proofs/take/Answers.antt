-- Each kind takes its step; a SEND of another house is refused with 6.
use Rattle.std.proofs.Common.{ap}
use Rattle.message.specs.Message.{number_of}
use Rattle.admit.proofs.Heard.{send_taken, echo_taken, ready_taken, another_heard}
use Rattle.admit.proofs.take.Goals as goal

pub returns-then-house-letter : goal.returns-then-house-letter
returns-then-house-letter c =
    let a = c.args in
    let l = a.letter.now in
    let r = c.requires in
    another_heard a.book.now l.bytes.now r.0.comes a.house _ l.of_kind r.0.fits.has r.1 r.0.plausible.ok _ l.of_sender
    (ap number_of c.in-Send.is) c.if-house-letter.true

pub returns-else-house-letter : goal.returns-else-house-letter
returns-else-house-letter c =
    let a = c.args in
    let l = a.letter.now in
    send_taken a.book.now l.bytes.now c.requires.0.comes a.house _ l.of_kind _ l.of_sender (ap number_of c.in-Send.is)
    c.if-house-letter.false _ c.hear_send.ensures

pub returns-in-Echo : goal.returns-in-Echo
returns-in-Echo c =
    let a = c.args in
    let l = a.letter.now in
    echo_taken a.book.now l.bytes.now c.requires.0.comes a.house _ l.of_kind (ap number_of c.in-Echo.is) _ c.hear_echo.ensures

pub returns-in-Ready : goal.returns-in-Ready
returns-in-Ready c =
    let a = c.args in
    let l = a.letter.now in
    ready_taken a.book.now l.bytes.now c.requires.0.comes a.house _ l.of_kind (ap number_of c.in-Ready.is) _ c.hear_ready.ensures
