-- 4 for the entry, 1 for its slots, 4 for the house, 5; past them the message is of a house and carries a plausible declaration.
use Rattle.std.proofs.Common.{arith, sym, ap₂, ◌∙◌}
use Rattle.meaning.specs.Legal.{Has, entry_legal}
use Rattle.reply.specs.Handed.{sender_in, number_in}
use Rattle.meaning.proofs.Room.{head_room}
use Rattle.calls.proofs.Checking.{head_sheet}
use Rattle.admit.proofs.Heard.{lot_decl, lot_plausible, stranger_heard, implausible_heard, entry_refused, entry_heard, opens_along}
use Rattle.admit.proofs.Heard.{sender_missing, number_missing, entry_found}
use Rattle.admit.proofs.find.Goals as goal

pub n_of-requires : goal.n_of-requires
n_of-requires c = let h = head_room _ c.requires.0.head in omega arith

pub returns-then-sender-n_of : goal.returns-then-sender-n_of
returns-then-sender-n_of c =
    let a = c.args in
    let b = a.book.now in
    let l = a.letter.now in
    let m = l.bytes.now in
    let C = c.requires.0 in
    sender_missing b m C a.house (omega (arith, l.of_sender))

pub numbers_of-requires : goal.numbers_of-requires
numbers_of-requires c = let h = head_room _ c.requires.0.head in omega arith

pub returns-then-number-numbers_of : goal.returns-then-number-numbers_of
returns-then-number-numbers_of c =
    let a = c.args in
    let b = a.book.now in
    let l = a.letter.now in
    let m = l.bytes.now in
    let C = c.requires.0 in
    number_missing b m C a.house (omega (arith, l.of_sender)) (omega (arith, l.of_number))

pub returns-then-not-is_entry_legal : goal.returns-then-not-is_entry_legal
returns-then-not-is_entry_legal c =
    let a = c.args in
    let b = a.book.now in
    let l = a.letter.now in
    let m = l.bytes.now in
    let C = c.requires.0 in
    let t = c.is_entry_legal.ensures ∙ ap₂ (entry_legal b) l.of_sender l.of_number in
    entry_found b m C a.house (omega (arith, l.of_sender)) (omega (arith, l.of_number)) _
    (entry_refused b m C a.house _ t c.if-not-is_entry_legal.true)

pub returns-then-house-from : goal.returns-then-house-from
returns-then-house-from c =
    let a = c.args in
    let b = a.book.now in
    let l = a.letter.now in
    let m = l.bytes.now in
    let C = c.requires.0 in
    let t = c.is_entry_legal.ensures ∙ ap₂ (entry_legal b) l.of_sender l.of_number in
    entry_found b m C a.house (omega (arith, l.of_sender)) (omega (arith, l.of_number)) _
    (entry_heard b m C a.house _ t c.if-not-is_entry_legal.false _ (stranger_heard b m C a.house (omega arith)))

pub is_plausible-requires : goal.is_plausible-requires
is_plausible-requires c = head_sheet c.args.book.now _ c.requires.0.head c.sheet_of.ensures

pub returns-then-not-is_plausible : goal.returns-then-not-is_plausible
returns-then-not-is_plausible c =
    let a = c.args in
    let b = a.book.now in
    let l = a.letter.now in
    let m = l.bytes.now in
    let C = c.requires.0 in
    let t = c.is_entry_legal.ensures ∙ ap₂ (entry_legal b) l.of_sender l.of_number in
    let ok = lot_plausible b m C _ _ _ c.sheet_of.ensures l.of_declaration c.is_plausible.ensures in
    let has : Has b (sender_in m) (number_in m) =
    record { head = C.head; sender = omega (arith, l.of_sender); number = omega (arith, l.of_number) } in
    entry_found b m C a.house (omega (arith, l.of_sender)) (omega (arith, l.of_number)) _
    (entry_heard b m C a.house _ t c.if-not-is_entry_legal.false _ (implausible_heard b m C a.house has (omega arith)
    (sym ok ∙ c.if-not-is_plausible.true)))

pub take-requires : goal.take-requires
take-requires c =
    let a = c.args in
    let b = a.book.now in
    let l = a.letter.now in
    let m = l.bytes.now in
    let C = c.requires.0 in
    let t = c.is_entry_legal.ensures ∙ ap₂ (entry_legal b) l.of_sender l.of_number in
    let ok = lot_plausible b m C _ _ _ c.sheet_of.ensures l.of_declaration c.is_plausible.ensures in
    let o = opens_along b _ _ _ _ c.entry_at-entry.result l.of_sender l.of_number c.entry_at-entry.ensures in (
      record {
        comes = C;
        fits = record {
          has = record { head = C.head; sender = omega (arith, l.of_sender); number = omega (arith, l.of_number) };
          entry = sym t ∙ c.if-not-is_entry_legal.false;
        };
        begins = o.begins;
        plausible = record { decl = lot_decl b m C; ok = sym ok ∙ c.if-not-is_plausible.false };
      },
      omega arith,
    )

pub returns : goal.returns
returns c =
    let a = c.args in
    let b = a.book.now in
    let l = a.letter.now in
    let m = l.bytes.now in
    let C = c.requires.0 in
    let t = c.is_entry_legal.ensures ∙ ap₂ (entry_legal b) l.of_sender l.of_number in
    entry_found b m C a.house (omega (arith, l.of_sender)) (omega (arith, l.of_number)) _
    (entry_heard b m C a.house _ t c.if-not-is_entry_legal.false _ c.take.ensures)
