-- 1, 4, 5 and 8 leave the book; else the own entry is marked, and its SEND given.
use Rattle.std.proofs.Common.{ℕ, ap, sym, refl, ◌∙◌, arith, rules, get_or, Fits, w8}
use Rattle.entry.specs.Entry.{is_some}
use Rattle.meaning.specs.Book.{sheet_of}
use Rattle.meaning.specs.Layout.{slot_place, published_slot}
use Rattle.meaning.specs.Legal.{IsDecl}
use Rattle.meaning.specs.Slot.{slot_at}
use Rattle.meaning.proofs.Legality.{legal_head}
use Rattle.meaning.proofs.Room.{header_room, published_room}
use Rattle.calls.proofs.Checking.{head_sheet}
use Rattle.calls.proofs.Declarations.{plausible_ok}
use Rattle.calls.proofs.Published.{published_no_book, number_refused, lot_refused, already_refused, publication_called}
use Rattle.publish.proofs.Publication.{as_called, publication_entered}
use Rattle.publish.proofs.enter.Goals as goal

pub returns-then-not-is_legal : goal.returns-then-not-is_legal
returns-then-not-is_legal c =
    let a = c.args in
    published_no_book a.book.now a.number a.declaration.now (sym c.is_legal.ensures ∙ c.if-not-is_legal.true) _ refl

pub numbers_of-requires : goal.numbers_of-requires
numbers_of-requires c = let h = header_room _ (sym c.is_legal.ensures ∙ c.if-not-is_legal.false) in omega arith

pub returns-then-number-from : goal.returns-then-number-from
returns-then-number-from c =
    let a = c.args in
    let h = sym c.is_legal.ensures ∙ c.if-not-is_legal.false in
    let fits : (i : ℕ) → Fits w8 (get_or a.declaration.now i 0) = λ i. search rules in
    let dv : IsDecl a.declaration.now = record { long = search rules; bytes = λ i. (fits i).fits } in
    as_called a.book.now h a.number a.declaration.now dv _ (number_refused a.book.now h a.number a.declaration.now (omega arith) _ refl)

pub sheet_of-requires : goal.sheet_of-requires
sheet_of-requires c = let h = header_room _ (sym c.is_legal.ensures ∙ c.if-not-is_legal.false) in omega arith

pub is_plausible-requires : goal.is_plausible-requires
is_plausible-requires c =
    head_sheet c.args.book.now _ (legal_head _ (sym c.is_legal.ensures ∙ c.if-not-is_legal.false)) c.sheet_of.ensures

pub returns-then-not-is_plausible : goal.returns-then-not-is_plausible
returns-then-not-is_plausible c =
    let a = c.args in
    let h = sym c.is_legal.ensures ∙ c.if-not-is_legal.false in
    let fits : (i : ℕ) → Fits w8 (get_or a.declaration.now i 0) = λ i. search rules in
    let dv : IsDecl a.declaration.now = record { long = search rules; bytes = λ i. (fits i).fits } in
    let judged = plausible_ok _ (sheet_of a.book.now) a.declaration.now _ _ dv c.sheet_of.ensures c.declaration_at.ensures
    c.is_plausible.ensures in
    as_called a.book.now h a.number a.declaration.now dv _
    (lot_refused a.book.now h a.number a.declaration.now (omega arith) (sym judged ∙ c.if-not-is_plausible.true) _ refl)

pub is_full-requires : goal.is_full-requires
is_full-requires c =
    let h = sym c.is_legal.ensures ∙ c.if-not-is_legal.false in
    let place = c.published-at.ensures ∙ ap (λ (x : ℕ). slot_place x (published_slot c.args.number)) c.shape_of.ensures.0 in
    omega (arith, published_room _ c.args.number (legal_head _ h) (omega arith), place)

pub returns-then-is_full : goal.returns-then-is_full
returns-then-is_full c =
    let a = c.args in
    let h = sym c.is_legal.ensures ∙ c.if-not-is_legal.false in
    let fits : (i : ℕ) → Fits w8 (get_or a.declaration.now i 0) = λ i. search rules in
    let dv : IsDecl a.declaration.now = record { long = search rules; bytes = λ i. (fits i).fits } in
    let judged = plausible_ok _ (sheet_of a.book.now) a.declaration.now _ _ dv c.sheet_of.ensures c.declaration_at.ensures
    c.is_plausible.ensures in
    let place = c.published-at.ensures ∙ ap (λ (x : ℕ). slot_place x (published_slot a.number)) c.shape_of.ensures.0 in
    as_called a.book.now h a.number a.declaration.now dv _
    (already_refused a.book.now h a.number a.declaration.now (omega arith) (sym judged ∙ c.if-not-is_plausible.false) _
    (c.is_full.ensures ∙ ap (λ (x : ℕ). is_some (slot_at a.book.now x)) place) c.if-is_full.true _ refl)

pub own_of-own-requires : goal.own_of-own-requires
own_of-own-requires c = let h = header_room _ (sym c.is_legal.ensures ∙ c.if-not-is_legal.false) in omega arith

pub season_of-season-requires : goal.season_of-season-requires
season_of-season-requires c = let h = header_room _ (sym c.is_legal.ensures ∙ c.if-not-is_legal.false) in omega arith

pub put_slot-requires : goal.put_slot-requires
put_slot-requires c =
    let h = sym c.is_legal.ensures ∙ c.if-not-is_legal.false in
    let place = c.published-at.ensures ∙ ap (λ (x : ℕ). slot_place x (published_slot c.args.number)) c.shape_of.ensures.0 in
    omega (arith, published_room _ c.args.number (legal_head _ h) (omega arith), place)

pub returns : goal.returns
returns c =
    let a = c.args in
    let h = sym c.is_legal.ensures ∙ c.if-not-is_legal.false in
    let fits : (i : ℕ) → Fits w8 (get_or a.declaration.now i 0) = λ i. search rules in
    let dv : IsDecl a.declaration.now = record { long = search rules; bytes = λ i. (fits i).fits } in
    let judged = plausible_ok _ (sheet_of a.book.now) a.declaration.now _ _ dv c.sheet_of.ensures c.declaration_at.ensures
    c.is_plausible.ensures in
    let place = c.published-at.ensures ∙ ap (λ (x : ℕ). slot_place x (published_slot a.number)) c.shape_of.ensures.0 in
    let bytes : (i : ℕ) → Fits w8 (get_or a.book.now i 0) = λ i. search rules in
    as_called a.book.now h a.number a.declaration.now dv _
    (publication_entered a.book.now h (λ i. (bytes i).fits) a.number (omega arith) a.declaration.now dv
    _ _ _ _ _ _ c.shape_of.ensures.0 c.published-at.ensures c.own_of-own.ensures c.season_of-season.ensures c.put_slot.ensures
    c.announce.ensures
    ∙ publication_called a.book.now h a.number a.declaration.now (omega arith) (sym judged ∙ c.if-not-is_plausible.false) _
    (c.is_full.ensures ∙ ap (λ (x : ℕ). is_some (slot_at a.book.now x)) place) c.if-is_full.false)
