-- A copy at the bytes and the protocol's copy that says the same: what one is answered the other is, and what stands of one stands of
-- the other.
use Prim.Native.Nat.{ℕ}
use mathlib.Core.Path.{◌≡◌, refl, sym, ap, ap₂, ◌∙◌}
use mathlib.Core.List.{List}
use mathlib.Core.Option.{Option, none, some}
use lib.Dec.{T}
use Rattle.lot.proofs.Declared.{bytes_of_numbers}
use Rattle.message.specs.Message.{read_of}
use Rattle.meaning.specs.Book.{look}
use Rattle.entry.specs.Entry.{Kind, heard}
use Rattle.entry.specs.Lists.{at}
use Rattle.protocol.specs.Book.{Call, receiving, outcome}
use Rattle.protocol.specs.Run as protocol
use Rattle.calls.specs.Entered.{Result}
use Rattle.calls.specs.Call.{received}
use Rattle.calls.proofs.KindNumber.{kind_is}
use Rattle.season.specs.Run.{Houses, is_honest, Copy, State}
use Rattle.season.specs.Claims.{Stands}
use Rattle.season.proofs.Mail.{five_for, Says, Both, mails_at}
use Rattle.season.proofs.Calls.{wall, Means, answer_is}
use Rattle.season.proofs.Steps.{copy_called}

same_kind : (k l : Kind) → some k ≡ some l → k ≡ l
same_kind k l e = cc

module _ (H : Houses) (s : State) (z : protocol.State) (M : Means H s z) where
  -- the copy at a place says what the protocol's copy at that place says
  pub said_at : (i : ℕ) (m : Copy) → at s.mail i ≡ some m
      → (x : protocol.Copy) × (at z.mail i ≡ some x) × Says H.season m x
  said_at i m e = go (at z.mail i) refl (rw e at (mails_at (Says H.season) s.mail z.mail M.mail i))
    where
      go : (o : Option protocol.Copy) → at z.mail i ≡ o → Both (Says H.season) (some m) o
          → (x : protocol.Copy) × (at z.mail i ≡ some x) × Says H.season m x
      go none f S = absurd S
      go (some x) f S = (x, f, S)

  -- a copy's consumption is answered as the protocol answers it
  pub copy_answered : (m : Copy) (x : protocol.Copy) → Says H.season m x → T (is_honest H m.to)
      → (received (s.gave.books m.to) m.from m.message).given.answer
      ≡ (outcome (wall H).rules (wall H).numbers x.to (protocol.call_of x) (z.gave.books x.to)).answer
  copy_answered m x S t =
      ap (λ (o : Result). o.given.answer) (copy_called H m.to m.from (s.gave.books m.to) (M.gave.books m.to t) m x S)
      ∙ answer_is H m.to s z M t (call m.from)
      ∙ ap₂ (λ (to from : ℕ). (outcome (wall H).rules (wall H).numbers to (call from) (z.gave.books to)).answer) S.to S.from
    where
      call : ℕ → Call
      call from = receiving from x.kind x.sender x.number x.decl

  -- what stands in the protocol's book stands at the bytes
  pub copy_stands : (m : Copy) (x : protocol.Copy) → Says H.season m x → T (is_honest H m.to)
      → heard x.kind x.from (z.gave.books x.to x.sender x.number) ≡ some x.decl
      → Stands (s.gave.books m.to) m.from (read_of m.message).five
  copy_stands m x S t e =
      let book = sym (M.gave.entries m.to t) ∙ ap z.gave.books S.to in
      rw S.read (
        x.kind,
        kind_is x.kind,
        (λ i. heard x.kind (S.from i) (book i x.sender x.number)) ∙ e
            ∙ ap some (sym (bytes_of_numbers x.decl S.decl.long S.decl.bytes)),
      )

  -- and the other way round
  pub stands_copy : (m : Copy) (x : protocol.Copy) → Says H.season m x → T (is_honest H m.to)
      → Stands (s.gave.books m.to) m.from (read_of m.message).five
      → heard x.kind x.from (z.gave.books x.to x.sender x.number) ≡ some x.decl
  stands_copy m x S t h = go (rw S.read at h)
    where
      b : List ℕ
      b = s.gave.books m.to

      book : look b ≡ z.gave.books x.to
      book = sym (M.gave.entries m.to t) ∙ ap z.gave.books S.to

      go : Stands b m.from (some (five_for H.season x.sender x.number x.kind x.decl))
          → heard x.kind x.from (z.gave.books x.to x.sender x.number) ≡ some x.decl
      go (k, e, f) =
          let kind : k ≡ x.kind = same_kind k x.kind (sym e ∙ kind_is x.kind) in
          (λ i. heard (sym kind i) (sym S.from i) (sym book i x.sender x.number)) ∙ f
          ∙ ap some (bytes_of_numbers x.decl S.decl.long S.decl.bytes)
