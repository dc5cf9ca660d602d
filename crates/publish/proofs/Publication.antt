-- An accepted publication at the bytes is the protocol's step, entered in the book.
use Prim.Native.Nat.{ℕ, ◌<◌}
use mathlib.Core.Path.{◌≡◌, refl, sym, ap, ap₂, ◌∙◌}
use mathlib.Core.Bool.{true}
use mathlib.Core.List.{List}
use mathlib.Core.Option.{Option, none, some}
use Rattle.words.specs.Words.{Bytes}
use Rattle.lot.specs.Declaration.{declaration_at}
use Rattle.entry.specs.Entry.{Decl, SEND}
use Rattle.protocol.specs.Steps.{only_if, publishes}
use Rattle.meaning.specs.Slot.{put_slot}
use Rattle.meaning.specs.Layout.{slot_place}
use Rattle.meaning.specs.Book.{n_of, numbers_of, own_of, season_of, look}
use Rattle.meaning.specs.Legal.{legal, IsDecl}
use Rattle.meaning.proofs.Stores.{stored_published}
use Rattle.calls.specs.declared.Outcome.{Outcome}
use Rattle.protocol.specs.Book.{publishing}
use Rattle.lot.proofs.Declared.{bytes_of_numbers}
use Rattle.calls.specs.Call.{called, published}
use Rattle.calls.proofs.Published.{published_bytes}
use Rattle.calls.specs.Entered.{Result, result_of, handed, wired, published_at}
use Rattle.calls.proofs.Entered.{letter_wired, entered_is}

-- the own entry marked, and its SEND given
pub publication_entered : (b : List ℕ) → legal b ≡ true → Bytes b → (c : ℕ) → c < numbers_of b → (v : Decl) → IsDecl v
    → (n at own season : ℕ) (b₁ : List ℕ) (o : Outcome) → n ≡ n_of b → at ≡ slot_place n c → own ≡ own_of b → season ≡ season_of b
    → b₁ ≡ put_slot b at v → o ≡ handed 0 (some (wired 1 season own c (declaration_at v 0))) none
    → result_of o b₁ ≡ published_at b c v
unfolding published_at publishes
publication_entered b h bytes c l v dv n at own season b₁ o en ea eo es e₁ eq =
    let s = stored_published b h bytes v dv (n_of b) (numbers_of b) refl refl (own_of b) c refl l in
    let w = ap₂ (λ (x y : ℕ). only_if true (wired 1 x y c (declaration_at v 0))) es eo in
    let m = w ∙ letter_wired (season_of b) (own_of b) c true SEND v in
    let place = ea ∙ ap (λ (x : ℕ). slot_place x c) en in
    ap₂ result_of (eq ∙ ap (λ (x : Option (List ℕ)). handed 0 x none) m) (e₁ ∙ ap (λ (x : ℕ). put_slot b x v) place)
    ∙ entered_is b (own_of b) c (publishes v (look b (own_of b) c)) (put_slot b (slot_place (n_of b) c) v) s

-- 20 bytes, as publishing takes them
pub as_called : (b : List ℕ) → legal b ≡ true → (c : ℕ) (v : Decl) → IsDecl v → (x : Result)
    → x ≡ called b (publishing c v) → x ≡ published b c v
as_called b h c v dv = published_bytes b c v v dv.long dv.bytes (sym (bytes_of_numbers v dv.long dv.bytes)) h
