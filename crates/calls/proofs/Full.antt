-- A full slot of a legal book never changes, and none is reused: whatever call comes, what a slot holds it holds still.
use Prim.Native.Nat.{ℕ, ◌<◌}
use mathlib.Core.Path.{◌≡◌, sym, ap, subst₂, ◌∙◌}
use mathlib.Core.Bool.{true}
use mathlib.Core.List.{List}
use mathlib.Core.Option.{Option}
use Rattle.words.specs.Words.{Bytes}
use Rattle.entry.specs.Entry.{Decl, Stays}
use Rattle.meaning.specs.Layout.{slot_count}
use Rattle.meaning.specs.Book.{n_of, numbers_of, help_of, slot_of, look, meant}
use Rattle.meaning.specs.Legal.{legal}
use Rattle.meaning.proofs.Agree.{agree_n, agree_numbers}
use Rattle.meaning.proofs.Written.{with_entries}
use Rattle.meaning.proofs.Numbered.{slots_of, slots_stay}
use Rattle.meaning.proofs.Every.{slot_is}
use Rattle.calls.specs.Calls.{BookCall, answered}
use Rattle.calls.specs.Keeps.{Keeps}
use Rattle.calls.proofs.Keeps.{answered_keeps}

module _ (b : List ℕ) (h : legal b ≡ true) (bytes : Bytes b) where
  module _ (a : List ℕ) (kept : Keeps b a) where
    -- slots hang on the header and the entries
    slots_after : slots_of (meant a) ≡ slots_of (with_entries (meant b) (look a))
    unfolding meant slots_of
    slots_after = λ i. slots_of (record { header = kept.header i; help = help_of a; entries = look a })

    pub slots_kept : (k : ℕ) → k < slot_count (n_of b) (numbers_of b) → Stays (slot_of b k) (slot_of a k)
    unfolding meant
    slots_kept k l v e =
        let n = agree_n a b kept.header in
        let numbers = agree_numbers a b kept.header in
        slot_is a kept.legal kept.bytes k (subst₂ (λ (n s : ℕ). k < slot_count n s) (sym n) (sym numbers) l)
        ∙ ap (λ (f : ℕ → Option Decl). f k) slots_after
        ∙ slots_stay (meant b) (look a) kept.fills k v (sym (slot_is b h bytes k l) ∙ e)

  -- slot k of the book
  pub answered_full : (call : BookCall) (k : ℕ) → k < slot_count (n_of b) (numbers_of b)
      → Stays (slot_of b k) (slot_of (answered b call).book k)
  answered_full call = slots_kept (answered b call).book (answered_keeps b h bytes call)
