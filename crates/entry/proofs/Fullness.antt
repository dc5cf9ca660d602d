-- What a slot's being full or empty says of what it holds.
use mathlib.Core.Path.{◌≡◌, refl, sym, ◌∙◌}
use mathlib.Core.Bool.{Bool, true, false, true≢false}
use mathlib.Core.Option.{Option, none, some}
use Rattle.entry.specs.Entry.{Decl, is_none, is_some}

pub full_holds : (o : Option Decl) → is_some o ≡ true → (w : Decl) × (o ≡ some w)
full_holds none e = absurd (true≢false (sym e))
full_holds (some w) e = (w, refl)

pub empty_holds : (o : Option Decl) → is_some o ≡ false → o ≡ none
empty_holds none e = refl
empty_holds (some w) e = absurd (true≢false e)

module _ (o : Option Decl) (r : Bool) (e : r ≡ is_some o) where
  pub full_not_none : r ≡ true → is_none o ≡ false
  full_not_none t = let h = full_holds o (sym e ∙ t) in rw h.1

  pub empty_none : r ≡ false → is_none o ≡ true
  empty_none t = rw (empty_holds o (sym e ∙ t))
