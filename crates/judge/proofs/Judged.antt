-- What judging answers, by the legal sheet that the bytes were read as.
use Prim.Native.Nat.{ℕ}
use mathlib.Core.Path.{refl, ap, ◌∙◌}
use mathlib.Core.List.{List}
use Rattle.std.specs.Prelude.{◌≡◌, Bool, true, false, cond, Some, None, if◌then◌else◌}
use Rattle.sheet.specs.declared.Sheet.{Sheet}
use Rattle.lot.specs.declared.Declaration.{Declaration}
use Rattle.lot.specs.Declaration.{declaration_at}
use Rattle.sheet.specs.Sheet.{sheet_legal, plausible}
use Rattle.sheet.specs.Kept.{sheet_at, is_sheet, judged}
use Rattle.sheet.proofs.Gates.{sheet_legal_lem}

given : (b : Bool) (x y : Sheet) → Some x ≡ (if b then Some y else None) → (b ≡ true) × (x ≡ y)
given true x y e = (refl, cc)
given false x y e = absurd (cc)

not_given : (b : Bool) (y : Sheet) → None ≡ (if b then Some y else None) → b ≡ false
not_given true y e = absurd (cc)
not_given false y e = refl

module _ (s d : List ℕ) where
  pub unread : None ≡ (if is_sheet s then Some (sheet_at s 0) else None) → judged s d ≡ 10
  unfolding judged
  unread e = rw (not_given _ _ e)

  module _ (x : Sheet) (e : Some x ≡ (if is_sheet s then Some (sheet_at s 0) else None)) where
    pub read_legal : sheet_legal x ≡ true
    read_legal = let g = given _ _ _ e in ap sheet_legal g.1 ∙ sheet_legal_lem s g.0

    module _ (y : Declaration) (f : y ≡ declaration_at d 0) (p : Bool) (q : p ≡ plausible x y) where
      by_read : judged s d ≡ cond p 0 5
      unfolding judged
      by_read = let g = given _ _ _ e in rw (g.0, q, f, g.1)

      pub not_plausible : p ≡ false → 5 ≡ judged s d
      not_plausible u = rw (by_read, u)

      pub is_plausible : p ≡ true → 0 ≡ judged s d
      is_plausible u = rw (by_read, u)

-- what `judge` needs, under one name
pub ruleset judging = (unread, read_legal, not_plausible, is_plausible)
