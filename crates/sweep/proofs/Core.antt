-- What the code works out is what 2026-05 asks: the answer, every line and the totals.
use Prim.Native.Nat.{ℕ, ◌<◌, min}
use mathlib.Core.Path.{◌≡◌, refl, sym, ap, ◌∙◌}
use mathlib.Core.Option.{Option, none, some}
use mathlib.Core.Bool.{Bool, true, false, ◌&&◌}
use mathlib.Core.List.{List}
use native.Mathlib.Omega.{arith}
use lib.ListN.{length, take, drop, length-take}
use lib.Dec.{leb, eqb}
use lib.Seq.{length-take-le}
use borrow.Author.Tests.{leb-true, leb-false, ne_eqb}
use Rattle.std.specs.Prelude.{Err}
use Rattle.refusal.specs.declared.Refusal.TheVariants.{NotSound}
use Rattle.roll.specs.declared.Line.{Line}
use Rattle.roll.specs.declared.Totals.{Totals}
use Rattle.roll.specs.declared.Ask.{Ask}
use Rattle.roll.specs.declared.Ask.TheVariants.{Enter, Strike}
use Rattle.roll.specs.Roll.{ordered, all_finite, weight, highest, totals_of, same_totals, sound}
use Rattle.roll.specs.Roll.{refused, entered, struck, lot_asked, changed}
use Rattle.std.proofs.lemmas.Bool.{and_parts}
use Rattle.roll.proofs.Tests.{bcase}
use Rattle.roll.proofs.Highest.{among_finite, top_is}
use Rattle.lines.specs.declared.Seen.{Seen}
use Rattle.lines.specs.Look.{nothing_seen, seen_in}
use Rattle.lines.proofs.Scan.{sees_fine, sees_kilograms}
use Rattle.lines.proofs.Tops.{FiniteIn, all_is}
use Rattle.plans.specs.Plan.{long_enough, begun, top_totals, sound_seen}
use Rattle.plans.specs.Plan.{planned, decided}
use Rattle.sweep.specs.Sweep.{looked_at, settled, worked}
use Rattle.sweep.proofs.Settling.{marked, strike_settles, enter_settles}

-- the highest line of ordered and finite ones is finite
highest_finite : (ls : List Line) → ordered ls ≡ true → all_finite ls ≡ true → FiniteIn (highest ls)
highest_finite ls o a = go (highest ls) refl
  where
    go : (b : Option Line) → highest ls ≡ b → FiniteIn b
    go none e = tt
    go (some l) e = among_finite ls a l (top_is ls l o a e).one_of

-- ---- a roll that is not sound is refused

unsound : (ls : List Line) (t : Totals) (q : Ask) → sound ls t ≡ false → refused 20 ls t ≡ changed ls t q
unfolding changed entered struck
unsound ls t (Enter l) e = rw e
unsound ls t (Strike lot) e = rw e

decided_unsound : (n : ℕ) (t : Totals) (q : Ask) (s : Seen) → sound_seen n t s ≡ false → decided n t q s ≡ Err NotSound
unfolding decided
decided_unsound n t q s e = rw e

decided_sound : (n : ℕ) (t : Totals) (q : Ask) (s : Seen) → sound_seen n t s ≡ true → decided n t q s ≡ planned n t q s
unfolding decided
decided_sound n t q s e = rw e

module _ (ls : List Line) (t : Totals) (q : Ask) where
  abbrev n : ℕ
  n = length ls

  abbrev m : ℕ
  m = t.lines

  abbrev lot : ℕ
  lot = lot_asked q

  abbrev used : List Line
  used = take m ls

  abbrev free : List Line
  free = drop m ls

  abbrev sc : Seen
  sc = seen_in lot used

  abbrev Works : Type 0
  Works = worked ls t q ≡ changed ls t q

  -- whatever was seen
  refuses : ((s : Seen) → sound_seen n t s ≡ false) → sound ls t ≡ false → Works
  refuses f g =
      ap (settled ls t) (decided_unsound n t q (looked_at (begun n t q) ls) (f _)) ∙ unsound ls t q g

  -- ---- too long

  long : leb n 4096 ≡ false → Works
  unfolding sound sound_seen long_enough
  long e = refuses (λ s. rw e) (rw e)

  -- ---- more lines in use than there are

  third : (a b c d : Bool) → d ≡ false → a && (b && (c && d)) ≡ false
  third true true true d e = e
  third true true false d e = refl
  third true false c d e = refl
  third false b c d e = refl

  lines_off : (k : ℕ) (a c : Bool) → (m ≡ k → ⊥) → a && (eqb m k && c) ≡ false
  lines_off k true c d = rw (ne_eqb m k d)
  lines_off k false c d = refl

  others_not_same : leb m n ≡ false → same_totals t (totals_of used) ≡ false
  unfolding same_totals
  others_not_same e = lines_off (length used) (eqb t.kilograms (weight used)) _ (short (leb-false m n e) (length-take m ls))
    where
      short : {k : ℕ} → n < m → k ≡ min m n → m ≡ k → ⊥
      short a b c = omega arith

  past : leb n 4096 ≡ true → leb m n ≡ false → Works
  unfolding sound sound_seen long_enough
  past e f =
      refuses (λ s. rw (e, f)) (third (leb n 4096) (ordered used) (all_finite used) (same_totals t (totals_of used)) (others_not_same f))

  -- ---- the lines in use are seen

  module _ (short : leb n 4096 ≡ true) (fits : leb m n ≡ true) where
    used_long : length used ≡ m
    used_long = length-take-le m ls (leb-true m n fits)

    begun_is : looked_at (begun n t q) ls ≡ sc
    unfolding begun long_enough
    begun_is = rw (short, fits)

    worked_is : worked ls t q ≡ settled ls t (decided n t q sc)
    worked_is = ap (λ (s : Seen). settled ls t (decided n t q s)) begun_is

    seen_fine : sc.fine ≡ ordered used && all_finite used
    seen_fine = sees_fine used lot nothing_seen

    -- not in order, or not finite
    rough : (a b c d : Bool) → b && c ≡ false → a && (b && (c && d)) ≡ false
    rough true true c d e = rw e
    rough true false c d e = refl
    rough false b c d e = refl

    not_fine : ordered used && all_finite used ≡ false → Works
    unfolding sound sound_seen long_enough
    not_fine e =
        worked_is ∙ ap (settled ls t) (decided_unsound n t q sc (rw (short, fits, seen_fine ∙ e)))
        ∙ unsound ls t q (rough (leb n 4096) (ordered used) (all_finite used) (same_totals t (totals_of used)) e)

    module _ (o : ordered used ≡ true) (a : all_finite used ≡ true) where
      is_fine : sc.fine ≡ true
      is_fine = seen_fine ∙ rw (o, a)

      kilograms_seen : sc.kilograms ≡ weight used
      kilograms_seen = sees_kilograms used lot nothing_seen ∙ omega arith

      totals_seen : top_totals sc.kilograms m sc.all ≡ totals_of used
      totals_seen = ap (top_totals sc.kilograms m) (all_is lot used a) ∙ marked sc.kilograms m used kilograms_seen (sym used_long)

      sound_seen_lem : sound_seen n t sc ≡ same_totals t (totals_of used)
      unfolding sound_seen long_enough
      sound_seen_lem = rw (short, fits, is_fine) (ap (same_totals t) totals_seen)

      sound_is : sound ls t ≡ same_totals t (totals_of used)
      unfolding sound
      sound_is = rw (short, o, a)

      -- other totals
      other_totals : same_totals t (totals_of used) ≡ false → Works
      other_totals e =
          worked_is ∙ ap (settled ls t) (decided_unsound n t q sc (sound_seen_lem ∙ e)) ∙ unsound ls t q (sound_is ∙ e)

      -- the totals are those of the lines in use
      planned_is : same_totals t (totals_of used) ≡ true → worked ls t q ≡ settled ls t (planned n t q sc)
      planned_is those = worked_is ∙ ap (settled ls t) (decided_sound n t q sc (sound_seen_lem ∙ those))

-- for every roll, every totals and every ask
pub works : (ls : List Line) (t : Totals) (q : Ask) → worked ls t q ≡ changed ls t q
unfolding changed
works ls t q =
    bcase (leb (length ls) 4096)
    (λ e. bcase (leb t.lines (length ls))
    (λ f. bcase (ordered lines && all_finite lines)
    (λ g. sound_lines e f (and_parts (ordered lines) (all_finite lines) g).0 (and_parts (ordered lines) (all_finite lines) g).1)
    (not_fine ls t q e f))
    (past ls t q e))
    (long ls t q)
  where
    lines : List Line
    lines = take t.lines ls

    asked : leb t.lines (length ls) ≡ true → ordered lines ≡ true → all_finite lines ≡ true → sound ls t ≡ true
        → same_totals t (totals_of lines) ≡ true → (q : Ask)
        → settled ls t (planned (length ls) t q (seen_in (lot_asked q) lines)) ≡ changed ls t q
    asked f o a s those (Enter l) = enter_settles ls t f o a s those l.lot l refl
    asked f o a s those (Strike lot) = strike_settles ls t f o a s those lot

    sound_lines : (e : leb (length ls) 4096 ≡ true) (f : leb t.lines (length ls) ≡ true) (o : ordered lines ≡ true)
        (a : all_finite lines ≡ true)
        → worked ls t q ≡ changed ls t q
    sound_lines e f o a =
        bcase (same_totals t (totals_of lines))
        (λ those. planned_is ls t q e f o a those ∙ asked f o a (sound_is ls t q e f o a ∙ those) those q)
        (other_totals ls t q e f o a)
