-- A line carried upwards over some lines of a list stands before them, and the last of them is left in hand; carried downwards it stands
-- after them, and the first is left in hand. Moving the lines by one place and laying the line down does the same.
use Prim.Native.Nat.{ℕ, zero, suc, ◌+◌, ◌-◌, ◌<◌, ◌≤◌}
use mathlib.Core.Path.{◌≡◌, refl, sym, ap, ◌∙◌}
use mathlib.Core.List.{List, [], ◌∷◌, ◌++◌, append_assoc}
use native.Mathlib.Omega.{arith}
use lib.ListN.{length, get_or, set, take, drop, length-append, length-drop, take-append-drop}
use lib.Seq.{set_at, get_or_at, append_snoc, take-suc, drop-cons, drop-drop, length-take-le}
use Rattle.std.specs.List.{copy_within}
use Rattle.roll.specs.declared.Line.{Line}
use Rattle.roll.specs.declared.Totals.{Totals}
use Rattle.roll.specs.Roll.{zero_line}
use Rattle.plans.specs.declared.Way.{Way}
use Rattle.plans.specs.declared.Way.TheVariants.{Up, Down}
use Rattle.plans.specs.declared.Plan.{Plan}
use Rattle.plans.specs.Plan.{place_at}
use Rattle.sweep.specs.Sweep.{Carried, laid_at, after, carried}

abbrev hold : Line → List Line → Carried
hold x ls = record { hand = x; lines = ls }

-- a plan that carries x over the places from `from` to before `end`
module _ (t : Totals) where
  abbrev pub plan : Way → ℕ → ℕ → Line → Plan
  plan way from end x = record { places = record { start = from; end = end }; way = way; line = x; totals = t }

  length_snoc : (pre : List Line) (x : Line) {k : ℕ} → length pre ≡ k → length (pre ++ (x ∷ [])) ≡ suc k
  length_snoc pre x e = length-append pre (x ∷ []) ∙ ap (λ (m : ℕ). m + 1) e ∙ omega arith

  -- a turn at the line after pre
  turn_at : (pre post : List Line) (m x : Line) (k : ℕ) → length pre ≡ k
      → laid_at k (hold x (pre ++ (m ∷ post))) ≡ hold m (pre ++ (x ∷ post))
  turn_at pre post m x k e = λ i. hold (get_or_at pre m post zero_line k e i) (set_at pre m post x k e i)

  -- ---- upwards

  -- the first turn, and then the others one place on
  front : (from end : ℕ) (x : Line) (ls : List Line) (i : ℕ)
      → after (plan Up from end x) ls (suc i)
      ≡ after (plan Up (suc from) end (laid_at from (hold x ls)).hand) (laid_at from (hold x ls)).lines i
  unfolding place_at
  front from end x ls zero = ap (λ (k : ℕ). laid_at k (hold x ls)) (omega arith)
  front from end x ls (suc i) =
      ap (laid_at (from + suc i)) (front from end x ls i)
      ∙ ap (λ (k : ℕ). laid_at k (after (plan Up (suc from) end (laid_at from (hold x ls)).hand) (laid_at from (hold x ls)).lines i))
      (on from i)
    where
      on : (k i : ℕ) → k + suc i ≡ suc k + i
      on k i = omega arith

  pub up : (ms pre post : List Line) (last x : Line) (from end : ℕ) → length pre ≡ from
      → after (plan Up from end x) (pre ++ (ms ++ (last ∷ post))) (suc (length ms)) ≡ hold last (pre ++ (x ∷ (ms ++ post)))
  up [] pre post last x from end e =
      front from end x (pre ++ (last ∷ post)) 0
      ∙ ap (λ (c : Carried). after (plan Up (suc from) end c.hand) c.lines 0) (turn_at pre post last x from e)
  up (m ∷ ms) pre post last x from end e =
      front from end x (pre ++ (m ∷ (ms ++ (last ∷ post)))) (suc (length ms))
      ∙ ap (λ (c : Carried). after (plan Up (suc from) end c.hand) c.lines (suc (length ms)))
      (turn_at pre (ms ++ (last ∷ post)) m x from e)
      ∙ ap (λ (ls : List Line). after (plan Up (suc from) end m) ls (suc (length ms))) (sym (append_snoc pre x (ms ++ (last ∷ post))))
      ∙ up ms (pre ++ (x ∷ [])) post last m (suc from) end (length_snoc pre x e)
      ∙ ap (hold last) (append_snoc pre x (m ∷ (ms ++ post)))

  -- ---- downwards

  -- all turns but the last are those one place on
  back : (from k end : ℕ) (x : Line) (ls : List Line) (i : ℕ) → from + suc k ≡ end → i ≤ k
      → after (plan Down from end x) ls i ≡ after (plan Down (suc from) end x) ls i
  unfolding place_at
  back from k end x ls zero q l = refl
  back from k end x ls (suc i) q l =
      ap (laid_at (from + (end - from - 1 - i))) (back from k end x ls i q (omega arith))
      ∙ ap (λ (p : ℕ). laid_at p (after (plan Down (suc from) end x) ls i)) (same q l)
    where
      same : from + suc k ≡ end → suc i ≤ k → from + (end - from - 1 - i) ≡ suc from + (end - suc from - 1 - i)
      same q h = omega arith

  pub down : (ms pre post : List Line) (m x : Line) (from end : ℕ) → length pre ≡ from → from + suc (length ms) ≡ end
      → after (plan Down from end x) (pre ++ (m ∷ (ms ++ post))) (suc (length ms)) ≡ hold m (pre ++ (ms ++ (x ∷ post)))
  unfolding place_at
  down [] pre post m x from end e q =
      ap (λ (k : ℕ). laid_at k (hold x (pre ++ (m ∷ post)))) (omega arith) ∙ turn_at pre post m x from e
  down (n ∷ ns) pre post m x from end e q =
      ap (λ (k : ℕ). laid_at k (after (plan Down from end x) (pre ++ (m ∷ (n ∷ (ns ++ post)))) (suc (length ns))))
      (here from end (length ns) q)
      ∙ ap (laid_at from)
      (back from (suc (length ns)) end x (pre ++ (m ∷ (n ∷ (ns ++ post)))) (suc (length ns)) q (omega arith)
      ∙ ap (λ (ls : List Line). after (plan Down (suc from) end x) ls (suc (length ns)))
      (sym (append_snoc pre m (n ∷ (ns ++ post))))
      ∙ down ns (pre ++ (m ∷ [])) post n x (suc from) end (length_snoc pre m e) (one (length ns) q)
      ∙ ap (hold n) (append_snoc pre m (ns ++ (x ∷ post))))
      ∙ turn_at pre (ns ++ (x ∷ post)) m n from e
    where
      here : (f g k : ℕ) → f + suc (suc k) ≡ g → f + (g - f - 1 - suc k) ≡ f
      here f g k q = omega arith

      one : (k : ℕ) → from + suc (suc k) ≡ end → suc from + suc k ≡ end
      one k q = omega arith

  -- ---- by moving the lines

  -- from the place `from` on: the first line, and those after it
  module _ (ls : List Line) (from end : ℕ) (some : from < end) (within : end ≤ length ls) (x : Line) where
    abbrev k : ℕ
    k = end - 1 - from

    abbrev pre : List Line
    pre = take from ls

    abbrev d : List Line
    d = drop from ls

    pre_long : length pre ≡ from
    pre_long = length-take-le from ls (omega arith)

    d_long : suc k ≤ length d
    d_long = omega (arith, length-drop from ls)

    turns_are : end - from ≡ suc k
    turns_are = omega arith

    cut : ls ≡ pre ++ d
    cut = sym (take-append-drop from ls)

    -- up to the last of the places, and from it on
    d_up : d ≡ take k d ++ (get_or d k zero_line ∷ drop (suc k) d)
    d_up = sym (take-append-drop k d) ∙ ap (λ (y : List Line). take k d ++ y) (drop-cons d k zero_line d_long)

    k_long : length (take k d) ≡ k
    k_long = length-take-le k d (omega (arith, d_long))

    -- the lines from `end` on
    rest_is : (j : ℕ) → j ≡ from + suc k → drop j ls ≡ drop (suc k) d
    rest_is j e = ap (λ (i : ℕ). drop i ls) e ∙ sym (drop-drop (suc k) from ls)

    moved_up : set (copy_within ls from (end - 1) (from + 1)) from x ≡ pre ++ (x ∷ (take k d ++ drop (suc k) d))
    moved_up =
        ap (λ (y : List Line). set y from x)
        (append_assoc (take (from + 1) ls) (take k d) (drop (from + 1 + k) ls)
        ∙ ap (λ (y : ℕ). take y ls ++ (take k d ++ drop (y + k) ls)) (next from)
        ∙ (λ i. take-suc ls from zero_line (omega arith) i ++ (take k d ++ rest_is (suc from + k) (omega arith) i))
        ∙ append_snoc pre (get_or ls from zero_line) (take k d ++ drop (suc k) d))
        ∙ set_at pre (get_or ls from zero_line) (take k d ++ drop (suc k) d) x from pre_long
      where
        next : (n : ℕ) → n + 1 ≡ suc n
        next n = omega arith

    pub carried_up : set (copy_within ls from (end - 1) (from + 1)) from x ≡ (carried (plan Up from end x) ls).lines
    carried_up =
        moved_up
        ∙ sym (ap (λ (c : Carried). c.lines) (up (take k d) pre (drop (suc k) d) (get_or d k zero_line) x from end pre_long))
        ∙ (λ i. (after (plan Up from end x) (sym (cut ∙ ap (λ (y : List Line). pre ++ y) d_up) i)
        ((ap suc k_long ∙ sym turns_are) i)).lines)

    -- the first of the places, and those after it
    abbrev above : List Line
    above = drop (suc from) ls

    d_down : d ≡ get_or ls from zero_line ∷ (take k above ++ drop k above)
    d_down =
        drop-cons ls from zero_line (omega arith)
        ∙ ap (λ (y : List Line). get_or ls from zero_line ∷ y) (sym (take-append-drop k above))

    above_long : length (take k above) ≡ k
    above_long = length-take-le k above (omega (arith, length-drop (suc from) ls))

    moved_down : set (copy_within ls (from + 1) end from) (end - 1) x ≡ pre ++ (take k above ++ (x ∷ drop k above))
    moved_down =
        ap (λ (y : List Line). set y (end - 1) x)
        (append_assoc pre (take (end - (from + 1)) (drop (from + 1) ls)) (drop (from + (end - (from + 1))) ls)
        ∙ (λ i. pre ++ (take (count i) (drop (next from i) ls) ++ drop (from + count i) ls))
        ∙ ap (λ (y : List Line). pre ++ (take k above ++ y))
        (drop-cons ls (from + k) zero_line (omega arith)
        ∙ ap (λ (y : List Line). get_or ls (from + k) zero_line ∷ y) beyond)
        ∙ sym (append_assoc pre (take k above) (get_or ls (from + k) zero_line ∷ drop k above)))
        ∙ set_at (pre ++ take k above) (get_or ls (from + k) zero_line) (drop k above) x (end - 1) seam
        ∙ append_assoc pre (take k above) (x ∷ drop k above)
      where
        next : (n : ℕ) → n + 1 ≡ suc n
        next n = omega arith

        count : end - (from + 1) ≡ k
        count = omega arith

        one : (i j : ℕ) → suc (i + j) ≡ suc i + j
        one i j = omega arith

        beyond : drop (suc (from + k)) ls ≡ drop k above
        beyond = ap (λ (i : ℕ). drop i ls) (one from k) ∙ sym (drop-drop k (suc from) ls)

        seam : length (pre ++ take k above) ≡ end - 1
        seam = omega (arith, length-append pre (take k above), pre_long, above_long)

    pub carried_down : set (copy_within ls (from + 1) end from) (end - 1) x ≡ (carried (plan Down from end x) ls).lines
    carried_down =
        moved_down
        ∙ sym (ap (λ (c : Carried). c.lines) (down (take k above) pre (drop k above) (get_or ls from zero_line) x from end pre_long last))
        ∙ (λ i. (after (plan Down from end x) (sym (cut ∙ ap (λ (y : List Line). pre ++ y) d_down) i)
        ((ap suc above_long ∙ sym turns_are) i)).lines)
      where
        last : from + suc (length (take k above)) ≡ end
        last = omega (arith, above_long)

-- a plan carries its line so

pub carries_up : (p : Plan) (ls : List Line) → p.way ≡ Up → p.places.start < p.places.end → p.places.end ≤ length ls
    → set (copy_within ls p.places.start (p.places.end - 1) (p.places.start + 1)) p.places.start p.line ≡ (carried p ls).lines
carries_up p ls w s e =
    carried_up p.totals ls p.places.start p.places.end s e p.line
    ∙ (λ i. (carried (record { places = p.places; way = sym w i; line = p.line; totals = p.totals }) ls).lines)

pub carries_down : (p : Plan) (ls : List Line) → p.way ≡ Down → p.places.start < p.places.end → p.places.end ≤ length ls
    → set (copy_within ls (p.places.start + 1) p.places.end p.places.start) (p.places.end - 1) p.line ≡ (carried p ls).lines
carries_down p ls w s e =
    carried_down p.totals ls p.places.start p.places.end s e p.line
    ∙ (λ i. (carried (record { places = p.places; way = sym w i; line = p.line; totals = p.totals }) ls).lines)
