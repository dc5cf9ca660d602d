-- Words for functions and lists, which the run of entries and the run at the bytes both use, so that they count and change the same way.
use Rattle.std.specs.Prelude.{ℕ, zero, suc, ◌+◌, Bool, cond, List, [], ◌∷◌, ◌++◌, eqb}
use Rattle.std.proofs.Math.Option.{Option, none, some}
use Rattle.card.specs.Count.{bit}

-- f with x at p
abbrev pub upd {ℓ} : {A : Type ℓ} → (ℕ → A) → ℕ → A → ℕ → A
upd f p x i = cond (eqb i p) x (f i)

-- f 0 to f (n - 1), one after the other
abbrev pub each : {A : Type 0} → (ℕ → List A) → ℕ → List A
each f zero = []
each f (suc n) = each f n ++ f n

-- the element at a place, or none; and the list with that element changed
abbrev pub at : {A : Type 0} → List A → ℕ → Option A
at [] i = none
at (m ∷ l) zero = some m
at (m ∷ l) (suc i) = at l i

abbrev pub change_at : {A : Type 0} → (A → A) → List A → ℕ → List A
change_at f [] i = []
change_at f (m ∷ l) zero = f m ∷ l
change_at f (m ∷ l) (suc i) = m ∷ change_at f l i

-- one more, or none
abbrev pub push : {A : Type 0} → Option A → List A → List A
push none l = l
push (some v) l = v ∷ l

-- how many pass a test
abbrev pub tally : {A : Type 0} → (A → Bool) → List A → ℕ
tally P [] = 0
tally P (m ∷ l) = bit (P m) + tally P l

-- one step for each of these places, and then another for each of those
abbrev pub in_turn : {A : Type 0} → (first next : ℕ → A) → List ℕ → List ℕ → List A
in_turn f g [] [] = []
in_turn f g [] (i ∷ k) = g i ∷ in_turn f g [] k
in_turn f g (i ∷ l) k = f i ∷ in_turn f g l k
