-- What a liar can't move: in each run the deliveries are the sender's publications, so those of the two are equal.
use Prim.Native.Nat.{ℕ, ◌≤◌, ◌<◌}
use mathlib.Core.Path.{◌≡◌, sym, subst, ◌∙◌}
use mathlib.Core.Bool.{◌&&◌}
use lib.Dec.{T, ltb, ltb→lt}
use native.Mathlib.Omega.{arith}
use Rattle.card.proofs.Counting.{count_pos}
use Rattle.entry.proofs.Basics.{bcase, T_of, not_of, and_l, and_mk}
use Rattle.season.specs.Run.{Houses, State, is_honest, is_up, downs, Drained}
use Rattle.season.proofs.Season.{claims}
use Rattle.liar.specs.Unmoved.{Run, end, Under, Unmoved, Stays, UnmovedUp}

-- an honest house's number is below n
pub below : (H : Houses) (p : ℕ) → T (is_honest H p) → p < H.n
below H p g = ltb→lt p H.n (and_l (ltb p H.n) _ g)

-- where none is down, an honest house is up
pub up : (H : Houses) (s : State) → downs H s ≤ 0 → (p : ℕ) → T (is_honest H p) → T (is_up H s p)
up H s none p g =
    and_mk (is_honest H p) _ g (bcase (s.power.down p)
    (λ t. absurd (omega (
      arith,
      none,
      count_pos (λ q. is_honest H q && s.power.down q) H.n p (below H p g) (and_mk (is_honest H p) _ g (T_of t)),
    )))
    (λ t. not_of (s.power.down p) t))

-- drained, the deliveries are the sender's publications: none for none
pub equal : (x : Run) → Under x → (j c r : ℕ) → c < x.houses.numbers → Drained x.houses j c (end x) → Stays x j → Stays x r
    → (end x).gave.deliveries r j c ≡ (end x).gave.publications j j c
equal x U j c r number drained sender house =
    ((claims x.houses U.opened x.steps j c (below x.houses j (and_l (is_honest x.houses j) _ sender)) number
    ).complete U.few U.limited U.low drained).equal sender r house

pub unmoved_up : UnmovedUp
unmoved_up x y U W j c A sx sy r hx hy =
    equal x U j c r A.first_number A.first_drained sx hx
    ∙ A.published
    ∙ sym (equal y W j c r A.second_number A.second_drained sy hy)

-- with f at zero
stays : (x : Run) → Under x → x.houses.down ≡ 0 → (p : ℕ) → T (is_honest x.houses p) → Stays x p
stays x U e p g = up x.houses (end x) (omega (arith, U.low, e)) p g

pub unmoved : Unmoved
unmoved x y U W e q same j c A sender r house =
    unmoved_up x y U W j c A (stays x U e j sender) (stays y W q j (subst T (same j) sender)) r (stays x U e r house)
    (stays y W q r (subst T (same r) house))
