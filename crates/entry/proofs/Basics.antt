-- Small facts of tests, slots, marks and vouchers.
use mathlib.Core.Path.{◌≡◌, refl, sym, ap, subst}
use mathlib.Core.Bool.{Bool, true, false, not, cond, ◌&&◌}
use mathlib.Core.Logic.{◌≢◌, ◌⊎◌, inl, inr}
use mathlib.Core.Option.{Option, none, some}
use mathlib.Core.List.{[], ◌∷◌}
use Prim.Native.Nat.{ℕ, ◌≤◌}
use native.Mathlib.Omega.{arith}
use lib.Dec.{T, eqb, eqb→eq, eqb_refl}
use Rattle.card.proofs.Counting.{count_mono}
use Rattle.entry.specs.Entry.{Decl, Kind, SEND, ECHO, READY, same, same_kind, is_none, is_some, holds, votes, mark, same_entry}
use Rattle.entry.specs.Lists.{upd}

pub bcase {ℓ} : {C : Type ℓ} (b : Bool) → (b ≡ true → C) → (b ≡ false → C) → C
bcase true f g = f refl
bcase false f g = g refl

pub T_of : {b : Bool} → b ≡ true → T b
T_of e = rw e tt

pub T_not_of : {b : Bool} → b ≡ false → T b → ⊥
T_not_of e t = rw e at t

pub true_of : (b : Bool) → T b → b ≡ true
true_of true t = refl
true_of false t = absurd t

pub false_of : (b : Bool) → T (not b) → b ≡ false
false_of true t = absurd t
false_of false t = refl

pub not_of : (b : Bool) → b ≡ false → T (not b)
not_of b e = rw e tt

pub not_not : (b : Bool) → T (not (not b)) → T b
not_not true t = tt
not_not false t = t

pub and_l : (a b : Bool) → T (a && b) → T a
and_l true b t = tt
and_l false b t = t

pub and_r : (a b : Bool) → T (a && b) → T b
and_r true b t = t
and_r false b t = absurd t

pub and_mk : (a b : Bool) → T a → T b → T (a && b)
and_mk true b x y = y
and_mk false b x y = x

pub and_false : (a b : Bool) → b ≡ false → (a && b) ≡ false
and_false true b e = e
and_false false b e = refl

pub both : (a b : Bool) → (T a → T b) → (T b → T a) → a ≡ b
both true true f g = refl
both true false f g = absurd (f tt)
both false true f g = absurd (g tt)
both false false f g = refl

pub is_kind_eq : (k l : Kind) → T (same_kind k l) → k ≡ l
is_kind_eq SEND SEND t = refl
is_kind_eq SEND ECHO t = absurd t
is_kind_eq SEND READY t = absurd t
is_kind_eq ECHO SEND t = absurd t
is_kind_eq ECHO ECHO t = refl
is_kind_eq ECHO READY t = absurd t
is_kind_eq READY SEND t = absurd t
is_kind_eq READY ECHO t = absurd t
is_kind_eq READY READY t = refl

pub is_kind_refl : (k : Kind) → T (same_kind k k)
is_kind_refl SEND = tt
is_kind_refl ECHO = tt
is_kind_refl READY = tt

pub same_refl : (v : Decl) → T (same v v)
unfolding same
same_refl [] = tt
same_refl (x ∷ xs) = and_mk (eqb x x) (same xs xs) (eqb_refl x) (same_refl xs)

pub same_eq : (v w : Decl) → T (same v w) → v ≡ w
unfolding same
same_eq [] [] t = refl
same_eq [] (y ∷ ys) t = absurd t
same_eq (x ∷ xs) [] t = absurd t
same_eq (x ∷ xs) (y ∷ ys) t =
    let a : x ≡ y = eqb→eq x y (and_l (eqb x y) (same xs ys) t) in
    let b : xs ≡ ys = same_eq xs ys (and_r (eqb x y) (same xs ys) t) in
    cc

pub holds_eq : (o : Option Decl) (v : Decl) → T (holds o v) → o ≡ some v
holds_eq none v t = absurd t
holds_eq (some w) v t = ap some (same_eq w v t)

pub eq_holds : (o : Option Decl) (v : Decl) → o ≡ some v → T (holds o v)
eq_holds o v e = rw e (same_refl v)

pub is_some_of : (o : Option Decl) (v : Decl) → o ≡ some v → T (is_some o)
is_some_of o v e = rw e tt

pub some_of : (o : Option Decl) → T (is_some o) → (v : Decl) × (o ≡ some v)
some_of none t = absurd t
some_of (some v) t = (v, refl)

pub none_of : (o : Option Decl) → T (is_none o) → o ≡ none
none_of none t = refl
none_of (some v) t = absurd t

pub none_some : (o : Option Decl) (v : Decl) → o ≡ none → o ≡ some v → ⊥
none_some o v a b = let z : ◌≡◌ {A = ℕ} 0 1 = cc in omega arith

pub upd_all {ℓ} : {A : Type ℓ} (Φ : ℕ → A → Type 0) (f : ℕ → A) (p : ℕ) (x : A) → Φ p x → ((i : ℕ) → Φ i (f i)) → (i : ℕ)
    → Φ i (upd f p x i)
upd_all Φ f p x a g i = go (eqb i p) refl
  where
    go : (b : Bool) → eqb i p ≡ b → Φ i (cond b x (f i))
    go true e = subst (λ (k : ℕ). Φ k x) (sym (eqb→eq i p (T_of e))) a
    go false e = g i

pub upd_same {ℓ} : {A : Type ℓ} (f : ℕ → A) (p : ℕ) (x : A) → upd f p x p ≡ x
upd_same f p x = rw (true_of (eqb p p) (eqb_refl p))

pub upd_other {ℓ} : {A : Type ℓ} (f : ℕ → A) (p : ℕ) (x : A) (i : ℕ) → i ≢ p → upd f p x i ≡ f i
upd_other f p x i d = bcase (eqb i p) (λ e. absurd (d (eqb→eq i p (T_of e)))) (λ e. rw e)

-- a slot that is filled at p: what it held elsewhere stays, and what is new stands at p
pub upd_keeps : (f : ℕ → Option Decl) (p : ℕ) (v : Decl) (i : ℕ) (w : Decl) → f p ≡ none → f i ≡ some w → upd f p (some v) i ≡ some w
upd_keeps f p v i w h =
    upd_all (λ i x. f i ≡ some w → x ≡ some w) f p (some v) (λ e. absurd (none_some (f p) w h e)) (λ i e. e) i

pub upd_new : (f : ℕ → Option Decl) (p : ℕ) (v : Decl) (i : ℕ) (w : Decl) → upd f p (some v) i ≡ some w
    → (f i ≡ some w) ⊎ ((i ≡ p) × (v ≡ w))
upd_new f p v i w =
    upd_all (λ i x. x ≡ some w → (f i ≡ some w) ⊎ ((i ≡ p) × (v ≡ w))) f p (some v) (λ e. inr (refl, cc)) (λ i e. inl e) i

pub votes_up : (f : ℕ → Option Decl) (p : ℕ) (v w : Decl) (n : ℕ) → f p ≡ none → votes f w n ≤ votes (upd f p (some v)) w n
votes_up f p v w n e =
    count_mono (λ i. holds (f i) w) (λ i. holds (upd f p (some v) i) w) n
    (λ i h. upd_all (λ i x. T (holds (f i) w) → T (holds x w)) f p (some v) (λ t. absurd (rw e at t)) (λ i t. t) i)

pub votes_other : (f : ℕ → Option Decl) (p : ℕ) (v w : Decl) (n : ℕ) → same v w ≡ false → votes (upd f p (some v)) w n ≤ votes f w n
votes_other f p v w n e =
    count_mono (λ i. holds (upd f p (some v) i) w) (λ i. holds (f i) w) n
    (λ i h. upd_all (λ i x. T (holds x w) → T (holds (f i) w)) f p (some v) (λ t. absurd (T_not_of e t)) (λ i t. t) i)

pub mark_keeps : (b : Bool) (v : Decl) (o : Option Decl) → T (is_some o) → T (is_some (mark b v o))
mark_keeps true v o t = tt
mark_keeps false v o t = t

pub mark_new : (b : Bool) (v : Decl) (o : Option Decl) (w : Decl) → mark b v o ≡ some w → (o ≡ some w) ⊎ (T b × (v ≡ w))
mark_new true v o w e = inr (tt, cc)
mark_new false v o w e = inl e

pub entry_refl : (j c : ℕ) → T (same_entry j c j c)
entry_refl j c = and_mk (eqb j j) (eqb c c) (eqb_refl j) (eqb_refl c)
