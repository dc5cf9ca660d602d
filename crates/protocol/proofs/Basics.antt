-- Small facts of answers, and of vouchers that are heeded.
use mathlib.Core.Path.{◌≡◌, refl}
use mathlib.Core.Bool.{Bool, true, false}
use mathlib.Core.Option.{Option, none, some}
use Prim.Native.Nat.{ℕ, suc, ◌≤◌, ◌<◌}
use native.Mathlib.Omega.{arith}
use lib.Dec.{T, leb, le→leb}
use Rattle.entry.specs.Entry.{Decl, same, is_some, votes, mark}
use Rattle.entry.specs.Lists.{upd}
use Rattle.protocol.specs.Steps.{must, reached}
use Rattle.entry.proofs.Basics.{bcase, T_of, T_not_of, same_eq, votes_other}

-- an answer that is 0 passed each test before it
pub must_zero : (b : Bool) (a rest : ℕ) → must b (suc a) rest ≡ 0 → T b × (rest ≡ 0)
must_zero true a rest e = (tt, e)
must_zero false a rest e = absurd (let z : suc a ≡ 0 = e in omega arith)

pub must_pass : (b : Bool) (a rest : ℕ) → T b → must b a rest ≡ rest
must_pass true a rest t = refl
must_pass false a rest t = absurd t

-- the vouchers of f for one declaration were never enough, or the slot o is marked
abbrev pub Heeded : ℕ → ℕ → (ℕ → Option Decl) → Option Decl → Type 0
Heeded m n f o = (w : Decl) → (0 < votes f w n) × (m ≤ votes f w n) → T (is_some o)

-- it stays so when one more voucher is recorded and the mark is made for it
pub heeds : (m n : ℕ) (f : ℕ → Option Decl) (p : ℕ) (v : Decl) (o : Option Decl) → Heeded m n f o
    → Heeded m n (upd f p (some v)) (mark (reached m o (upd f p (some v)) v n) v o)
heeds m n f p v (some x) ih w h = tt
heeds m n f p v none ih w h = go (leb m (votes (upd f p (some v)) v n)) refl
  where
    go : (b : Bool) → leb m (votes (upd f p (some v)) v n) ≡ b → T (is_some (mark b v none))
    go true e = tt
    go false e =
        bcase (same v w)
        (λ s. absurd (T_not_of e (le→leb m _ (rw (← same_eq v w (T_of s)) at h.1))))
        (λ s. let l = votes_other f p v w n s in ih w (omega arith))
