-- What this crate promises holds.
use Prim.Native.Nat.{ℕ, suc, ◌<◌}
use mathlib.Core.Path.{◌≡◌, refl, sym, ap}
use mathlib.Core.Bool.{true}
use mathlib.Core.Logic.{◌↔◌}
use mathlib.Core.Option.{Option, none, some}
use native.Mathlib.Omega.{arith}
use Rattle.card.proofs.Counting.{count_set}
use Rattle.entry.specs.Entry.{Decl, same, holds, votes, Entry, PerEntry, put_at, same_entry}
use Rattle.entry.specs.Lists.{upd}
use Rattle.entry.specs.Claims.{Claims}
use Rattle.entry.proofs.Basics.{bcase, T_of, true_of, same_refl, same_eq, holds_eq, eq_holds, upd_same, upd_other, votes_up}
use Rattle.entry.proofs.Basics.{votes_other, entry_refl, and_l, and_r}
use Rattle.entry.proofs.Filled.{recorded_filled, recorded_heard}
use lib.Dec.{eqb, eqb→eq}

same_exactly : (v w : Decl) → (same v w ≡ true) ↔ (v ≡ w)
same_exactly v w = (λ e. same_eq v w (T_of e), λ e. rw e (true_of (same w w) (same_refl w)))

holds_exactly : (o : Option Decl) (v : Decl) → (holds o v ≡ true) ↔ (o ≡ some v)
holds_exactly o v = (λ e. holds_eq o v (T_of e), λ e. true_of (holds o v) (eq_holds o v e))

one_more : (f : ℕ → Option Decl) (p : ℕ) (v : Decl) (n : ℕ) → p < n → f p ≡ none → votes (upd f p (some v)) v n ≡ suc (votes f v n)
one_more f p v n l e =
    count_set (λ i. holds (f i) v) (λ i. holds (upd f p (some v) i) v) n p l
    (λ i d. ap (λ (o : Option Decl). holds o v) (sym (upd_other f p (some v) i d))) (rw e refl)
    (rw (upd_same f p (some v)) (true_of (same v v) (same_refl v)))

none_for_another : (f : ℕ → Option Decl) (p : ℕ) (v w : Decl) (n : ℕ) → f p ≡ none → (v ≡ w → ⊥)
    → votes (upd f p (some v)) w n ≡ votes f w n
none_for_another f p v w n e d =
    bcase (same v w) (λ t. absurd (d (same_eq v w (T_of t)))) (λ t. omega (arith, votes_up f p v w n e, votes_other f p v w n t))

put_there : (b : PerEntry Entry) (j c : ℕ) (e : Entry) → put_at b j c e j c ≡ e
put_there b j c e = rw (true_of (same_entry j c j c) (entry_refl j c))

put_elsewhere : (b : PerEntry Entry) (j c : ℕ) (e : Entry) (j₂ c₂ : ℕ) → ((j₂ ≡ j) × (c₂ ≡ c) → ⊥) → put_at b j c e j₂ c₂ ≡ b j₂ c₂
put_elsewhere b j c e j₂ c₂ d =
    bcase (same_entry j c j₂ c₂)
    (λ t. absurd (d (eqb→eq j₂ j (and_l (eqb j₂ j) (eqb c₂ c) (T_of t)), eqb→eq c₂ c (and_r (eqb j₂ j) (eqb c₂ c) (T_of t)))))
    (λ t. rw t)

pub claims : Claims
claims =
    record {
      same_exactly = same_exactly;
      holds_exactly = holds_exactly;
      one_more = one_more;
      none_for_another = none_for_another;
      recorded_heard = recorded_heard;
      recorded_filled = recorded_filled;
      announced_is = λ v e. refl;
      marked_sent = λ d v e. refl;
      marked_delivered = λ b v e. refl;
      not_marked = λ v e. refl;
      put_there = put_there;
      put_elsewhere = put_elsewhere;
    }
