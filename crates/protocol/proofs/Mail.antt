-- Counting the copies of a mail that pass a test, and what sending and consuming do to the count.
use mathlib.Core.Path.{◌≡◌, refl, ap}
use mathlib.Core.Bool.{Bool, true, false, not, ◌&&◌}
use mathlib.Core.Option.{some}
use mathlib.Core.List.{List, [], ◌∷◌, ◌++◌}
use Prim.Native.Nat.{ℕ, zero, suc, ◌+◌, ◌≤◌, ◌<◌}
use native.Mathlib.Omega.{arith}
use lib.Dec.{T}
use Rattle.card.specs.Count.{bit, count}
use Rattle.card.proofs.Counting.{count_mono}
use Rattle.entry.specs.Entry.{Decl, Kind, SEND, ECHO, READY, same_kind}
use Rattle.protocol.specs.Run.{Copy, copy_to, to_all, on_it, copies_of}
use Rattle.entry.specs.Lists.{at, change_at, tally}

pub bit_one : (a : Bool) → T a → bit a ≡ 1
bit_one true t = refl
bit_one false t = absurd t

bit_split : (a b c : Bool) → bit (a && (b && c)) + bit (a && (b && not c)) ≡ bit (a && b)
bit_split true true true = refl
bit_split true true false = refl
bit_split true false c = refl
bit_split false b c = refl

pub tally_mono : {A : Type 0} (P Q : A → Bool) (l : List A) → ((m : A) → T (P m) → T (Q m)) → tally P l ≤ tally Q l
tally_mono P Q [] f = omega arith
tally_mono P Q (m ∷ l) f = omega (arith, count_mono (λ i. P m) (λ i. Q m) 1 (λ i h. f m), tally_mono P Q l f)

pub tally_same : {A : Type 0} (P Q : A → Bool) (l : List A) → ((m : A) → P m ≡ Q m) → tally P l ≡ tally Q l
tally_same P Q [] f = refl
tally_same P Q (m ∷ l) f = omega (arith, ap bit (f m), tally_same P Q l f)

pub tally_append : {A : Type 0} (P : A → Bool) (l k : List A) → tally P (l ++ k) ≡ tally P l + tally P k
tally_append P [] k = omega arith
tally_append P (m ∷ l) k = omega (arith, tally_append P l k)

-- of an entry's copies that pass P, some pass Q too and the others do not
pub copies_split : (j c : ℕ) (P Q : Copy → Bool) (l : List Copy)
    → copies_of j c (λ m. P m && Q m) l + copies_of j c (λ m. P m && not (Q m)) l ≡ copies_of j c P l
copies_split j c P Q [] = refl
copies_split j c P Q (m ∷ l) = omega (arith, bit_split (on_it j c m) (P m) (Q m), copies_split j c P Q l)

pub tally_at : {A : Type 0} (P : A → Bool) (l : List A) (i : ℕ) (m : A) → at l i ≡ some m → T (P m) → 0 < tally P l
tally_at P [] i m e t = absurd (let z : ◌≡◌ {A = ℕ} 0 1 = cc in omega arith)
tally_at P (x ∷ l) zero m e t = let z : x ≡ m = cc in omega (arith, bit_one (P x) (rw z t))
tally_at P (x ∷ l) (suc i) m e t = omega (arith, tally_at P l i m e t)

-- where some pass a test, there is one
pub find : {A : Type 0} (P : A → Bool) (l : List A) → 0 < tally P l → (i : ℕ) × (m : A) × (at l i ≡ some m) × T (P m)
find P [] h = absurd (omega arith)
find {A = A} P (m ∷ l) h = go (P m) refl (λ z. find P l z)
  where
    go : (b : Bool) → P m ≡ b → (0 < tally P l → (i : ℕ) × (x : A) × (at l i ≡ some x) × T (P x))
        → (i : ℕ) × (x : A) × (at (m ∷ l) i ≡ some x) × T (P x)
    go true e f = (0, m, refl, rw e tt)
    go false e f = let r = f (omega (arith, ap bit e)) in (suc r.0, r.1, r.2, r.3)

-- one copy is changed
pub tally_change : {A : Type 0} (P : A → Bool) (f : A → A) (l : List A) (i : ℕ) (m : A) → at l i ≡ some m
    → tally P (change_at f l i) + bit (P m) ≡ tally P l + bit (P (f m))
tally_change P f [] i m e = absurd (let z : ◌≡◌ {A = ℕ} 0 1 = cc in omega arith)
tally_change P f (x ∷ l) zero m e = let z : x ≡ m = cc in rw z (omega arith)
tally_change P f (x ∷ l) (suc i) m e = omega (arith, tally_change P f l i m e)

-- n copies, one to each house
pub tally_to_all : (P : Copy → Bool) (j c r : ℕ) (k : Kind) (v : Decl) (n : ℕ)
    → tally P (to_all j c r k v n) ≡ count (λ q. P (copy_to j c r k v q)) n
tally_to_all P j c r k v zero = refl
tally_to_all P j c r k v (suc n) =
    omega (arith, tally_append P (to_all j c r k v n) (copy_to j c r k v n ∷ []), tally_to_all P j c r k v n)

-- each copy is of one kind
pub copies_kinds : (j c : ℕ) (P : Copy → Bool) (l : List Copy)
    → copies_of j c P l
    ≡ copies_of j c (λ m. same_kind SEND m.kind && P m) l + copies_of j c (λ m. same_kind ECHO m.kind && P m) l
    + copies_of j c (λ m. same_kind READY m.kind && P m) l
copies_kinds j c P [] = refl
copies_kinds j c P (m ∷ l) = omega (arith, go (on_it j c m) (P m) m.kind, copies_kinds j c P l)
  where
    go : (a p : Bool) (k : Kind)
        → bit (a && p) ≡ bit (a && (same_kind SEND k && p)) + bit (a && (same_kind ECHO k && p)) + bit (a && (same_kind READY k && p))
    go true p SEND = omega arith
    go true p ECHO = omega arith
    go true p READY = omega arith
    go false p k = refl
