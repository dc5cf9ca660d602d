-- A message's kind by its number: each kind has one, what is well formed has a kind, and no other number has.
use Prim.Native.Nat.{ℕ, ◌≤◌}
use mathlib.Core.Path.{◌≡◌, refl, sym, ap, ◌∙◌}
use mathlib.Core.Bool.{true, and-eq-true_iff, true≢false, false}
use mathlib.Core.Option.{none, some}
use native.Mathlib.Decide.{ℕ_discrete}
use native.Mathlib.Omega.{arith}
use lib.Dec.{leb}
use borrow.Author.Tests.{ne_eqb, leb-true}
use Rattle.message.specs.Message.{is_kind}
use Rattle.entry.specs.Entry.{Kind, SEND, ECHO, READY}
use Rattle.calls.specs.Entered.{kind_number, kind_of}

pub kind_is : (k : Kind) → kind_of (kind_number k) ≡ some k
kind_is SEND = refl
kind_is ECHO = refl
kind_is READY = refl

pub is_known : (k : Kind) → is_kind (kind_number k) ≡ true
unfolding is_kind
is_known SEND = refl
is_known ECHO = refl
is_known READY = refl

pub kind_send : (n : ℕ) → n ≡ 1 → kind_of n ≡ some SEND
kind_send n e = ap kind_of e

pub kind_echo : (n : ℕ) → n ≡ 2 → kind_of n ≡ some ECHO
kind_echo n e = ap kind_of e

pub kind_ready : (n : ℕ) → n ≡ 3 → kind_of n ≡ some READY
kind_ready n e = ap kind_of e

pub no_kind : (n : ℕ) → (n ≡ 1 → ⊥) → (n ≡ 2 → ⊥) → (n ≡ 3 → ⊥) → kind_of n ≡ none
no_kind n f g h = rw (ne_eqb _ _ f, ne_eqb _ _ g, ne_eqb _ _ h)

in_three : (n : ℕ) → is_kind n ≡ true → (1 ≤ n) × (n ≤ 3)
unfolding is_kind
in_three n h =
    let b = (and-eq-true_iff (leb 1 n) (leb n 3)).0 h in
    (leb-true 1 n b.0, leb-true n 3 b.1)

-- a number that is a kind's
pub kind_known : (n : ℕ) → is_kind n ≡ true → (k : Kind) × (kind_of n ≡ some k) × (kind_number k ≡ n)
kind_known n h = go (ℕ_discrete n 1) (ℕ_discrete n 2)
  where
    go : Dec (n ≡ 1) → Dec (n ≡ 2) → (k : Kind) × (kind_of n ≡ some k) × (kind_number k ≡ n)
    go (yes e) d = (SEND, kind_send n e, sym e)
    go (no f) (yes e) = (ECHO, kind_echo n e, sym e)
    go (no f) (no g) = let three : n ≡ 3 = omega (arith, (in_three n h).0, (in_three n h).1) in (READY, kind_ready n three, sym three)

pub kind_unknown : (n : ℕ) → is_kind n ≡ false → kind_of n ≡ none
unfolding is_kind
kind_unknown n h =
    no_kind n (λ e. true≢false (sym (ap is_kind e) ∙ h)) (λ e. true≢false (sym (ap is_kind e) ∙ h))
    (λ e. true≢false (sym (ap is_kind e) ∙ h))

-- and the other way round
pub number_of_kind : (n : ℕ) (k : Kind) → kind_of n ≡ some k → n ≡ kind_number k
number_of_kind n k e = go (ℕ_discrete n 1) (ℕ_discrete n 2) (ℕ_discrete n 3)
  where
    other : (l : Kind) → some l ≡ some k → kind_number l ≡ kind_number k
    other l q = let z : l ≡ k = cc in ap kind_number z

    go : Dec (n ≡ 1) → Dec (n ≡ 2) → Dec (n ≡ 3) → n ≡ kind_number k
    go (yes f) d₂ d₃ = f ∙ other SEND (sym (kind_send n f) ∙ e)
    go (no f) (yes g) d₃ = g ∙ other ECHO (sym (kind_echo n g) ∙ e)
    go (no f) (no g) (yes h) = h ∙ other READY (sym (kind_ready n h) ∙ e)
    go (no f) (no g) (no h) = absurd (let z = sym (no_kind n f g h) ∙ e in let w : ◌≡◌ {A = ℕ} 0 1 = cc in omega arith)
