-- A test that computes, together with what it shows. What is built of these is tested in one computation, and its plain reading
-- follows, so that test and meaning are said once and cannot part.
use Prim.Native.Nat.{ℕ, ◌≤◌}
use mathlib.Core.Path.{◌≡◌, refl, ap}
use mathlib.Core.Logic.{◌⊎◌, inl, inr, ⊎_elim}
use mathlib.Core.Bool.{Bool, true, false, ◌&&◌, ◌||◌}
use mathlib.Core.List.{List}
use mathlib.Core.Option.{Option, none, some}
use lib.Dec.{T, eqb, leb, eqb→eq, leb→le}
use Rattle.entry.specs.Entry.{same}
use Rattle.entry.proofs.Basics.{and_l, and_r, same_eq}

pub record Tested (P : Type 0) : Type 0 where
  pub test : Bool
  pub shows : T test → P

abbrev pub passed : {P : Type 0} → P → Tested P
passed p = record { test = true; shows = λ t. p }

abbrev pub failed : {P : Type 0} → Tested P
failed = record { test = false; shows = λ t. absurd t }

-- what follows from what a test shows
abbrev pub after : {P Q : Type 0} → Tested P → (P → Q) → Tested Q
after a f = record { test = a.test; shows = λ t. f (a.shows t) }

abbrev pub both : {P Q : Type 0} → Tested P → Tested Q → Tested (P × Q)
both a b =
    record {
      test = a.test && b.test;
      shows = λ t. (a.shows (and_l a.test b.test t), b.shows (and_r a.test b.test t));
    }

pub or_split : (a b : Bool) → T (a || b) → T a ⊎ T b
or_split true b t = inl tt
or_split false b t = inr t

abbrev pub either : {P Q : Type 0} → Tested P → Tested Q → Tested (P ⊎ Q)
either a b =
    record {
      test = a.test || b.test;
      shows = λ t. ⊎_elim (λ x. inl (a.shows x)) (λ y. inr (b.shows y)) (or_split a.test b.test t);
    }

abbrev pub number : (x y : ℕ) → Tested (x ≡ y)
number x y = record { test = eqb x y; shows = eqb→eq x y }

abbrev pub at_most : (x y : ℕ) → Tested (x ≤ y)
at_most x y = record { test = leb x y; shows = leb→le x y }

abbrev pub bytes : (x y : List ℕ) → Tested (x ≡ y)
bytes x y = record { test = same x y; shows = same_eq x y }

abbrev pub flag : (x y : Bool) → Tested (x ≡ y)
flag true true = passed refl
flag true false = failed
flag false true = failed
flag false false = passed refl

abbrev pub option : {A : Type 0} → ((x y : A) → Tested (x ≡ y)) → (x y : Option A) → Tested (x ≡ y)
option each none none = passed refl
option each none (some y) = failed
option each (some x) none = failed
option each (some x) (some y) = after (each x y) (λ e. ap some e)

-- records are equal where the function that makes them is given equal fields, one after the other: none can be forgotten
abbrev pub made : {A : Type 0} (f : A) → Tested (f ≡ f)
made f = passed refl

infixl 20 ◌of◌
abbrev pub ◌of◌ : {A B : Type 0} {f g : A → B} {x y : A} → Tested (f ≡ g) → Tested (x ≡ y) → Tested (f x ≡ g y)
a of b = after (both a b) (λ e i. e.0 i (e.1 i))
