-- The answer and the five things settle what the reader found.
use Prim.Native.Nat.{ℕ, zero, suc}
use mathlib.Core.Path.{◌≡◌, refl, sym, ◌∙◌}
use mathlib.Core.Option.{none, some}
use mathlib.Core.Option as maybe
use Rattle.std.specs.Prelude.{Option, Some, None}
use Rattle.message.specs.declared.Kind.{Kind}
use Rattle.message.specs.declared.Kind.TheVariants.{Send, Echo, Ready}
use Rattle.message.specs.declared.Message.{Message}
use native.Mathlib.Omega.{arith}
use Rattle.message.specs.Message.{Five, number_of, told, read_as, malformed}

-- the kind that has this number
abbrev kind_of : ℕ → Kind
kind_of zero = Ready
kind_of (suc zero) = Send
kind_of (suc (suc zero)) = Echo
kind_of (suc (suc (suc n))) = Ready

kind_of_number : (k : Kind) → kind_of (number_of k) ≡ k
kind_of_number Send = refl
kind_of_number Echo = refl
kind_of_number Ready = refl

-- what was found where the five things are these
abbrev found : maybe.Option Five → Option Message
found (some m) =
    Some
    (record { kind = kind_of m.kind; season = m.season; sender = m.sender; number = m.number; declaration = m.declaration })
found none = None

found_told : (r : Option Message) → found (told r).five ≡ r
found_told (Some m) =
    λ i.
    Some
    (record {
      kind = kind_of_number m.kind i;
      season = m.season;
      sender = m.sender;
      number = m.number;
      declaration = m.declaration;
    })
found_told None = refl

pub told_injective : (a b : Option Message) → told a ≡ told b → a ≡ b
told_injective a b h = sym (found_told a) ∙ (λ i. found (h i).five) ∙ found_told b

-- the five things told, or those
abbrev five_or : Five → maybe.Option Five → Five
five_or a none = a
five_or a (some m) = m

pub read_as_injective : (a b : Five) → read_as a ≡ read_as b → a ≡ b
read_as_injective a b h = λ i. five_or a (h i).five

pub read_as_something : (a : Five) → read_as a ≡ malformed → ⊥
read_as_something a h =
    let e : 0 ≡ 2 = λ i. (h i).answer in
    omega (arith, e)
