-- The values that rows compare, each tested in every field: a length, a declaration, what the writer and the reader give, and a call's
-- outcome.
use Prim.Native.Nat.{ℕ}
use mathlib.Core.Path.{◌≡◌}
use mathlib.Core.Bool.{Bool}
use mathlib.Core.List.{List}
use mathlib.Core.Option.{Option}
use Rattle.lot.specs.declared.Declaration.{Declaration}
use Rattle.message.specs.declared.Written.{Written}
use Rattle.message.specs.Message.{Five, Told}
use Rattle.meaning.specs.Opening.{Length}
use Rattle.calls.specs.declared.Outcome.{Outcome}
use Rattle.cases.proofs.Tested.{Tested, number, bytes, flag, option, made, ◌of◌}

abbrev pub sized : (x y : Length) → Tested (x ≡ y)
sized x y = made new of number x.answer y.answer of number x.length y.length
  where
    new : ℕ → ℕ → Length
    new a l = record { answer = a; length = l }

abbrev declaration : (x y : Declaration) → Tested (x ≡ y)
declaration x y =
    made new of number x.lot y.lot of number x.colonies y.colonies of number x.kilograms y.kilograms
    of number x.moisture y.moisture
    of number x.conductivity y.conductivity
  where
    new : ℕ → ℕ → ℕ → ℕ → ℕ → Declaration
    new l c k m e = record { lot = l; colonies = c; kilograms = k; moisture = m; conductivity = e }

abbrev five : (x y : Five) → Tested (x ≡ y)
five x y =
    made new of number x.kind y.kind of number x.season y.season of number x.sender y.sender
    of number x.number y.number
    of declaration x.declaration y.declaration
  where
    new : ℕ → ℕ → ℕ → ℕ → Declaration → Five
    new k s j c d = record { kind = k; season = s; sender = j; number = c; declaration = d }

abbrev pub told : (x y : Told) → Tested (x ≡ y)
told x y = made new of number x.answer y.answer of option five x.five y.five
  where
    new : ℕ → Option Five → Told
    new a m = record { answer = a; five = m }

abbrev pub written : (x y : Written) → Tested (x ≡ y)
written x y = made new of number x.answer y.answer of bytes x.message y.message
  where
    new : ℕ → List ℕ → Written
    new a m = record { answer = a; message = m }

abbrev pub outcome : (x y : Outcome) → Tested (x ≡ y)
outcome x y =
    made new of number x.answer y.answer of flag x.gives y.gives of bytes x.message y.message
    of flag x.delivers y.delivers
    of bytes x.declaration y.declaration
    of flag x.helps y.helps
  where
    new : ℕ → Bool → List ℕ → Bool → List ℕ → Bool → Outcome
    new a g m d v h = record { answer = a; gives = g; message = m; delivers = d; declaration = v; helps = h }
