-- Truth values: by cases, and the second of two where the first is false.
use mathlib.Core.Path.{◌≡◌, refl}
use mathlib.Core.Bool.{Bool, true, false, ◌||◌, true≢false}

pub bcase {ℓ} : {C : Type ℓ} (b : Bool) → (b ≡ true → C) → (b ≡ false → C) → C
bcase true f g = f refl
bcase false f g = g refl

pub or_then : (a b : Bool) → a ≡ false → a || b ≡ true → b ≡ true
or_then true b f e = absurd (true≢false f)
or_then false b f e = e
