-- What of the book was found legal before a message of it is heard.
use Rattle.std.specs.Prelude.{ℕ, ◌≡◌, true, List}
use Rattle.meaning.specs.Legal.{legal, head_legal}
use Rattle.admit.specs.declared.Tested.{Tested}
use Rattle.admit.specs.declared.Tested.TheVariants.{Whole, Head}

abbrev pub Shows : Tested → List ℕ → Type 0
Shows Whole b = legal b ≡ true
Shows Head b = head_legal b ≡ true
