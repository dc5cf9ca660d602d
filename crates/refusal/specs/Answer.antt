-- The number of each refusal, and the answer of a call: 0, or the number of its refusal.
use Rattle.std.specs.Prelude.{ℕ, Result, Ok, Err}
use Rattle.refusal.specs.declared.Refusal.{Refusal}
use Rattle.refusal.specs.declared.Refusal.TheVariants.{NotLegal, Malformed, OtherSeason, NotThere, NotPlausible, NotFromSender, SaidBefore}
use Rattle.refusal.specs.declared.Refusal.TheVariants.{PublishedBefore, NotAllowed, NotASheet, OtherLength, SaidOtherwise, HelpedEnough}
use Rattle.refusal.specs.declared.Refusal.TheVariants.{NotSound, NotFinite, LotThere, NoneFree, LotNotThere}

abbrev pub number_of : Refusal → ℕ
number_of NotLegal = 1
number_of Malformed = 2
number_of OtherSeason = 3
number_of NotThere = 4
number_of NotPlausible = 5
number_of NotFromSender = 6
number_of SaidBefore = 7
number_of PublishedBefore = 8
number_of NotAllowed = 9
number_of NotASheet = 10
number_of OtherLength = 11
number_of SaidOtherwise = 13
number_of HelpedEnough = 14
number_of NotSound = 20
number_of NotFinite = 21
number_of LotThere = 22
number_of NoneFree = 23
number_of LotNotThere = 24

abbrev pub answer_of : {A : Type 0} → Result A Refusal → ℕ
answer_of (Ok x) = 0
answer_of (Err refusal) = number_of refusal
