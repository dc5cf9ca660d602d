use Rattle.std.specs.Prelude.{◌≡◌, ℕ, Result, MatchResult, ◌≢◌}
use Rattle.script.specs.declared.calling.Call.{Call}
use Rattle.script.specs.declared.calling.Call.TheVariants.{
  With,
  Card,
  Length,
  Judge,
  Open,
  OpenWith,
  Publish,
  Receive,
  Lie,
  Ask,
  Return,
  ReturnUntold,
  Sent,
  Waiting,
  Show,
  Begin,
  Copy,
  CopiesOn,
  Request,
  GoDown,
  Stand,
  Bounds,
  StartAgain,
  Spoil,
}
use Rattle.script.specs.declared.calling.UnknownCall.{UnknownCall}

-- the number that a script asks for a call by
abbrev pub number_of : Call → ℕ
number_of With = 1
number_of Card = 2
number_of Length = 3
number_of Judge = 4
number_of Open = 5
number_of OpenWith = 6
number_of Publish = 7
number_of Receive = 8
number_of Lie = 9
number_of Ask = 10
number_of Return = 11
number_of ReturnUntold = 12
number_of Sent = 13
number_of Waiting = 14
number_of Show = 16
number_of Begin = 20
number_of Copy = 21
number_of CopiesOn = 22
number_of Request = 23
number_of GoDown = 24
number_of Stand = 25
number_of Bounds = 26
number_of StartAgain = 27
number_of Spoil = 28

-- the result is the call with this number, or an error with a number that no call has
abbrev pub IsCallOf : ℕ → Result Call UnknownCall → Type 0
IsCallOf n r = MatchResult r (λ call. number_of call ≡ n) (λ e. (e.0 ≡ n) × ((call : Call) → number_of call ≢ n))
