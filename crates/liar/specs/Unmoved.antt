-- What a liar can't move: two runs with the same honest set and the same accepted publications by one honest sender, both drained.
use Rattle.std.specs.Prelude.{ℕ, ◌≤◌, ◌<◌, ◌≡◌, List, T}
use Rattle.season.specs.Run.{Houses, is_honest, is_up, Open, State, Step, start, run, Drained, Limited, downs}
use Rattle.season.specs.Claims.{Few}

-- the houses, and the steps in their order
pub record Run : Type 0 where
  pub houses : Houses
  pub steps : List Step

abbrev pub end : Run → State
end x = run x.houses x.steps (start x.houses)

-- a run under demand 3: each honest house opened with answer 0, at most t are wrong, each honest one returned at most d times, and at the
-- end at most f of them are down
pub record Under (x : Run) : Type 0 where
  pub opened : Open x.houses
  pub few : Few x.houses
  pub limited : Limited x.houses (end x)
  pub low : downs x.houses (end x) ≤ x.houses.down

-- the same honest set
abbrev pub SameHonest : Run → Run → Type 0
SameHonest x y = (p : ℕ) → is_honest x.houses p ≡ is_honest y.houses p

-- What two runs have in common, of the entry of sender j and number c. All else may differ: n and S, f and d, season, sheet and buffers,
-- the steps and their order, what wrong houses hand in, what other senders publish, and which houses crash and return.
pub record Alike (x y : Run) (j c : ℕ) : Type 0 where
  -- the number is in both books,
  pub first_number : c < x.houses.numbers
  pub second_number : c < y.houses.numbers
  -- the accepted publications by this sender are the same,
  pub published : (end x).gave.publications j j c ≡ (end y).gave.publications j j c
  -- and both are drained
  pub first_drained : Drained x.houses j c (end x)
  pub second_drained : Drained y.houses j c (end y)

-- house r made the same deliveries in both, on this entry
abbrev pub SameAt : Run → Run → (sender number house : ℕ) → Type 0
SameAt x y j c r = (end x).gave.deliveries r j c ≡ (end y).gave.deliveries r j c

-- With f at zero they end with the same deliveries for that sender, which is honest, at every honest house.
abbrev pub Unmoved : Type 0
Unmoved =
    (x y : Run) → Under x → Under y → x.houses.down ≡ 0 → y.houses.down ≡ 0 → SameHonest x y → (j c : ℕ) → Alike x y j c
    → T (is_honest x.houses j) → (r : ℕ) → T (is_honest x.houses r) → SameAt x y j c r

-- up at the end
abbrev pub Stays : Run → ℕ → Type 0
Stays x p = T (is_up x.houses (end x) p)

-- With any f, at every house that is up in both, if the sender is; which other houses are honest may differ too.
abbrev pub UnmovedUp : Type 0
UnmovedUp =
    (x y : Run) → Under x → Under y → (j c : ℕ) → Alike x y j c
    → Stays x j → Stays y j → (r : ℕ) → Stays x r → Stays y r → SameAt x y j c r
