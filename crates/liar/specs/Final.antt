-- What a house delivered on an entry, that and nothing else it has delivered there ever after.
use Rattle.std.specs.Prelude.{ℕ, ◌<◌, List, T}
use Rattle.season.specs.Run.{Houses, is_honest, Open, Step, start, run}
use Rattle.season.specs.Claims.{Delivered}

-- with any number of wrong houses, whatever steps follow
abbrev pub Final : Type 0
Final =
    (H : Houses) → Open H → (l next : List Step) (j c : ℕ) → j < H.n → c < H.numbers → (r : ℕ) (v : List ℕ) → T (is_honest H r)
    → Delivered H j c (run H l (start H)) r v → Delivered H j c (run H next (run H l (start H))) r v
