-- Two books that agree on the header agree on each thing in it.
use Prim.Native.Nat.{ℕ}
use mathlib.Core.Path.{◌≡◌, ap}
use mathlib.Core.List.{List}
use Rattle.meaning.specs.Book.{Header, header_of, n_of, numbers_of, own_of, season_of, down_of}

module _ (b c : List ℕ) (same : header_of b ≡ header_of c) where
  pub agree_n : n_of b ≡ n_of c
  unfolding header_of
  agree_n = ap (λ (h : Header). h.n) same

  pub agree_numbers : numbers_of b ≡ numbers_of c
  unfolding header_of
  agree_numbers = ap (λ (h : Header). h.numbers) same

  pub agree_own : own_of b ≡ own_of c
  unfolding header_of
  agree_own = ap (λ (h : Header). h.own) same

  pub agree_season : season_of b ≡ season_of c
  unfolding header_of
  agree_season = ap (λ (h : Header). h.season) same

  pub agree_down : down_of b ≡ down_of c
  unfolding header_of
  agree_down = ap (λ (h : Header). h.down) same
