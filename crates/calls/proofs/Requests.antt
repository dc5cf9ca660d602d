-- A request for help, answer by answer, from what the code found.
use Prim.Native.Nat.{ℕ, ◌<◌, ◌≤◌}
use mathlib.Core.Path.{◌≡◌, sym, ap, ◌∙◌, refl}
use mathlib.Core.Bool.{true}
use mathlib.Core.List.{List}
use mathlib.Core.Option.{none}
use native.Mathlib.Decide.{dec_lt, ℕ_discrete}
use native.Mathlib.Omega.{arith}
use lib.ListN.{get_or}
use borrow.Author.Tests.{eq-eqb, ne_eqb, lt-ltb, le-ltb}
use Rattle.protocol.specs.Run.{help_answer}
use Rattle.meaning.specs.Layout.{most_limit, helped_place}
use Rattle.meaning.specs.Book.{n_of, season_of, limit_of, helped_of, count_help}
use Rattle.meaning.specs.Legal.{head_legal}
use Rattle.meaning.proofs.Legality.{head_facts}
use Rattle.calls.specs.declared.Outcome.{Outcome}
use Rattle.calls.specs.Entered.{result_of, handed, helping}
use Rattle.calls.specs.Call.{request_answer, requested}

module _ (b : List ℕ) (p season : ℕ) where
  -- 3
  pub other_season : (season ≡ season_of b → ⊥) → 3 ≡ request_answer b p season
  unfolding request_answer
  other_season f = rw (ne_eqb _ _ f)

  module _ (s : season ≡ season_of b) where
    -- 4
    pub asker_missing : n_of b ≤ p → 4 ≡ request_answer b p season
    unfolding request_answer help_answer
    asker_missing l = rw (eq-eqb _ _ s, le-ltb _ _ l)

    module _ (l : p < n_of b) where
      -- 14
      pub helped_enough : limit_of b ≤ get_or b (helped_place p) 0 → 14 ≡ request_answer b p season
      unfolding request_answer help_answer helped_of
      helped_enough m = rw (eq-eqb _ _ s, lt-ltb _ _ l, le-ltb _ _ m)

      pub request_accepted : get_or b (helped_place p) 0 < limit_of b → 0 ≡ request_answer b p season
      unfolding request_answer help_answer helped_of
      request_accepted m = rw (eq-eqb _ _ s, lt-ltb _ _ l, lt-ltb _ _ m)

  -- an accepted request comes from a house of the book that was helped less than d times
  module _ (z : request_answer b p season ≡ 0) where
    pub request_season : season ≡ season_of b
    request_season = go (ℕ_discrete season (season_of b))
      where
        go : Dec (season ≡ season_of b) → season ≡ season_of b
        go (yes e) = e
        go (no f) = absurd (omega (arith, other_season f, z))

    pub request_from : p < n_of b
    request_from = go (dec_lt p (n_of b))
      where
        go : Dec (p < n_of b) → p < n_of b
        go (yes l) = l
        go (no f) = absurd (omega (arith, asker_missing request_season (omega arith), z))

    pub request_low : get_or b (helped_place p) 0 < limit_of b
    request_low = go (dec_lt (get_or b (helped_place p) 0) (limit_of b))
      where
        go : Dec (get_or b (helped_place p) 0 < limit_of b) → get_or b (helped_place p) 0 < limit_of b
        go (yes l) = l
        go (no f) = absurd (omega (arith, helped_enough request_season request_from (omega arith), z))

-- a request of the book's season, test by test as the code makes them
module _ (b : List ℕ) (p : ℕ) where
  refused : (n : ℕ) → n ≡ request_answer b p (season_of b) → (n ≡ 0 → ⊥) → (r : Outcome) → r ≡ handed n none none
      → result_of r b ≡ requested b p (season_of b)
  unfolding requested
  refused n e f r q =
      rw (ne_eqb (request_answer b p (season_of b)) 0 (λ z. f (e ∙ z)))
      (ap (λ (x : Outcome). result_of x b) (q ∙ ap (λ (x : ℕ). handed x none none) e))

  -- 4
  pub asker_refused : n_of b ≤ p → (r : Outcome) → r ≡ handed 4 none none → result_of r b ≡ requested b p (season_of b)
  asker_refused l r q = refused 4 (asker_missing b p (season_of b) refl l) (λ z. omega arith) r q

  module _ (l : p < n_of b) where
    -- 14
    pub enough_refused : limit_of b ≤ get_or b (helped_place p) 0 → (r : Outcome) → r ≡ handed 14 none none
        → result_of r b ≡ requested b p (season_of b)
    enough_refused m r q = refused 14 (helped_enough b p (season_of b) refl l m) (λ z. omega arith) r q

    pub request_helped : get_or b (helped_place p) 0 < limit_of b → (r : Outcome) → r ≡ helping → (d : List ℕ) → d ≡ count_help b p
        → result_of r d ≡ requested b p (season_of b)
    unfolding requested
    request_helped m r q d e = rw (eq-eqb _ _ (sym (request_accepted b p (season_of b) refl l m))) (λ i. result_of (q i) (e i))

  pub low_byte : head_legal b ≡ true → get_or b (helped_place p) 0 < limit_of b → get_or b (helped_place p) 0 < 255
  unfolding most_limit
  low_byte h m = omega (arith, m, (head_facts b h).limit)
