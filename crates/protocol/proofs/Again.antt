-- What a house sends again of an entry, counted.
use mathlib.Core.Path.{◌≡◌, refl, sym, ap, ◌∙◌}
use mathlib.Core.Bool.{Bool, true, false, cond, ◌&&◌}
use mathlib.Core.Logic.{◌≢◌}
use mathlib.Core.Option.{Option, none, some}
use mathlib.Core.List.{List, [], ◌∷◌, ◌++◌}
use Prim.Native.Nat.{ℕ, zero, suc, ◌+◌, ◌≤◌}
use native.Mathlib.Omega.{arith}
use lib.Dec.{T, eqb, ltb, eqb→eq, ltb→lt}
use Rattle.card.specs.Count.{bit, count}
use Rattle.card.proofs.Counting.{count_same, count_none}
use Rattle.entry.specs.Entry.{Decl, Kind, SEND, ECHO, READY, Entry, outgoing, same_kind, is_some, holds, same_entry}
use Rattle.protocol.specs.Book.{Book}
use Rattle.protocol.specs.Run.{Copy, copy_to, to_those, again_kind, again_on, again, on_it, copies_of}
use Rattle.entry.specs.Lists.{each, tally}
use Rattle.entry.proofs.Basics.{bcase, T_of, and_l, and_r, and_false, entry_refl}
use Rattle.protocol.proofs.Mail.{tally_append}
use Rattle.protocol.proofs.Sums.{total, total_only, total_has, tally_each}

-- a copy of a kind, from a house and to a house that pass the tests
abbrev pub way : Kind → (ℕ → Bool) → (ℕ → Bool) → Copy → Bool
way k F Q m = same_kind k m.kind && (F m.from && Q m.to)

-- a copy says what the house it came from gave
abbrev pub true_to : (ℕ → Entry) → Copy → Bool
true_to H m = holds (outgoing m.kind (H m.from)) m.decl

tally_those : (P : Copy → Bool) (Q : ℕ → Bool) (j c r : ℕ) (k : Kind) (v : Decl) (n : ℕ)
    → tally P (to_those Q j c r k v n) ≡ count (λ q. Q q && P (copy_to j c r k v q)) n
tally_those P Q j c r k v zero = refl
tally_those P Q j c r k v (suc n) =
    omega (
      arith,
      tally_append P (to_those Q j c r k v n) (cond (Q n) (copy_to j c r k v n ∷ []) []),
      tally_those P Q j c r k v n,
      one (Q n),
    )
  where
    one : (b : Bool) → tally P (cond b (copy_to j c r k v n ∷ []) []) ≡ bit (b && P (copy_to j c r k v n))
    one true = omega arith
    one false = refl

module _ (Q : ℕ → Bool) (r n : ℕ) where
  kind_none : (P : Copy → Bool) (j c : ℕ) (l : Kind) (o : Option Decl)
      → ((v : Decl) (q : ℕ) → o ≡ some v → P (copy_to j c r l v q) ≡ false) → tally P (again_kind Q j c r l o n) ≡ 0
  kind_none P j c l none f = refl
  kind_none P j c l (some v) f = tally_those P Q j c r l v n ∙ count_none _ n (λ q h. and_false (Q q) _ (f v q refl))

  -- no copy of what is sent again on an entry passes
  pub again_none : (P : Copy → Bool) (j c : ℕ) (e : Entry)
      → ((l : Kind) (v : Decl) (q : ℕ) → outgoing l e ≡ some v → P (copy_to j c r l v q) ≡ false) → tally P (again_on Q r n j c e) ≡ 0
  again_none P j c e f =
      let a : List Copy = again_kind Q j c r SEND (outgoing SEND e) n in
      let b : List Copy = again_kind Q j c r ECHO (outgoing ECHO e) n in
      let d : List Copy = again_kind Q j c r READY (outgoing READY e) n in
      omega (
        arith,
        tally_append P a (b ++ d),
        tally_append P b d,
        kind_none P j c SEND (outgoing SEND e) (f SEND),
        kind_none P j c ECHO (outgoing ECHO e) (f ECHO),
        kind_none P j c READY (outgoing READY e) (f READY),
      )

  module _ (j c : ℕ) (k : Kind) (F Q₂ : ℕ → Bool) (P : Copy → Bool)
      (fresh_way : (l : Kind) (v : Decl) (q : ℕ) → P (copy_to j c r l v q) ≡ way k F Q₂ (copy_to j c r l v q)) where
    kind_way : (l : Kind) (o : Option Decl)
        → copies_of j c P (again_kind Q j c r l o n) ≡ cond ((same_kind k l && F r) && is_some o) (count (λ q. Q q && Q₂ q) n) 0
    kind_way l none = rw (and_false (same_kind k l && F r) false refl)
    kind_way l (some v) =
        tally_those (λ m. on_it j c m && P m) Q j c r l v n
        ∙ count_same _ (λ q. (same_kind k l && F r) && (Q q && Q₂ q)) n
        (λ q h. ap (λ (b : Bool). Q q && (same_entry j c j c && b)) (fresh_way l v q)
        ∙ regroup (Q q) (same_entry j c j c) (same_kind k l) (F r) (Q₂ q) (entry_refl j c))
        ∙ out (same_kind k l && F r)
      where
        regroup : (x t a b y : Bool) → T t → (x && (t && (a && (b && y)))) ≡ ((a && b) && (x && y))
        regroup true true true b y z = refl
        regroup true true false b y z = refl
        regroup false true true true y z = refl
        regroup false true true false y z = refl
        regroup false true false b y z = refl
        regroup x false a b y z = absurd z

        out : (b : Bool) → count (λ q. b && (Q q && Q₂ q)) n ≡ cond (b && true) (count (λ q. Q q && Q₂ q) n) 0
        out true = refl
        out false = count_none (λ q. false) n (λ q h. refl)

    -- of a kind that was given, one copy to each house that passes both tests
    pub on_way : (e : Entry) → copies_of j c P (again_on Q r n j c e) ≡ cond (F r && is_some (outgoing k e)) (count (λ q. Q q && Q₂ q) n) 0
    on_way e =
        let test : Copy → Bool = λ m. on_it j c m && P m in
        let a : List Copy = again_kind Q j c r SEND (outgoing SEND e) n in
        let b : List Copy = again_kind Q j c r ECHO (outgoing ECHO e) n in
        let d : List Copy = again_kind Q j c r READY (outgoing READY e) n in
        omega (
          arith,
          tally_append test a (b ++ d),
          tally_append test b d,
          kind_way SEND (outgoing SEND e),
          kind_way ECHO (outgoing ECHO e),
          kind_way READY (outgoing READY e),
          one k,
        )
      where
        X : ℕ
        X = count (λ q. Q q && Q₂ q) n

        one : (k : Kind)
            → cond ((same_kind k SEND && F r) && is_some (outgoing SEND e)) X 0 + cond
            ((same_kind k ECHO && F r) && is_some (outgoing ECHO e)) X 0
            + cond ((same_kind k READY && F r) && is_some (outgoing READY e)) X 0
            ≡ cond (F r && is_some (outgoing k e)) X 0
        one SEND = omega arith
        one ECHO = omega arith
        one READY = omega arith

  -- of a whole book sent again, an entry's copies are those of the entry
  module _ (S : ℕ) (b : Book) (j c : ℕ) (P : Copy → Bool) where
    abbrev test : Copy → Bool
    test m = on_it j c m && P m

    elsewhere : (j₂ c₂ : ℕ) → same_entry j₂ c₂ j c ≡ false → tally test (again_on Q r n j₂ c₂ (b j₂ c₂)) ≡ 0
    elsewhere j₂ c₂ e = again_none test j₂ c₂ (b j₂ c₂) (λ l v q x. rw e)

    abbrev row : ℕ → List Copy
    row c₂ = each (λ j₂. again_on Q r n j₂ c₂ (b j₂ c₂)) n

    other : (x y : ℕ) → x ≢ y → eqb x y ≡ false
    other x y d = bcase (eqb x y) (λ t. absurd (d (eqb→eq x y (T_of t)))) (λ t. t)

    total_none : (f : ℕ → ℕ) (m : ℕ) → ((i : ℕ) → f i ≡ 0) → total f m ≡ 0
    total_none f zero z = refl
    total_none f (suc m) z = omega (arith, z m, total_none f m z)

    pub again_le : copies_of j c P (again Q r n S b) ≤ copies_of j c P (again_on Q r n j c (b j c))
    again_le =
        omega (
          arith,
          tally_each test row S,
          total_only (λ c₂. tally test (row c₂)) S c
              (λ c₂ d. tally_each test (λ j₂. again_on Q r n j₂ c₂ (b j₂ c₂)) n
              ∙ total_none _ n (λ j₂. elsewhere j₂ c₂ (and_false (eqb j j₂) _ (other c c₂ (λ e. d (sym e)))))),
          tally_each test (λ j₂. again_on Q r n j₂ c (b j₂ c)) n,
          total_only (λ j₂. tally test (again_on Q r n j₂ c (b j₂ c))) n j
              (λ j₂ d. elsewhere j₂ c (let z = other j j₂ (λ e. d (sym e)) in rw z)),
        )

    pub again_ge : T (ltb j n && ltb c S) → copies_of j c P (again_on Q r n j c (b j c)) ≤ copies_of j c P (again Q r n S b)
    again_ge t =
        omega (
          arith,
          tally_each test row S,
          total_has (λ c₂. tally test (row c₂)) S c (ltb→lt c S (and_r (ltb j n) _ t)),
          tally_each test (λ j₂. again_on Q r n j₂ c (b j₂ c)) n,
          total_has (λ j₂. tally test (again_on Q r n j₂ c (b j₂ c))) n j (ltb→lt j n (and_l (ltb j n) _ t)),
        )
