-- A sheet and its 22 bytes settle each other, so a sheet has one byte form; judging at the bytes is judging, and its 0 is told plainly.
use Prim.Native.Nat.{ℕ, ◌+◌, ◌^◌, ◌<◌}
use mathlib.Core.Path.{◌≡◌, refl, sym, ap, ap₂, ◌∙◌}
use mathlib.Core.Bool.{Bool, true, false, cond, ◌&&◌, and-eq-true_iff}
use mathlib.Core.Logic.{◌↔◌}
use mathlib.Core.List.{List, ◌∷◌, ◌++◌}
use lib.Dec.{eqb}
use lib.Ieee.{Float, binary32, of_bits}
use lib.Ieee.Bits.{of_bits-to_bits, of_bits-fits, to_bits-of_bits, to_bits-lt}
use lib.ListN.{length, get_or}
use native.Mathlib.Omega.{arith}
use borrow.Author.Tests.{eqb-true}
use Rattle.words.specs.Words.{Bytes, be32, word_at}
use Rattle.words.proofs.Laws.{word_be, be_word_at, word_at_small}
use Rattle.words.proofs.Bytes.{bytes_append, bytes_cons, be_bytes}
use Rattle.words.proofs.Listed.{listed_is}
use Rattle.sheet.specs.declared.Gate.{Gate}
use Rattle.sheet.specs.declared.Gate.TheVariants.{Open, AtMost, Between}
use Rattle.sheet.specs.declared.Sheet.{Sheet}
use Rattle.sheet.specs.declared.Kept.{Kept}
use Rattle.lot.specs.declared.Declaration.{Declaration}
use Rattle.lot.specs.Declaration.{bytes_of, declaration_at}
use Rattle.sheet.specs.Sheet.{GateFits, gate_legal, sheet_legal, plausible, Plausible, judged_by}
use Rattle.sheet.specs.Kept.{kept_of, kept_bytes, laid, sheet_bytes, gate_of, kept_form, kept_legal, kept_at, sheet_at, sheet_legal_at}
use Rattle.sheet.specs.Kept.{is_sheet}
use Rattle.sheet.specs.Kept.{judged, sheet_length}
use Rattle.lot.proofs.Declared.{numbers_of_bytes}
use Rattle.sheet.proofs.Exactly.{plausible_exactly}
use Rattle.sheet.proofs.Measurable.{no_nan}
use Rattle.sheet.proofs.Limits.{high_measurable, both_measurable, legal_limits}
use Rattle.sheet.proofs.Gates.{legal_gate, sheet_sized}

-- ---- a gate and the form in which it is kept

gate_of_kept : (g : Gate) → GateFits g → gate_of (kept_of g) ≡ g
unfolding gate_of
gate_of_kept Open f = refl
gate_of_kept (AtMost high) f = ap AtMost (of_bits-to_bits binary32 high f)
gate_of_kept (Between low high) f = ap₂ Between (of_bits-to_bits binary32 low f.0) (of_bits-to_bits binary32 high f.1)

-- what is read is a value of binary32, whatever the bytes
pub gate_fits : (k : Kept) → GateFits (gate_of k)
unfolding gate_of
gate_fits k = go (eqb k.kind 0) (eqb k.kind 1)
  where
    lo : Float
    lo = of_bits binary32 k.low

    hi : Float
    hi = of_bits binary32 k.high

    go : (b c : Bool) → GateFits (cond b Open (cond c (AtMost hi) (Between lo hi)))
    go true c = tt
    go false true = of_bits-fits binary32 k.high
    go false false = (of_bits-fits binary32 k.low, of_bits-fits binary32 k.high)

form_of_kept : (g : Gate) → kept_form (kept_of g) ≡ true
unfolding kept_form
form_of_kept Open = refl
form_of_kept (AtMost high) = refl
form_of_kept (Between low high) = refl

legal_of_kept : (g : Gate) → GateFits g → kept_legal (kept_of g) ≡ gate_legal g
unfolding kept_legal
legal_of_kept g f = rw (form_of_kept g) (ap gate_legal (gate_of_kept g f))

module _ (k : Kept) (low : k.low < 2 ^ 32) (high : k.high < 2 ^ 32) (h : kept_legal k ≡ true) where
  kept_of_gate : kept_of (gate_of k) ≡ k
  unfolding kept_legal kept_form gate_of
  kept_of_gate = go (eqb k.kind 0) (eqb k.kind 1) refl refl
    where
      lo : Float
      lo = of_bits binary32 k.low

      hi : Float
      hi = of_bits binary32 k.high

      form : kept_form k ≡ true
      form = ((and-eq-true_iff (kept_form k) (gate_legal (gate_of k))).0 h).0

      go : (b c : Bool) → eqb k.kind 0 ≡ b → eqb k.kind 1 ≡ c → kept_of (gate_of k) ≡ k
      go true c e f =
          let z = (and-eq-true_iff (eqb k.low 0) (eqb k.high 0)).0 (rw e at form) in
          let kind = eqb-true k.kind 0 e in
          let l = eqb-true k.low 0 z.0 in
          let u = eqb-true k.high 0 z.1 in
          rw e (λ i. record { kind = sym kind i; low = sym l i; high = sym u i })
      go false true e f =
          let g = (legal_limits (AtMost hi) (rw (e, f) at (legal_gate k h))).0 in
          let kind = eqb-true k.kind 1 f in
          let l = eqb-true k.low 0 (rw (e, f) at form) in
          let u = to_bits-of_bits binary32 k.high high (no_nan hi (high_measurable hi g)) in
          rw (e, f) (λ i. record { kind = sym kind i; low = sym l i; high = u i })
      go false false e f =
          let g = both_measurable lo hi (legal_limits (Between lo hi) (rw (e, f) at (legal_gate k h))).0 in
          let kind = eqb-true k.kind 2 (rw (e, f) at form) in
          let l = to_bits-of_bits binary32 k.low low (no_nan lo g.0) in
          let u = to_bits-of_bits binary32 k.high high (no_nan hi g.1) in
          rw (e, f) (λ i. record { kind = sym kind i; low = l i; high = u i })

-- ---- from a sheet to its bytes and back

moisture_laid : (cap : ℕ) (m c : Kept) → kept_at (laid cap m c) 4 ≡ m
moisture_laid cap m c = λ i. record { kind = m.kind; low = word_be m.low i; high = word_be m.high i }

conductivity_laid : (cap : ℕ) (m c : Kept) → kept_at (laid cap m c) 13 ≡ c
conductivity_laid cap m c = λ i. record { kind = c.kind; low = word_be c.low i; high = word_be c.high i }

module _ (s : Sheet) (m : GateFits s.moisture) (c : GateFits s.conductivity) where
  moisture_kept : kept_at (sheet_bytes s) 4 ≡ kept_of s.moisture
  unfolding sheet_bytes
  moisture_kept = moisture_laid s.cap (kept_of s.moisture) (kept_of s.conductivity)

  conductivity_kept : kept_at (sheet_bytes s) 13 ≡ kept_of s.conductivity
  unfolding sheet_bytes
  conductivity_kept = conductivity_laid s.cap (kept_of s.moisture) (kept_of s.conductivity)

  pub sheet_of_bytes : sheet_at (sheet_bytes s) 0 ≡ s
  unfolding sheet_at sheet_bytes
  sheet_of_bytes =
      let x = ap gate_of moisture_kept ∙ gate_of_kept s.moisture m in
      let y = ap gate_of conductivity_kept ∙ gate_of_kept s.conductivity c in
      λ i. record { cap = word_be s.cap i; moisture = x i; conductivity = y i }

  pub legal_bytes : is_sheet (sheet_bytes s) ≡ sheet_legal s
  unfolding is_sheet sheet_legal_at sheet_bytes sheet_legal
  legal_bytes =
      let x = ap kept_legal moisture_kept ∙ legal_of_kept s.moisture m in
      let y = ap kept_legal conductivity_kept ∙ legal_of_kept s.conductivity c in
      λ i. x i && y i

  pub judged_bytes : (d : Declaration) → judged (sheet_bytes s) (bytes_of d) ≡ judged_by s d
  unfolding judged judged_by
  judged_bytes d =
      λ i. cond (legal_bytes i) (cond (plausible (sheet_of_bytes i) (numbers_of_bytes d i)) 0 5) 10

-- a gate's limits, as numbers of 32 bits
limits_small : (g : Gate) → GateFits g → ((kept_of g).low < 2 ^ 32) × ((kept_of g).high < 2 ^ 32)
limits_small Open f = omega arith
limits_small (AtMost high) f = (omega arith, to_bits-lt binary32 high f)
limits_small (Between low high) f = (to_bits-lt binary32 low f.0, to_bits-lt binary32 high f.1)

kind_small : (g : Gate) → (kept_of g).kind < 256
kind_small Open = omega arith
kind_small (AtMost high) = omega arith
kind_small (Between low high) = omega arith

kept_bytes_lem : (g : Gate) → GateFits g → Bytes (kept_bytes (kept_of g))
kept_bytes_lem g f =
    let k = kept_of g in
    let l = limits_small g f in
    bytes_cons k.kind (be32 k.low ++ be32 k.high) (kind_small g)
    (bytes_append (be32 k.low) (be32 k.high) (be_bytes k.low l.0) (be_bytes k.high l.1))

-- a sheet's bytes are bytes
pub sheet_bytes_lem : (s : Sheet) → s.cap < 2 ^ 32 → GateFits s.moisture → GateFits s.conductivity → Bytes (sheet_bytes s)
unfolding sheet_bytes
sheet_bytes_lem s l m c =
    let moisture = kept_bytes (kept_of s.moisture) in
    let conductivity = kept_bytes (kept_of s.conductivity) in
    bytes_append (be32 s.cap) (moisture ++ conductivity) (be_bytes s.cap l)
    (bytes_append moisture conductivity (kept_bytes_lem s.moisture m) (kept_bytes_lem s.conductivity c))

-- ---- from bytes to the sheet and back

module _ (b : List ℕ) (bytes : Bytes b) (h : is_sheet b ≡ true) where
  both : (kept_legal (kept_at b 4) ≡ true) × (kept_legal (kept_at b 13) ≡ true)
  unfolding is_sheet sheet_legal_at
  both =
      (and-eq-true_iff (kept_legal (kept_at b 4)) (kept_legal (kept_at b 13))).0
      ((and-eq-true_iff (eqb (length b) sheet_length) (sheet_legal_at b 0)).0 h).1

  pub bytes_of_sheet : sheet_bytes (sheet_at b 0) ≡ b
  unfolding sheet_bytes sheet_at
  bytes_of_sheet =
      let small = word_at_small b bytes in
      let w = be_word_at b bytes in
      let m = kept_of_gate (kept_at b 4) (small 5) (small 9) both.0 in
      let c = kept_of_gate (kept_at b 13) (small 14) (small 18) both.1 in
      ap₂ (laid (word_at b 0)) m c
      ∙ sym
      (listed_is b sheet_length (sheet_sized b h) ∙ (λ i. w 0 i ++ (get_or b 4 0 ∷ w 5 i ++ (w 9 i ++ (get_or b 13 0 ∷ w 14 i ++ w 18 i)))))

-- one byte form per meaning
pub one_form : (b c : List ℕ) → Bytes b → Bytes c → is_sheet b ≡ true → is_sheet c ≡ true → sheet_at b 0 ≡ sheet_at c 0 → b ≡ c
one_form b c x y h k e = sym (bytes_of_sheet b x h) ∙ ap sheet_bytes e ∙ bytes_of_sheet c y k

-- ---- judging at the bytes answers 0 exactly when all conditions hold

zero_only : (legal ok : Bool) → ◌≡◌ {A = ℕ} (cond legal (cond ok 0 5) 10) 0 → (legal ≡ true) × (ok ≡ true)
zero_only true true e = (refl, refl)
zero_only true false e = absurd (omega arith)
zero_only false ok e = absurd (omega arith)

pub judged_exactly : (s d : List ℕ) → (judged s d ≡ 0) ↔ ((is_sheet s ≡ true) × Plausible (sheet_at s 0) (declaration_at d 0))
unfolding judged
judged_exactly s d =
    let sheet = sheet_at s 0 in
    let declaration = declaration_at d 0 in
    let exactly = plausible_exactly sheet declaration in (
      λ h. let z = zero_only (is_sheet s) (plausible sheet declaration) h in (z.0, exactly.0 z.1),
      λ p. rw (p.0, exactly.1 p.1),
    )
