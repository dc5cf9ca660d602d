-- A buffer that is cleared, and then laid over with a header, is blank.
use Prim.Native.Nat.{ℕ, ◌+◌, ◌-◌, ◌<◌, ◌≤◌}
use mathlib.Core.Path.{◌≡◌, sym, ap, ◌∙◌}
use mathlib.Core.List.{List, [], ◌∷◌, ◌++◌, append_assoc}
use native.Mathlib.Omega.{arith}
use lib.ListN.{length, take, drop, length-take, drop_of_length-le, replicate, length-drop, length-replicate, get_or-replicate}
use lib.Seq.{paste, take_all, drop-drop, drop-append-add, get_or-drop, ext_get_or}
use Rattle.std.proofs.lemmas.List.{append-nil}
use Rattle.words.specs.Words.{be32}
use Rattle.sheet.specs.Kept.{sheet_length}
use Rattle.meaning.specs.Layout.{sheet_place, down_place, limit_place, helped_place}
use Rattle.opening.specs.Parts.{blank}

drop_replicate : (m k : ℕ) → drop {A = ℕ} m (replicate k 0) ≡ replicate (k - m) 0
drop_replicate m k =
    ext_get_or {A = ℕ} 0 (drop m (replicate k 0)) (replicate (k - m) 0)
    (length-drop {A = ℕ} m (replicate k 0) ∙ omega (arith, length-replicate {A = ℕ} k 0, length-replicate {A = ℕ} (k - m) 0))
    (λ i l.
    let l' : i < k - m = omega (arith, length-drop {A = ℕ} m (replicate k 0), length-replicate {A = ℕ} k 0) in
    get_or-drop {A = ℕ} m (replicate k 0) i 0 ∙ get_or-replicate {A = ℕ} k (m + i) 0 0 (omega arith)
    ∙ sym (get_or-replicate {A = ℕ} (k - m) i 0 0 l'))

-- where the help given begins
abbrev helps : ℕ
helps = helped_place 0

-- what stands from f on
past : (x y : List ℕ) → down_place ≤ length x → drop down_place (take down_place x ++ y) ≡ y
past x y l =
    let e : down_place ≡ length (take down_place x) + 0 = omega (arith, length-take down_place x) in
    ap (λ (k : ℕ). drop k (take down_place x ++ y)) e ∙ drop-append-add (take down_place x) y 0

-- A buffer of which so many first bytes are cleared, where it has no more: so a body that clears by a range, and leaves a byte, is
-- refused for that byte.
pub cleared : (b first : List ℕ) (k : ℕ) → length b ≤ k → first ≡ replicate (length (take k b)) 0
    → first ++ drop k b ≡ replicate (length b) 0
cleared b first k l e =
    let t : length (take k b) ≡ length b = ap length (take_all k b l) in
    rw (drop_of_length-le b l, append-nil first) (e ∙ ap (λ (n : ℕ). replicate n 0) t)

pub blank_laid : (b b1 b2 b3 b4 bytes two sheet : List ℕ) (n s own f d season : ℕ) → limit_place < length b → b1 ≡ replicate (length b) 0
    → bytes ≡ n ∷ s ∷ own ∷ be32 season → b2 ≡ paste b1 0 bytes (length bytes) → two ≡ f ∷ d ∷ []
    → b3 ≡ paste b2 down_place two (length two) → length sheet ≡ sheet_length
    → b4 ≡ paste b3 sheet_place sheet (length sheet) → b4 ≡ blank (length b) n s own f d season sheet
unfolding blank
blank_laid b b1 b2 b3 b4 bytes two sheet n s own f d season long e1 eb e2 et e3 l e4 =
    let m : length sheet ≤ sheet_length = omega arith in
    let zeros : List ℕ = replicate (length b) 0 in
    let q2 : b2 ≡ n ∷ s ∷ own ∷ be32 season ++ drop sheet_place zeros = e2 ∙ rw (e1, eb) in
    let size : down_place + length (f ∷ d ∷ []) ≡ helps = omega arith in
    let q3 : b3 ≡ take down_place b2 ++ (f ∷ d ∷ drop helps b2) =
    e3 ∙ ap (λ (x : List ℕ). paste b2 down_place x (length x)) et
    ∙ append_assoc (take down_place b2) (f ∷ d ∷ []) (drop (down_place + length (f ∷ d ∷ [])) b2)
    ∙ ap (λ (k : ℕ). take down_place b2 ++ (f ∷ d ∷ drop k b2)) size in
    let l2 : helps ≤ length b2 = rw q2 (omega (arith, length-drop sheet_place zeros, length-replicate {A = ℕ} (length b) 0)) in
    let rest : drop down_place b3 ≡ f ∷ d ∷ drop helps b2 =
    ap (drop down_place) q3 ∙ past b2 (f ∷ d ∷ drop helps b2) (omega arith) in
    let help : drop helps b2 ≡ replicate (length b - helps) 0 =
    ap (drop helps) q2 ∙ drop-drop (helps - sheet_place) sheet_place zeros ∙ drop_replicate helps (length b) in
    let first : take sheet_place b3 ≡ n ∷ s ∷ own ∷ be32 season = ap (take sheet_place) q3 ∙ rw q2 in
    e4 ∙ rw (l, take_all sheet_length sheet m, first, rest, help)
