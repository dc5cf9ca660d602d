-- Every run can be drained: a request consumed is one request less, and a copy consumed one more consumed copy, of which there are at most
-- as many as the returns and helps so far allow.
use mathlib.Core.Path.{◌≡◌, refl, ap, ◌∙◌}
use mathlib.Core.Bool.{Bool, true, false, not, cond, ◌&&◌}
use mathlib.Core.Option.{Option, none, some}
use mathlib.Core.List.{List, [], ◌∷◌}
use Prim.Native.Nat.{ℕ, zero, suc, ◌+◌, ◌*◌, ◌≤◌, ◌<◌}
use native.Mathlib.Nat.{mul-le-mul_left}
use native.Mathlib.Omega.{arith}
use lib.Dec.{T, eqb, ltb, ltb→lt}
use Rattle.card.specs.Count.{bit}
use Rattle.card.proofs.Counting.{count_none}
use Rattle.entry.specs.Entry.{SEND, ECHO, READY, same_entry}
use Rattle.protocol.specs.Steps.{Say, say}
use Rattle.protocol.specs.Book.{outcome}
use Rattle.protocol.specs.Run.{n, Wall, Copy, Request, Power, State, Step, consume, help, is_honest, is_up, h, consumed_copy, consume_at}
use Rattle.protocol.specs.Run.{posted, call_of, called, arrives, consumes, help_answer, helps, consumed_request, request_taken, asked}
use Rattle.protocol.specs.Run.{step, run, on_it, up_copy, up_request, Drained}
use Rattle.entry.specs.Lists.{at, tally}
use Rattle.protocol.specs.Claims.{consumption, Drainable}
use Rattle.entry.proofs.Basics.{true_of, false_of, and_l, and_r, and_false}
use Rattle.protocol.proofs.Mail.{bit_one, find, tally_mono, tally_append, tally_change, tally_to_all}
use Rattle.protocol.proofs.Sums.{total, total_has}
use Rattle.protocol.proofs.Invariant.{Inv, load}
use Rattle.protocol.proofs.Views.{noted_none, view}
use Rattle.protocol.proofs.Runs.{step_holds}
use Rattle.protocol.proofs.Bound.{gave_le, kinds_le}

bit_none : (a b : Bool) → b ≡ false → bit (a && b) ≡ 0
bit_none a b e = rw (and_false a b e)

zero_or_more : {C : Type 0} (x : ℕ) → (x ≡ 0 → C) → (0 < x → C) → C
zero_or_more zero f g = f refl
zero_or_more (suc x) f g = g (omega arith)

module _ (B : Wall) (j c : ℕ) where
  still_held : (a : Step) (s : State) → Inv B j c (view j c s) → Inv B j c (view j c (step B a s))
  still_held a s I = (step_holds B j c (λ H. Unit {0}) (λ s I z r a o mail A. tt) a s (I, tt)).0

  -- ---- requests

  abbrev waiting : State → Request → Bool
  waiting s m = up_request B s m && not m.consumed

  abbrev requests_left : State → ℕ
  requests_left s = tally (waiting s) s.power.requests

  -- no house goes down, returns or publishes
  record Quiet (s s₂ : State) : Type 0 where
    down : s₂.power.down ≡ s.power.down
    returned : s₂.power.returned ≡ s.power.returned
    publications : s₂.gave.publications ≡ s.gave.publications

  -- and no request is sent or consumed
  record Still (s s₂ : State) : Type 0 where
    requests : s₂.power.requests ≡ s.power.requests
    quiet : Quiet s s₂

  helps_still : (r p : ℕ) (s : State) → Still s (helps B r p s)
  unfolding helps
  helps_still r p s =
      go (eqb (help_answer (n B) B.limit p (s.power.helped r p)) 0) _
      (record { requests = refl; quiet = record { down = refl; returned = refl; publications = refl } })
    where
      go : (b : Bool) (s₂ : State) → Still s s₂ → Still s (cond b s₂ s)
      go true s₂ K = K
      go false s₂ K = record { requests = refl; quiet = record { down = refl; returned = refl; publications = refl } }

  -- the request consumed, and no more
  taken_by : (s : State) (i : ℕ) (m : Request) → at s.power.requests i ≡ some m → T (waiting s m)
      → Still (request_taken i s) (step B (help i) s)
  unfolding step asked
  taken_by s i m e t =
      let up = and_r (is_up B s m.from) (is_up B s m.to) (and_l (up_request B s m) (not m.consumed) t) in
      rw (
        e,
        true_of (is_honest B m.to) (and_l (is_honest B m.to) (not (s.power.down m.to)) up),
        true_of (not m.consumed) (and_r (up_request B s m) (not m.consumed) t),
        false_of (s.power.down m.to) (and_r (is_honest B m.to) (not (s.power.down m.to)) up),
      ) (helps_still m.to m.from (request_taken i s))

  one_less : (s s₂ : State) (i : ℕ) (m : Request) → at s.power.requests i ≡ some m → T (waiting s m)
      → Still (request_taken i s) s₂ → suc (requests_left s₂) ≡ requests_left s
  one_less s s₂ i m e t K =
      rw (K.requests, K.quiet.down)
      (omega (
        arith,
        tally_change (waiting s) consumed_request s.power.requests i m e,
        bit_one (waiting s m) t,
        bit_none (up_request B s m) false refl,
      ))

  -- ---- copies

  abbrev unread : State → Copy → Bool
  unread s m = on_it j c m && (up_copy B s m && not m.consumed)

  abbrev read : Copy → Bool
  read m = on_it j c m && m.consumed

  none_read : (j₂ c₂ r : ℕ) (x : Option Say) (n : ℕ) → tally read (posted j₂ c₂ r x n) ≡ 0
  none_read j₂ c₂ r none n = refl
  none_read j₂ c₂ r (some (say k v)) n =
      tally_to_all read j₂ c₂ r k v n ∙ count_none _ n (λ q l. and_false (same_entry j₂ c₂ j c) false refl)

  record Read (s s₂ : State) : Type 0 where
    more : tally read s₂.mail ≡ suc (tally read s.mail)
    power : s₂.power ≡ s.power
    publications : s₂.gave.publications ≡ s.gave.publications

  read_by : (s : State) (i : ℕ) (m : Copy) → at s.mail i ≡ some m → T (unread s m) → Read s (step B (consume i) s)
  unfolding step consumes arrives called
  read_by s i m e t =
      let here = and_l (on_it j c m) _ t in
      let rest = and_r (on_it j c m) (up_copy B s m && not m.consumed) t in
      let up = and_r (is_up B s m.from) (is_up B s m.to) (and_l (up_copy B s m) (not m.consumed) rest) in
      let fresh = and_r (up_copy B s m) (not m.consumed) rest in
      let sends : List Copy = posted m.sender m.number m.to
      (outcome B.rules B.numbers m.to (call_of m) (s.gave.books m.to)).message (n B) in
      rw (
        e,
        true_of (is_honest B m.to) (and_l (is_honest B m.to) (not (s.power.down m.to)) up),
        true_of (not m.consumed) fresh,
        false_of (s.power.down m.to) (and_r (is_honest B m.to) (not (s.power.down m.to)) up),
      )
      (record {
        more = omega (
          arith,
          tally_append read (consume_at s.mail i) sends,
          none_read m.sender m.number m.to
              (outcome B.rules B.numbers m.to (call_of m) (s.gave.books m.to)).message (n B),
          tally_change read consumed_copy s.mail i m e,
          bit_none (on_it j c m) m.consumed (false_of m.consumed fresh),
          marked (on_it j c m) here,
        );
        power = refl;
        publications = noted_none s.gave.publications m.to m.sender m.number;
      })
    where
      marked : (a : Bool) → T a → bit (a && true) ≡ 1
      marked true t = refl
      marked false t = absurd t

  -- no more can be consumed than are sent, whatever houses do but return and help
  abbrev most : Power → ℕ
  most w = 3 * (total (load w (n B) (λ q. true)) (n B) * h B)

  read_most : (s : State) → Inv B j c (view j c s) → tally read s.mail ≤ most s.power
  read_most s I =
      let all : ℕ → Bool = λ q. true in
      let y : ℕ = total (load s.power (n B) all) (n B) in
      omega (
        arith,
        tally_mono read (λ m. on_it j c m && true) s.mail (λ m t. sent (on_it j c m) m.consumed t),
        kinds_le B j c (view j c s) I all all y
            (λ p g. total_has (load s.power (n B) all) (n B) p (ltb→lt p (n B) (and_l (ltb p (n B)) (B.honest p) g))),
        mul-le-mul_left y (gave_le B j c (view j c s) I SEND all),
        mul-le-mul_left y (gave_le B j c (view j c s) I ECHO all),
        mul-le-mul_left y (gave_le B j c (view j c s) I READY all),
      )
    where
      sent : (a b : Bool) → T (a && b) → T (a && true)
      sent true b t = tt
      sent false b t = t

  -- ---- draining

  -- these steps drain the entry
  record Drains (s : State) (l : List Step) : Type 0 where
    drained : Drained B j c (run B l s)
    quiet : Quiet s (run B l s)

  first : (s : State) (a : Step) (l : List Step) → Quiet s (step B a s) → Drains (step B a s) l → Drains s (a ∷ l)
  unfolding run
  first s a l Q D =
      record {
        drained = D.drained;
        quiet = record {
          down = D.quiet.down ∙ Q.down;
          returned = D.quiet.returned ∙ Q.returned;
          publications = D.quiet.publications ∙ Q.publications;
        };
      }

  -- with as much fuel as copies may still be consumed
  drain_copies : (fuel : ℕ) (s : State) → Inv B j c (view j c s) → most s.power < tally read s.mail + fuel → requests_left s ≡ 0
      → (k : List ℕ) × Drains s (consumption [] k)
  unfolding run
  drain_copies zero s I l e = absurd (omega (arith, read_most s I))
  drain_copies (suc fuel) s I l e =
      zero_or_more (tally (unread s) s.mail)
      (λ z. (
        [],
        record {
          drained = record { copies = z; requests = e };
          quiet = record { down = refl; returned = refl; publications = refl };
        },
      ))
      (λ some_left. next (find (unread s) s.mail some_left) (λ s I l e. drain_copies fuel s I l e))
    where
      next : (i : ℕ) × (m : Copy) × (at s.mail i ≡ some m) × T (unread s m)
          → ((s : State) → Inv B j c (view j c s) → most s.power < tally read s.mail + fuel → requests_left s ≡ 0
          → (k : List ℕ) × Drains s (consumption [] k))
          → (k : List ℕ) × Drains s (consumption [] k)
      next x drain =
          let K = read_by s x.0 x.1 x.2 x.3 in
          let D = drain (step B (consume x.0) s) (still_held (consume x.0) s I)
          (omega (arith, l, K.more, ap most K.power)) (rw K.power e) in (
            x.0 ∷ D.0,
            first s (consume x.0) (consumption [] D.0)
                (record {
                  down = ap (λ (w : Power). w.down) K.power;
                  returned = ap (λ (w : Power). w.returned) K.power;
                  publications = K.publications;
                })
                D.1,
          )

  -- with as much fuel as requests are left
  drain_all : (fuel : ℕ) (s : State) → Inv B j c (view j c s) → requests_left s ≡ fuel
      → (l k : List ℕ) × Drains s (consumption l k)
  drain_all zero s I e = let D = drain_copies (suc (most s.power)) s I (omega arith) e in ([], D.0, D.1)
  drain_all (suc fuel) s I e =
      let x = find (waiting s) s.power.requests (omega (arith, e)) in
      let K = taken_by s x.0 x.1 x.2 x.3 in
      let s₂ : State = step B (help x.0) s in
      let D = drain_all fuel s₂ (still_held (help x.0) s I)
      (omega (arith, e, one_less s s₂ x.0 x.1 x.2 x.3 K)) in (
        x.0 ∷ D.0,
        D.1,
        first s (help x.0) (consumption D.0 D.1)
            (record { down = K.quiet.down; returned = K.quiet.returned; publications = K.quiet.publications }) D.2,
      )

  pub drainable : (s : State) → Inv B j c (view j c s) → Drainable B j c s
  drainable s I =
      let D = drain_all (requests_left s) s I refl in
      record {
        requests = D.0;
        copies = D.1;
        drained = D.2.drained;
        down = D.2.quiet.down;
        returned = D.2.quiet.returned;
        publications = D.2.quiet.publications;
      }
