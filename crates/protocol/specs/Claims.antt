-- What is claimed of every run, of the entry of sender j and number c, in document 01's order.
use Rattle.std.specs.Prelude.{◌≡◌, Bool, false, not, ◌&&◌, ◌⊎◌, List, [], ◌∷◌, ℕ, ◌+◌, ◌*◌, ◌≤◌, ◌<◌, T, length}
use Rattle.std.proofs.Math.Option.{some}
use Rattle.entry.specs.Entry.{Decl, heard, Filled, Kind}
use Rattle.protocol.specs.Steps.{Rules, Out}
use Rattle.protocol.specs.Book.{Book, Call, publishing, sender_of, number_of, outcome, after}
use Rattle.protocol.specs.Run.{n, Wall, Copy, State, Step, is_honest, is_up, h, start, run, call_of, on_it, copies, readies, between}
use Rattle.protocol.specs.Run.{consumed_between, is_between, copies_of, consume, help, Drained, Limited}
use Rattle.entry.specs.Lists.{at, in_turn}
use Rattle.protocol.specs.Order.{ReceivingOrder, PublishingOrder}
use Rattle.protocol.specs.Thresholds.{wall_of, AtMost, Tolerated, TakePart, downs}

-- An accepted publication or message changes the named entry alone. Two books that agree on one entry give the same answer, message
-- and delivery to any call that names that entry, and end agreeing on it, whatever the other entries hold.
pub record Alone (R : Rules) (numbers own : ℕ) (a : Call) : Type 0 where
  pub others : (b : Book) (j c : ℕ) → ((j ≡ sender_of own a) × (c ≡ number_of a) → ⊥) → after R numbers own a b j c ≡ b j c
  pub same : (b b₂ : Book) → b (sender_of own a) (number_of a) ≡ b₂ (sender_of own a) (number_of a)
      → outcome R numbers own a b ≡ outcome R numbers own a b₂
  pub agreeing : (b b₂ : Book) → b (sender_of own a) (number_of a) ≡ b₂ (sender_of own a) (number_of a)
      → after R numbers own a b (sender_of own a) (number_of a) ≡ after R numbers own a b₂ (sender_of own a) (number_of a)

-- the steps that consume the requests at these places, and then the copies at those
abbrev pub consumption : (requests copies : List ℕ) → List Step
consumption requests copies = in_turn help consume requests copies

module _ (B : Wall) (j c : ℕ) where
  -- house r delivered v on this entry, and nothing else
  abbrev pub Delivered : State → ℕ → Decl → Type 0
  Delivered s r v = s.gave.deliveries r j c ≡ v ∷ []

  -- the sender's publication of v was accepted, and no other
  abbrev pub Published : State → Decl → Type 0
  Published s v = s.gave.publications j j c ≡ v ∷ []

  -- delivered at all that are up
  abbrev pub Everywhere : State → Decl → Type 0
  Everywhere s v = (r : ℕ) → T (is_up B s r) → Delivered s r v

  -- what consuming a copy gives
  abbrev pub consuming : State → Copy → Out
  consuming s m = outcome B.rules B.numbers m.to (call_of m) (s.gave.books m.to)

  -- with any number of wrong houses, and however often houses crash and return
  pub record Safe (s : State) : Type 0 where
    -- At most one delivery per entry at each single house.
    pub once : (r : ℕ) → length (s.gave.deliveries r j c) ≤ 1
    -- At most one publication is accepted at each number.
    pub published_once : length (s.gave.publications j j c) ≤ 1
    -- No honest house ever delivers an implausible declaration.
    pub plausible : (r : ℕ) (v : Decl) → Delivered s r v → T (B.rules.ok v)
    -- A copy that an honest house sent is accepted where it is consumed, or is a repeat of what was accepted.
    pub accepted : (i : ℕ) (m : Copy) → at s.mail i ≡ some m → T (on_it j c m) → T (is_honest B m.to)
        → ((consuming s m).answer ≡ 0)
        ⊎ (((consuming s m).answer ≡ 7) × (heard m.kind m.from (s.gave.books m.to j c) ≡ some m.decl))
    -- Calls only ever fill empty slots, whatever steps come.
    pub fills : (l : List Step) (r : ℕ) → Filled (s.gave.books r j c) ((run B l s).gave.books r j c)
    -- An honest sender's first plausible declaration at a number of the book is accepted.
    pub publishable : T (is_honest B j) → c < B.numbers → (v : Decl) → T (B.rules.ok v) → s.gave.publications j j c ≡ []
        → (outcome B.rules B.numbers j (publishing c v) (s.gave.books j)).answer ≡ 0

  -- Some requests and some copies consumed, the entry is drained; no house went down, returned or published for it.
  pub record Drainable (s : State) : Type 0 where
    pub requests : List ℕ
    pub copies : List ℕ
    pub drained : Drained B j c (run B (consumption requests copies) s)
    pub down : (run B (consumption requests copies) s).power.down ≡ s.power.down
    pub returned : (run B (consumption requests copies) s).power.returned ≡ s.power.returned
    pub publications : (run B (consumption requests copies) s).gave.publications ≡ s.gave.publications

  -- with any number of wrong houses, each honest house returning at most d times
  pub record Bounded (s : State) : Type 0 where
    -- demand 3's bound grows by 6hnd copies per entry
    pub bound : copies j c s ≤ n B + 2 * (h B * n B) + 6 * (h B * n B * B.limit)
    -- the READY messages
    pub readies : readies j c s ≤ h B * n B + 2 * (h B * n B * B.limit)

  -- with at most t
  pub record Agreed (s : State) : Type 0 where
    -- The honest houses never deliver two declarations for it,
    pub agree : (r q : ℕ) (v w : Decl) → Delivered s r v → Delivered s q w → v ≡ w
    -- and from an honest sender only what it published.
    pub authentic : T (is_honest B j) → (r : ℕ) (v : Decl) → Delivered s r v → Published s v

  -- and with at most f honest ones down, and no copy of this entry and no request between up houses left
  pub record Complete (s : State) : Type 0 where
    -- what a sender that is up published is what each house that is up delivered: none for none;
    pub equal : T (is_up B s j) → (r : ℕ) → T (is_up B s r) → s.gave.deliveries r j c ≡ s.gave.publications j j c
    -- an entry that one honest house delivered, up or not, is delivered by all that are up.
    pub all : (q : ℕ) (v : Decl) → Delivered s q v → Everywhere s v

  -- with d = 0, so that no house returns or is helped, and any number of wrong houses: what 01 says of each copy
  pub record Single (s : State) : Type 0 where
    pub bound : copies j c s ≤ n B + 2 * (h B * n B)
    pub bound_between : between B j c s ≤ h B + 2 * (h B * h B)
    -- A copy that an honest house sent is accepted where it is consumed: answered 0, so never 7 or 13.
    pub accepted : (i : ℕ) (m : Copy) → at s.mail i ≡ some m → T (on_it j c m) → T (is_honest B m.to) → m.consumed ≡ false
        → (consuming s m).answer ≡ 0

  -- and with at most t wrong and no house down: 01's exact counts
  pub record Exact (s : State) : Type 0 where
    -- once every copy of this entry between honest houses is consumed, it is drained
    pub drained : copies_of j c (λ m. is_between B m && not m.consumed) s.mail ≡ 0 → Drained B j c s
    pub by_count : T (is_honest B j) → (v : Decl) → Published s v → consumed_between B j c s ≡ h B + 2 * (h B * h B) → Everywhere s v
    pub cost : Drained B j c s → T (is_honest B j) → (v : Decl) → Published s v → copies j c s ≡ n B + 2 * (h B * n B)
    pub cost_between : Drained B j c s → T (is_honest B j) → (v : Decl) → Published s v → between B j c s ≡ h B + 2 * (h B * h B)
    pub all_readies : Drained B j c s → (q : ℕ) (v : Decl) → Delivered s q v → readies j c s ≡ h B * n B

  -- in any order of calls; `Few` says that at most t houses are wrong, `Part` that at most f honest ones are down
  pub record Season (Few : Type 0) (Part : State → Type 0) (l : List Step) : Type 0 where
    pub safe : Safe (run B l start)
    pub drainable : Drainable (run B l start)
    pub bounded : Limited B (run B l start).power → Bounded (run B l start)
    pub agreed : Few → Agreed (run B l start)
    pub complete : Few → Limited B (run B l start).power → Part (run B l start) → Drained B j c (run B l start)
        → Complete (run B l start)
    pub single : B.limit ≡ 0 → Limited B (run B l start).power → Single (run B l start)
    pub exact : Few → Part (run B l start) → B.limit ≡ 0 → Limited B (run B l start).power → downs B (run B l start) ≡ 0
        → Exact (run B l start)

-- of every run and every entry
pub record Claims : Type 0 where
  -- with any thresholds that meet the inequalities,
  pub thresholds : (B : Wall) (t : ℕ) (l : List Step) (j c : ℕ) → Season B j c (Tolerated B t) (λ s. TakePart B (is_up B s)) l
  -- and with the card's counts: take n houses, n > 3t + 2f, at most t of them wrong, at most f honest ones down;
  pub card : (n t f d numbers : ℕ) (ok : Decl → Bool) (honest : ℕ → Bool) → 3 * t + 2 * f < n → (l : List Step) (j c : ℕ)
      → Season (wall_of n t f d numbers ok honest) j c (AtMost (wall_of n t f d numbers ok honest) t)
      (λ s. downs (wall_of n t f d numbers ok honest) s ≤ f) l
  -- and the rule between entries.
  pub alone : (R : Rules) (numbers own : ℕ) (a : Call) → Alone R numbers own a
  -- Each answer is given exactly when the rules say.
  pub receiving : (R : Rules) (numbers own p : ℕ) (k : Kind) (j c : ℕ) (v : Decl) (b : Book) → ReceivingOrder R numbers own p k j c v b
  pub publishing : (R : Rules) (numbers own c : ℕ) (v : Decl) (b : Book) → own < R.n → PublishingOrder R numbers own c v b
