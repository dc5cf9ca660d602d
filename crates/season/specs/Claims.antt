-- What is claimed of every run at the bytes, of the entry of sender j and number c, in document 01's order.
use Rattle.std.specs.Prelude.{ℕ, zero, suc, ◌+◌, ◌*◌, ◌≤◌, ◌<◌, ◌≡◌, ◌⊎◌, true, false, not, ◌&&◌, List, [], ◌∷◌, T, length}
use Rattle.std.proofs.Math.Option.{Option, none, some}
use Rattle.card.specs.Card.{fitting}
use Rattle.card.specs.Count.{count}
use Rattle.lot.specs.Declaration.{bytes_of}
use Rattle.sheet.specs.Kept.{judged}
use Rattle.message.specs.Message.{Five, read_of}
use Rattle.entry.specs.Entry.{heard, Kind}
use Rattle.entry.specs.Lists.{at, in_turn}
use Rattle.meaning.specs.Book.{look}
use Rattle.meaning.specs.Legal.{IsDecl}
use Rattle.calls.specs.Entered.{kind_of}
use Rattle.calls.specs.Call.{published, received}
use Rattle.calls.specs.Again.{returned, sending, sent_of}
use Rattle.season.specs.Run.{Houses, is_honest, is_wrong, is_up, h, Open, Copy, State, Step, start, run, copies, readies, between}
use Rattle.season.specs.Run.{receives, consume, help, is_between, consumed_between, copies_of, Drained, Limited, downs}

-- at most t of them wrong, t the largest that fits n and f
abbrev pub Few : Houses → Type 0
Few H = count (is_wrong H) H.n ≤ fitting H.n H.down

-- what the message says stands in the book, from house p, kind and entry
abbrev pub Stands : List ℕ → (house : ℕ) → Option Five → Type 0
Stands b p none = ⊥
Stands b p (some m) =
    (k : Kind) × (kind_of m.kind ≡ some k) × (heard k p (look b m.sender m.number) ≡ some (bytes_of m.declaration))

-- what copy m is answered where it is brought to its house
abbrev pub answer_to : State → Copy → ℕ
answer_to s m = (received (s.gave.books m.to) m.from m.message).given.answer

-- what copy m says stands in its house's book: that house heard it
abbrev pub Heard : State → Copy → Type 0
Heard s m = Stands (s.gave.books m.to) m.from (read_of m.message).five

-- Copy m is brought to its house so many times more: its house receives it, as often as that. No step of a run does this.
abbrev pub brought : Houses → Copy → ℕ → State → State
brought H m zero s = s
brought H m (suc k) s =
    let before : State = brought H m k s in receives H m.to m.from m.message before before.mail

-- the message is what the book gives of its kind and entry
abbrev pub Outgoing : List ℕ → Option Five → (message : List ℕ) → Type 0
Outgoing b none message = ⊥
Outgoing b (some m) message = sent_of b m.kind m.sender m.number ≡ sending 0 (some message)

-- it reads as a SEND, an ECHO or a READY of the season, on an entry of the book
abbrev pub OfSeason : Houses → Option Five → Type 0
OfSeason H none = ⊥
OfSeason H (some m) =
    (1 ≤ m.kind) × (m.kind ≤ 3) × (m.season ≡ H.season) × (m.sender < H.n) × (m.number < H.numbers)

-- the steps that consume the requests at these places, and then the copies at those
abbrev pub consumption : (requests copies : List ℕ) → List Step
consumption requests copies = in_turn help consume requests copies

-- a copy of the message, from house r to house q
pub record SentTo (s : State) (r q : ℕ) (message : List ℕ) : Type 0 where
  pub place : ℕ
  pub copy : Copy
  pub posted : at s.mail place ≡ some copy
  pub from : copy.from ≡ r
  pub to : copy.to ≡ q
  pub says : copy.message ≡ message

module _ (H : Houses) where
  -- copy m, which an honest house sent, is not consumed yet, and its house is up
  pub record Consumable (s : State) (i : ℕ) (m : Copy) : Type 0 where
    pub posted : at s.mail i ≡ some m
    pub up : T (is_up H s m.to)
    pub new : m.consumed ≡ false

  -- Repeat or conflict, a nervous carrier or a liar: with any number of wrong houses, and however often houses crash and return
  pub record RepeatOrConflict (s : State) : Type 0 where
    -- A copy that an honest house sent is answered 0 where it is first heard, and 7 where it was heard.
    pub first : (i : ℕ) (m : Copy) → at s.mail i ≡ some m → T (is_honest H m.to) → (Heard s m → ⊥) → answer_to s m ≡ 0
    pub again : (i : ℕ) (m : Copy) → at s.mail i ≡ some m → T (is_honest H m.to) → Heard s m → answer_to s m ≡ 7
    -- Consumed at a house that is up, and brought again, whatever steps come between and any number of times, it is answered 7,
    pub repeat : (i : ℕ) (m : Copy) → Consumable s i m → (l : List Step) (k : ℕ)
        → answer_to (brought H m k (run H (consume i ∷ l) s)) m ≡ 7
    -- and nothing of the season moves.
    pub unmoved : (i : ℕ) (m : Copy) → Consumable s i m → (l : List Step) (k : ℕ)
        → brought H m k (run H (consume i ∷ l) s) ≡ run H (consume i ∷ l) s
    -- So no copy that an honest house sent is ever answered 13,
    pub no_conflict : (i : ℕ) (m : Copy) → at s.mail i ≡ some m → T (is_honest H m.to) → answer_to s m ≡ 13 → ⊥
    -- and whoever is answered 13 lied: where it is told truly which house a message came from, so that under an honest house's number
    -- comes what that house sent, to whichever house, it is a wrong house, one of the n.
    pub lied : (r p : ℕ) (message : List ℕ) → T (is_honest H r) → (T (is_honest H p) → (q : ℕ) × SentTo s p q message)
        → (received (s.gave.books r) p message).given.answer ≡ 13 → (p < H.n) × T (is_wrong H p)

module _ (H : Houses) (j c : ℕ) where
  -- house r delivered v on this entry, and nothing else
  abbrev pub Delivered : State → ℕ → List ℕ → Type 0
  Delivered s r v = s.gave.deliveries r j c ≡ v ∷ []

  -- the sender's publication of v was accepted, and no other
  abbrev pub Published : State → List ℕ → Type 0
  Published s v = s.gave.publications j j c ≡ v ∷ []

  -- delivered at all that are up
  abbrev pub Everywhere : State → List ℕ → Type 0
  Everywhere s v = (r : ℕ) → T (is_up H s r) → Delivered s r v

  -- with any number of wrong houses, and however often houses crash and return
  pub record Safe (s : State) : Type 0 where
    -- At most one delivery per entry at each single house.
    pub once : (r : ℕ) → T (is_honest H r) → length (s.gave.deliveries r j c) ≤ 1
    -- At most one publication is accepted at each number.
    pub published_once : length (s.gave.publications j j c) ≤ 1
    -- No honest house ever delivers an implausible declaration.
    pub plausible : (r : ℕ) (v : List ℕ) → T (is_honest H r) → Delivered s r v → judged H.sheet v ≡ 0
    -- A copy that an honest house sent is accepted where it is consumed, or is a repeat of what was accepted.
    pub accepted : (i : ℕ) (m : Copy) → at s.mail i ≡ some m → T (is_honest H m.to)
        → (answer_to s m ≡ 0) ⊎ ((answer_to s m ≡ 7) × Heard s m)
    -- Every copy in the mail reads, of the season, on an entry of the book.
    pub mail : (i : ℕ) (m : Copy) → at s.mail i ≡ some m → OfSeason H (read_of m.message).five
    -- The book is its own outbox: it gives every message that its house sent,
    pub outbox : (i : ℕ) (m : Copy) → at s.mail i ≡ some m
        → T (is_honest H m.from) × Outgoing (s.gave.books m.from) (read_of m.message).five m.message
    -- and none that its house did not send to all n.
    pub sent : (r kind : ℕ) → T (is_honest H r) → (sent_of (s.gave.books r) kind j c).gives ≡ true
        → (q : ℕ) → q < H.n → SentTo s r q (sent_of (s.gave.books r) kind j c).message
    -- A return is answered 0.
    pub returns : (r : ℕ) → T (is_honest H r) → (returned (s.gave.books r)).answer ≡ 0
    -- An honest sender's first plausible declaration at a number of the book is accepted.
    pub publishable : T (is_honest H j) → (v : List ℕ) → IsDecl v → judged H.sheet v ≡ 0 → s.gave.publications j j c ≡ []
        → (published (s.gave.books j) c v).given.answer ≡ 0

  -- Some requests and some copies consumed, the entry is drained; no house went down, returned or published for it.
  pub record Drainable (s : State) : Type 0 where
    pub requests : List ℕ
    pub copies : List ℕ
    pub drained : Drained H j c (run H (consumption requests copies) s)
    pub down : (run H (consumption requests copies) s).power.down ≡ s.power.down
    pub returned : (run H (consumption requests copies) s).power.returned ≡ s.power.returned
    pub publications : (run H (consumption requests copies) s).gave.publications ≡ s.gave.publications

  -- with any number of wrong houses, each honest house returning at most d times
  pub record Bounded (s : State) : Type 0 where
    -- demand 3's bound grows by 6hnd copies per entry
    pub bound : copies j c s ≤ H.n + 2 * (h H * H.n) + 6 * (h H * H.n * H.limit)
    -- the READY messages
    pub readies : readies j c s ≤ h H * H.n + 2 * (h H * H.n * H.limit)
    -- A request that an honest house sent is accepted where it is consumed: answered 0, so never 14.
    pub helped : (i : ℕ) (m : Copy) → at s.power.requests i ≡ some m → T (is_honest H m.from) → T (is_honest H m.to)
        → m.consumed ≡ false → (received (s.gave.books m.to) m.from m.message).given.answer ≡ 0

  -- with at most t
  pub record Agreed (s : State) : Type 0 where
    -- The honest houses never deliver two declarations for it,
    pub agree : (r q : ℕ) (v w : List ℕ) → T (is_honest H r) → T (is_honest H q) → Delivered s r v → Delivered s q w → v ≡ w
    -- and from an honest sender only what it published.
    pub authentic : T (is_honest H j) → (r : ℕ) (v : List ℕ) → T (is_honest H r) → Delivered s r v → Published s v

  -- and with at most f honest ones down, and no copy of this entry and no request between up houses left
  pub record Complete (s : State) : Type 0 where
    -- what a sender that is up published is what each house that is up delivered: none for none;
    pub equal : T (is_up H s j) → (r : ℕ) → T (is_up H s r) → s.gave.deliveries r j c ≡ s.gave.publications j j c
    -- an entry that one honest house delivered, up or not, is delivered by all that are up.
    pub all : (q : ℕ) (v : List ℕ) → T (is_honest H q) → Delivered s q v → Everywhere s v

  -- Some requests and some copies consumed, v is delivered at all that are up.
  pub record Deliverable (s : State) (v : List ℕ) : Type 0 where
    pub requests : List ℕ
    pub copies : List ℕ
    pub everywhere : Everywhere (run H (consumption requests copies) s) v

  -- with d = 0, so that no house returns or is helped, and any number of wrong houses: what 01 says of each copy
  pub record Single (s : State) : Type 0 where
    -- In any order of calls the honest houses send at most n + 2hn messages on one entry,
    pub bound : copies j c s ≤ H.n + 2 * (h H * H.n)
    -- and of these at most h + 2h^2 between honest houses.
    pub bound_between : between H j c s ≤ h H + 2 * (h H * h H)
    -- A copy that an honest house sent is accepted where it is consumed: answered 0, so never 7 or 13.
    pub accepted : (i : ℕ) (m : Copy) → at s.mail i ≡ some m → T (is_honest H m.to) → m.consumed ≡ false → answer_to s m ≡ 0

  -- and with at most t wrong and no house down: 01's exact counts
  pub record Exact (s : State) : Type 0 where
    -- Once every copy of this entry between honest houses is consumed, it is drained.
    pub drained : copies_of j c (λ m. is_between H m && not m.consumed) s ≡ 0 → Drained H j c s
    -- An accepted publication by an honest sender is delivered at every honest house by the time its h + 2h^2 copies between honest
    -- houses are consumed.
    pub by_count : T (is_honest H j) → (v : List ℕ) → Published s v → consumed_between H j c s ≡ h H + 2 * (h H * h H) → Everywhere s v
    -- Drained, an entry an honest sender published cost exactly n + 2hn,
    pub cost : Drained H j c s → T (is_honest H j) → (v : List ℕ) → Published s v → copies j c s ≡ H.n + 2 * (h H * H.n)
    -- h + 2h^2 of them between honest houses;
    pub cost_between : Drained H j c s → T (is_honest H j) → (v : List ℕ) → Published s v → between H j c s ≡ h H + 2 * (h H * h H)
    -- an entry that one honest house delivered is delivered at exactly hn READY messages.
    pub all_readies : Drained H j c s → (q : ℕ) (v : List ℕ) → T (is_honest H q) → Delivered s q v → readies j c s ≡ h H * H.n

  -- in any order of calls
  pub record Season (l : List Step) : Type 0 where
    pub safe : Safe (run H l (start H))
    pub repeat_or_conflict : RepeatOrConflict H (run H l (start H))
    pub drainable : Drainable (run H l (start H))
    pub bounded : Limited H (run H l (start H)) → Bounded (run H l (start H))
    pub agreed : Few H → Agreed (run H l (start H))
    pub complete : Few H → Limited H (run H l (start H)) → downs H (run H l (start H)) ≤ H.down → Drained H j c (run H l (start H))
        → Complete (run H l (start H))
    -- drained or not, what a sender that is up published can be delivered still
    pub deliverable : Few H → Limited H (run H l (start H)) → downs H (run H l (start H)) ≤ H.down → T (is_up H (run H l (start H)) j)
        → (v : List ℕ) → Published (run H l (start H)) v → Deliverable (run H l (start H)) v
    pub single : H.limit ≡ 0 → Limited H (run H l (start H)) → Single (run H l (start H))
    pub exact : Few H → H.limit ≡ 0 → Limited H (run H l (start H)) → downs H (run H l (start H)) ≡ 0 → Exact (run H l (start H))

-- of every run of houses that opened their books with answer 0, and of every sender and number in the book
abbrev pub Claims : Type 0
Claims = (H : Houses) → Open H → (l : List Step) (j c : ℕ) → j < H.n → c < H.numbers → Season H j c l
