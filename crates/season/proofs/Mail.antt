-- Copies and requests at the bytes beside the protocol's: each says what the other says, so both are posted, found, consumed and counted
-- alike.
use Prim.Native.Nat.{ℕ, zero, suc, ◌<◌}
use mathlib.Core.Path.{◌≡◌, refl, ap, ap₂}
use mathlib.Core.Bool.{Bool, true, false, cond}
use mathlib.Core.List.{List, [], ◌∷◌, ◌++◌}
use mathlib.Core.Option.{Option, none, some}
use native.Mathlib.Omega.{arith}
use lib.Dec.{eqb}
use Rattle.card.specs.Count.{bit}
use Rattle.lot.specs.Declaration.{declaration_at}
use Rattle.lot.proofs.Declared.{bytes_of_numbers}
use Rattle.message.specs.Message.{Five, Told, read_of, request_of}
use Rattle.message.specs.Message as message
use Rattle.message.proofs.RoundTrip.{read_of_wire}
use Rattle.meaning.specs.Legal.{IsDecl}
use Rattle.entry.specs.Entry.{Decl, Kind, SEND, ECHO, READY, same_kind}
use Rattle.protocol.specs.Steps.{Say, say}
use Rattle.protocol.specs.Book.{receiving}
use Rattle.entry.specs.Lists.{at, change_at, each, tally}
use Rattle.protocol.specs.Run as protocol
use Rattle.calls.specs.Call.{asked_as, asked}
use Rattle.calls.proofs.KindNumber.{kind_is, is_known}
use Rattle.calls.specs.Entered.{kind_number, five_of, letter, letters}
use Rattle.season.specs.Run.{Copy, copy_to, to_those, to_all, posted, consumed_copy, on_it, is_ready}

ready_number : (k : Kind) → eqb (kind_number k) 3 ≡ same_kind READY k
ready_number SEND = refl
ready_number ECHO = refl
ready_number READY = refl

-- the five things of the message that says it
abbrev pub five_for : (season sender number : ℕ) → Kind → Decl → Five
five_for season j c k v = five_of (kind_number k) season j c (declaration_at v 0)

-- a message that a call gave reads as what the step said
pub read_letter : (season j c : ℕ) (k : Kind) (v : Decl) → (read_of (letter season j c (say k v))).five ≡ some (five_for season j c k v)
unfolding letter
read_letter season j c k v = ap (λ (x : Told). x.five) (read_of_wire (five_for season j c k v) (is_known k))

-- and asks for the call that says it
pub asked_is : (p season j c : ℕ) (k : Kind) (v : Decl) → IsDecl v → asked p (five_for season j c k v) ≡ some (receiving p k j c v)
asked_is p season j c k v d = ap₂ (asked_as p j c) (bytes_of_numbers v d.long d.bytes) (kind_is k)

-- ---- two lists side by side

module _ {A : Type 0} (R : Copy → A → Type 0) where
  abbrev pub Mails : List Copy → List A → Type 0
  Mails [] [] = Unit
  Mails [] (x ∷ l) = ⊥
  Mails (m ∷ k) [] = ⊥
  Mails (m ∷ k) (x ∷ l) = R m x × Mails k l

  abbrev pub Both : Option Copy → Option A → Type 0
  Both none none = Unit
  Both none (some x) = ⊥
  Both (some m) none = ⊥
  Both (some m) (some x) = R m x

  pub mails_at : (k : List Copy) (l : List A) → Mails k l → (i : ℕ) → Both (at k i) (at l i)
  mails_at [] [] M i = tt
  mails_at [] (x ∷ l) M i = absurd M
  mails_at (m ∷ k) [] M i = absurd M
  mails_at (m ∷ k) (x ∷ l) M zero = M.0
  mails_at (m ∷ k) (x ∷ l) M (suc i) = mails_at k l M.1 i

  pub mails_append : (k : List Copy) (l : List A) (k₂ : List Copy) (l₂ : List A) → Mails k l → Mails k₂ l₂ → Mails (k ++ k₂) (l ++ l₂)
  mails_append [] [] k₂ l₂ M N = N
  mails_append [] (x ∷ l) k₂ l₂ M N = absurd M
  mails_append (m ∷ k) [] k₂ l₂ M N = absurd M
  mails_append (m ∷ k) (x ∷ l) k₂ l₂ M N = (M.0, mails_append k l k₂ l₂ M.1 N)

  pub mails_each : (f : ℕ → List Copy) (g : ℕ → List A) (n : ℕ) → ((i : ℕ) → i < n → Mails (f i) (g i)) → Mails (each f n) (each g n)
  mails_each f g zero h = tt
  mails_each f g (suc n) h =
      mails_append (each f n) (each g n) (f n) (g n) (mails_each f g n (λ i l. h i (omega arith))) (h n (omega arith))

  pub mails_changed : (f : Copy → Copy) (g : A → A) → ((m : Copy) (x : A) → R m x → R (f m) (g x)) → (k : List Copy) (l : List A)
      → Mails k l → (i : ℕ) → Mails (change_at f k i) (change_at g l i)
  mails_changed f g h [] [] M i = tt
  mails_changed f g h [] (x ∷ l) M i = absurd M
  mails_changed f g h (m ∷ k) [] M i = absurd M
  mails_changed f g h (m ∷ k) (x ∷ l) M zero = (h m x M.0, M.1)
  mails_changed f g h (m ∷ k) (x ∷ l) M (suc i) = (M.0, mails_changed f g h k l M.1 i)

  pub mails_tally : (P : Copy → Bool) (Q : A → Bool) → ((m : Copy) (x : A) → R m x → P m ≡ Q x) → (k : List Copy) (l : List A)
      → Mails k l → tally P k ≡ tally Q l
  mails_tally P Q f [] [] M = refl
  mails_tally P Q f [] (x ∷ l) M = absurd M
  mails_tally P Q f (m ∷ k) [] M = absurd M
  mails_tally P Q f (m ∷ k) (x ∷ l) M = omega (arith, ap bit (f m x M.0), mails_tally P Q f k l M.1)

module _ (season : ℕ) where
  -- ---- copies

  -- a copy's bytes say what the protocol's copy says
  pub record Says (m : Copy) (x : protocol.Copy) : Type 0 where
    pub from : m.from ≡ x.from
    pub to : m.to ≡ x.to
    pub consumed : m.consumed ≡ x.consumed
    pub read : (read_of m.message).five ≡ some (five_for season x.sender x.number x.kind x.decl)
    pub message : m.message ≡ letter season x.sender x.number (say x.kind x.decl)
    pub decl : IsDecl x.decl

  pub says_on_it : (j c : ℕ) (m : Copy) (x : protocol.Copy) → Says m x → on_it j c m ≡ protocol.on_it j c x
  says_on_it j c m x s = rw s.read

  pub says_ready : (m : Copy) (x : protocol.Copy) → Says m x → is_ready m ≡ same_kind READY x.kind
  says_ready m x s = rw s.read (ready_number x.kind)

  pub says_consumed : (m : Copy) (x : protocol.Copy) → Says m x → Says (consumed_copy m) (protocol.consumed_copy x)
  says_consumed m x s = record { from = s.from; to = s.to; consumed = refl; read = s.read; message = s.message; decl = s.decl }

  -- what a house gave, to the houses that pass Q
  pub mails_to_those : (Q : ℕ → Bool) (r j c : ℕ) (k : Kind) (v : Decl) → IsDecl v → (n : ℕ)
      → Mails Says (to_those Q r (letter season j c (say k v)) n) (protocol.to_those Q j c r k v n)
  mails_to_those Q r j c k v d n = mails_each Says _ _ n (λ q l. go q (Q q))
    where
      go : (q : ℕ) (t : Bool)
          → Mails Says (cond t (copy_to r (letter season j c (say k v)) q ∷ []) []) (cond t (protocol.copy_to j c r k v q ∷ []) [])
      go q true = (record { from = refl; to = refl; consumed = refl; read = read_letter season j c k v; message = refl; decl = d }, tt)
      go q false = tt

  mails_to_all : (r j c : ℕ) (k : Kind) (v : Decl) → IsDecl v → (n : ℕ)
      → Mails Says (to_all r (letter season j c (say k v)) n) (protocol.to_all j c r k v n)
  mails_to_all r j c k v d zero = tt
  mails_to_all r j c k v d (suc q) =
      mails_append Says (to_all r (letter season j c (say k v)) q) (protocol.to_all j c r k v q) _ _ (mails_to_all r j c k v d q)
      (record { from = refl; to = refl; consumed = refl; read = read_letter season j c k v; message = refl; decl = d }, tt)

  pub mails_posted : (r j c n : ℕ) (x : Option Say) → ((k : Kind) (v : Decl) → x ≡ some (say k v) → IsDecl v)
      → Mails Says (posted r (letters season j c x) n) (protocol.posted j c r x n)
  mails_posted r j c n none d = tt
  mails_posted r j c n (some (say k v)) d = mails_to_all r j c k v (d k v refl) n

  -- ---- requests

  -- a request's bytes ask for help in the season
  pub record Asks (m : Copy) (x : protocol.Request) : Type 0 where
    pub from : m.from ≡ x.from
    pub to : m.to ≡ x.to
    pub consumed : m.consumed ≡ x.consumed
    pub request : request_of m.message ≡ some season

  pub asks_consumed : (m : Copy) (x : protocol.Request) → Asks m x → Asks (consumed_copy m) (protocol.consumed_request x)
  asks_consumed m x s = record { from = s.from; to = s.to; consumed = refl; request = s.request }

  pub mails_requests : (r : ℕ) (message : List ℕ) → request_of message ≡ some season → (n : ℕ)
      → Mails Asks (to_all r message n) (each (λ q. protocol.request_to r q ∷ []) n)
  mails_requests r message e n =
      mails_each Asks _ _ n (λ q l. (record { from = refl; to = refl; consumed = refl; request = e }, tt))
