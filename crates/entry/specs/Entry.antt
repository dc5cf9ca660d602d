-- One entry of one house's book: what it heard, what it sent, delivered and published; vouchers, and what filling its slots leaves.
use Rattle.std.specs.Prelude.{◌≡◌, Bool, true, false, cond, ◌&&◌, List, [], ◌∷◌, ℕ, eqb}
use Rattle.std.proofs.Math.Option.{Option, none, some}
use Rattle.card.specs.Count.{count}
use Rattle.entry.specs.Lists.{upd}

-- a declaration is its bytes
abbrev pub Decl : Type 0
Decl = List ℕ

-- Two declarations are the same exactly when all bytes are.
unfoldable pub same : Decl → Decl → Bool
same [] [] = true
same [] (y ∷ ys) = false
same (x ∷ xs) [] = false
same (x ∷ xs) (y ∷ ys) = eqb x y && same xs ys

pub data Kind : Type 0 where
  SEND ECHO READY : Kind

abbrev pub same_kind : Kind → Kind → Bool
same_kind SEND SEND = true
same_kind SEND ECHO = false
same_kind SEND READY = false
same_kind ECHO SEND = false
same_kind ECHO ECHO = true
same_kind ECHO READY = false
same_kind READY SEND = false
same_kind READY ECHO = false
same_kind READY READY = true

-- The SEND's declaration or none; for each house its ECHO's and READY's declarations or none; the READY this house sent, or none;
-- the delivered declaration, or none; and for its own entries what it published, or none.
pub record Entry : Type 0 where
  pub send : Option Decl
  pub echo : ℕ → Option Decl
  pub ready : ℕ → Option Decl
  pub ready_sent : Option Decl
  pub delivered : Option Decl
  pub published : Option Decl

-- Opening: nothing heard, sent, delivered or published.
abbrev pub fresh : Entry
fresh =
    record { send = none; echo = λ p. none; ready = λ p. none; ready_sent = none; delivered = none; published = none }

-- what was accepted of a kind from a house
abbrev pub heard : Kind → ℕ → Entry → Option Decl
heard SEND p e = e.send
heard ECHO p e = e.echo p
heard READY p e = e.ready p

-- what this house gave of a kind; it gives an ECHO as it accepts the SEND
abbrev pub outgoing : Kind → Entry → Option Decl
outgoing SEND e = e.published
outgoing ECHO e = e.send
outgoing READY e = e.ready_sent

abbrev pub is_none : Option Decl → Bool
is_none none = true
is_none (some v) = false

abbrev pub is_some : Option Decl → Bool
is_some none = false
is_some (some v) = true

abbrev pub holds : Option Decl → Decl → Bool
holds none v = false
holds (some w) v = same w v

-- how many of n houses vouch for v: a voucher counts for its declaration, and not for the entry
abbrev pub votes : (ℕ → Option Decl) → Decl → ℕ → ℕ
votes f v n = count (λ p. holds (f p) v) n

-- ---- an entry with more in it

abbrev pub mark : Bool → Decl → Option Decl → Option Decl
mark true v o = some v
mark false v o = o

-- a message of the kind is recorded
abbrev pub recorded : Kind → ℕ → Decl → Entry → Entry
recorded SEND p v e =
    record {
      send = some v;
      echo = e.echo;
      ready = e.ready;
      ready_sent = e.ready_sent;
      delivered = e.delivered;
      published = e.published;
    }
recorded ECHO p v e =
    record {
      send = e.send;
      echo = upd e.echo p (some v);
      ready = e.ready;
      ready_sent = e.ready_sent;
      delivered = e.delivered;
      published = e.published;
    }
recorded READY p v e =
    record {
      send = e.send;
      echo = e.echo;
      ready = upd e.ready p (some v);
      ready_sent = e.ready_sent;
      delivered = e.delivered;
      published = e.published;
    }

-- the READY sent and the delivered, marked where b and d say so
abbrev pub marked : Bool → Bool → Decl → Entry → Entry
marked b d v e =
    record {
      send = e.send;
      echo = e.echo;
      ready = e.ready;
      ready_sent = mark b v e.ready_sent;
      delivered = mark d v e.delivered;
      published = e.published;
    }

-- what it published is marked
abbrev pub announced : Decl → Entry → Entry
announced v e =
    record {
      send = e.send;
      echo = e.echo;
      ready = e.ready;
      ready_sent = e.ready_sent;
      delivered = e.delivered;
      published = some v;
    }

-- ---- entries of a book

-- one for each sender and number
abbrev pub PerEntry : Type 0 → Type 0
PerEntry A = ℕ → ℕ → A

abbrev pub same_entry : (sender number sender₂ number₂ : ℕ) → Bool
same_entry j c j₂ c₂ = eqb j₂ j && eqb c₂ c

-- b with x at sender j and number c
abbrev pub put_at : {A : Type 0} → PerEntry A → ℕ → ℕ → A → PerEntry A
put_at b j c x j₂ c₂ = cond (same_entry j c j₂ c₂) x (b j₂ c₂)

-- ---- what is kept

-- what stands in a slot stays
abbrev pub Stays : Option Decl → Option Decl → Type 0
Stays o o₂ = (v : Decl) → o ≡ some v → o₂ ≡ some v

-- slots only ever fill
pub record Filled (e e₂ : Entry) : Type 0 where
  pub send : Stays e.send e₂.send
  pub echo : (p : ℕ) → Stays (e.echo p) (e₂.echo p)
  pub ready : (p : ℕ) → Stays (e.ready p) (e₂.ready p)
  pub ready_sent : Stays e.ready_sent e₂.ready_sent
  pub delivered : Stays e.delivered e₂.delivered
  pub published : Stays e.published e₂.published
