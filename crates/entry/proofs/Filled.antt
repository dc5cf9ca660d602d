-- What stands in the slots of an entry stays: by itself, and from one entry to the next.
use Prim.Native.Nat.{ℕ}
use mathlib.Core.Path.{◌≡◌, refl}
use mathlib.Core.Option.{none, some}
use Rattle.entry.specs.Entry.{Kind, SEND, ECHO, READY, Entry, heard, outgoing, recorded, Decl, Stays, Filled}
use Rattle.entry.proofs.Basics.{none_some, upd_keeps, upd_same}

pub filled_heard : {e e₂ : Entry} → Filled e e₂ → (k : Kind) (p : ℕ) → Stays (heard k p e) (heard k p e₂)
filled_heard f SEND p = f.send
filled_heard f ECHO p = f.echo p
filled_heard f READY p = f.ready p

pub filled_own : {e e₂ : Entry} → Filled e e₂ → (k : Kind) → Stays (outgoing k e) (outgoing k e₂)
filled_own f SEND = f.published
filled_own f ECHO = f.send
filled_own f READY = f.ready_sent

pub filled_refl : (e : Entry) → Filled e e
filled_refl e =
    record {
      send = λ v x. x;
      echo = λ p v x. x;
      ready = λ p v x. x;
      ready_sent = λ v x. x;
      delivered = λ v x. x;
      published = λ v x. x;
    }

pub filled_trans : {a b c : Entry} → Filled a b → Filled b c → Filled a c
filled_trans f g =
    record {
      send = λ v x. g.send v (f.send v x);
      echo = λ p v x. g.echo p v (f.echo p v x);
      ready = λ p v x. g.ready p v (f.ready p v x);
      ready_sent = λ v x. g.ready_sent v (f.ready_sent v x);
      delivered = λ v x. g.delivered v (f.delivered v x);
      published = λ v x. g.published v (f.published v x);
    }

pub recorded_filled : (k : Kind) (p : ℕ) (v : Decl) (e : Entry) → heard k p e ≡ none → Filled e (recorded k p v e)
recorded_filled SEND p v e h =
    record {
      send = λ w x. absurd (none_some e.send w h x);
      echo = λ q w x. x;
      ready = λ q w x. x;
      ready_sent = λ w x. x;
      delivered = λ w x. x;
      published = λ w x. x;
    }
recorded_filled ECHO p v e h =
    record {
      send = λ w x. x;
      echo = λ q w x. upd_keeps e.echo p v q w h x;
      ready = λ q w x. x;
      ready_sent = λ w x. x;
      delivered = λ w x. x;
      published = λ w x. x;
    }
recorded_filled READY p v e h =
    record {
      send = λ w x. x;
      echo = λ q w x. x;
      ready = λ q w x. upd_keeps e.ready p v q w h x;
      ready_sent = λ w x. x;
      delivered = λ w x. x;
      published = λ w x. x;
    }

-- what is recorded is what is heard there
pub recorded_heard : (k : Kind) (p : ℕ) (v : Decl) (e : Entry) → heard k p (recorded k p v e) ≡ some v
recorded_heard SEND p v e = refl
recorded_heard ECHO p v e = upd_same e.echo p (some v)
recorded_heard READY p v e = upd_same e.ready p (some v)
