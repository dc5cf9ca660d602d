-- Every refusal leaves the lent buffer byte for byte and carries no message and no delivery.
use Prim.Native.Nat.{ℕ}
use mathlib.Core.Path.{◌≡◌, refl}
use mathlib.Core.Bool.{Bool, true, false, cond, ◌&&◌}
use mathlib.Core.List.{List}
use mathlib.Core.Option.{Option, none, some}
use lib.Dec.{eqb, ltb}
use lib.ListN.{replicate}
use borrow.Author.Tests.{eqb-true}
use Rattle.message.specs.Message.{Five, read_of, request_of, request_wire}
use Rattle.entry.specs.Entry.{Decl, Kind}
use Rattle.protocol.specs.Steps.{Out}
use Rattle.protocol.specs.Book.{Call, publishing, sender_of, number_of}
use Rattle.meaning.specs.Book.{n_of, numbers_of, own_of, season_of, count_help}
use Rattle.meaning.specs.Legal.{legal}
use Rattle.calls.specs.Entered.{Result, helping, kind_of, entered}
use Rattle.calls.specs.declared.Waiting.{Waiting}
use Rattle.calls.specs.declared.Returned.{Returned}
use Rattle.calls.specs.declared.Sent.{Sent}
use Rattle.calls.specs.Call.{refusal, step_of, called, published, asked, answering, heard_any, request_answer, requested, received}
use Rattle.calls.specs.Search.{earliest, found, waiting, Place}
use Rattle.calls.specs.Again.{returned, sending, sent_on, sent_as, sent_of}
use Rattle.calls.specs.Silent.{Refuses, Silent}

module _ (b : List ℕ) where
  pub refuses : (n : ℕ) → Refuses b (refusal n b)
  refuses n = record { book = refl; gives = refl; message = refl; delivers = refl; declaration = refl; helps = refl }

  abbrev Silently : Result → Type 0
  Silently r = (r.given.answer ≡ 0 → ⊥) → Refuses b r

  called_silent : (a : Call) → Silently (called b a)
  unfolding called entered
  called_silent a = go (eqb o.answer 0) refl
    where
      o : Out
      o = step_of b a

      go : (t : Bool) → eqb o.answer 0 ≡ t
          → Silently (cond t (entered b (sender_of (own_of b) a) (number_of a) o) (refusal o.answer b))
      go true e f = absurd (f (eqb-true o.answer 0 e))
      go false e f = refuses o.answer

  published_silent : (c : ℕ) (v : Decl) → Silently (published b c v)
  unfolding published
  published_silent c v = go (legal b)
    where
      go : (t : Bool) → Silently (cond t (called b (publishing c v)) (refusal 1 b))
      go true f = called_silent (publishing c v) f
      go false f = refuses 1

  pub requested_silent : (p season : ℕ) → Silently (requested b p season)
  unfolding requested
  requested_silent p season = go (eqb (request_answer b p season) 0)
    where
      go : (t : Bool) → Silently (cond t (record { given = helping; book = count_help b p }) (refusal (request_answer b p season) b))
      go true f = absurd (f refl)
      go false f = refuses (request_answer b p season)

  received_silent : (p : ℕ) (message : List ℕ) → Silently (received b p message)
  unfolding received
  received_silent p message = go (legal b) (request_of message) (read_of message).five
    where
      asking : (x : Option Call) → Silently (answering b x)
      asking none f = refuses 2
      asking (some a) f = called_silent a f

      in_season : (m : Five) (t : Bool) → Silently (cond t (answering b (asked p m)) (refusal 3 b))
      in_season m true f = asking (asked p m) f
      in_season m false f = refuses 3

      go : (t : Bool) (o : Option ℕ) (x : Option Five) → Silently (cond t (heard_any b p o x) (refusal 1 b))
      go true none none f = refuses 2
      go true none (some m) f = in_season m (eqb m.season (season_of b)) f
      go true (some season) x f = requested_silent p season f
      go false o x f = refuses 1

  waiting_silent : ((waiting b).answer ≡ 0 → ⊥) → (waiting b).waits ≡ false
  unfolding waiting
  waiting_silent = go (legal b) (earliest b)
    where
      tells : Bool → Option Place → Waiting
      tells t o = cond t (found o) (record { answer = 1; waits = false; number = 0; sender = 0 })

      go : (t : Bool) (o : Option Place) → ((tells t o).answer ≡ 0 → ⊥) → (tells t o).waits ≡ false
      go true none f = refl
      go true (some x) f = absurd (f refl)
      go false o f = refl

  returned_silent : ((returned b).answer ≡ 0 → ⊥) → (returned b).request ≡ replicate 11 0
  unfolding returned
  returned_silent = go (legal b)
    where
      tells : Bool → Returned
      tells t = cond t (record { answer = 0; request = request_wire (season_of b) }) (record { answer = 1; request = replicate 11 0 })

      go : (t : Bool) → ((tells t).answer ≡ 0 → ⊥) → (tells t).request ≡ replicate 11 0
      go true f = absurd (f refl)
      go false f = refl

  sent_silent : (kind j c : ℕ) → ((sent_of b kind j c).answer ≡ 0 → ⊥)
      → ((sent_of b kind j c).gives ≡ false) × ((sent_of b kind j c).message ≡ replicate 36 0)
  unfolding sent_of
  sent_silent kind j c = go (legal b) (kind_of kind)
    where
      Nothing : Sent → Type 0
      Nothing s = (s.answer ≡ 0 → ⊥) → (s.gives ≡ false) × (s.message ≡ replicate 36 0)

      inside : (k : Kind) (w : Bool) → Nothing (cond w (sending 0 (sent_on b k j c)) (sending 4 none))
      inside k true f = absurd (f refl)
      inside k false f = (refl, refl)

      go : (t : Bool) (o : Option Kind) → Nothing (cond t (sent_as b o j c) (sending 1 none))
      go true none f = (refl, refl)
      go true (some k) f = inside k (ltb j (n_of b) && ltb c (numbers_of b)) f
      go false o f = (refl, refl)

pub silent : Silent
silent =
    record {
      published_silent = published_silent;
      received_silent = received_silent;
      waiting_silent = waiting_silent;
      returned_silent = returned_silent;
      sent_silent = sent_silent;
    }
