-- What the code has found of a message before its step, and the call that the message asks for.
use Rattle.std.specs.Prelude.{ℕ, ◌≡◌, true, List}
use Rattle.words.specs.Words.{Bytes, word_at}
use Rattle.message.specs.Message.{well_formed}
use Rattle.entry.specs.Entry.{Kind}
use Rattle.protocol.specs.Book.{Call, receiving}
use Rattle.meaning.specs.Book.{season_of}
use Rattle.meaning.specs.Legal.{head_legal, Fits}
use Rattle.calls.specs.Entered.{Plausible}
use Rattle.layout.specs.Places.{Begins}
use Rattle.reply.specs.Handed.{sender_in, number_in, lot_in}

-- the call that message m, of the kind and from house p, asks for
abbrev pub asked_by : (house : ℕ) → Kind → List ℕ → Call
asked_by p k m = receiving p k (sender_in m) (number_in m) (lot_in m)

-- message m is well formed and of the book's season, and the head is legal
pub record Comes (b m : List ℕ) : Type 0 where
  pub head : head_legal b ≡ true
  pub formed : well_formed m ≡ true
  pub bytes : Bytes m
  pub season : word_at m 7 ≡ season_of b

-- the book has its entry, which is legal and begins at `base`, and its declaration is plausible
pub record Carries (b m : List ℕ) (base : ℕ) : Type 0 where
  pub comes : Comes b m
  pub fits : Fits b (sender_in m) (number_in m)
  pub begins : Begins b (sender_in m) (number_in m) base
  pub plausible : Plausible b (lot_in m)
