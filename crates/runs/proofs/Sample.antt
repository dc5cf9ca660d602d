-- The houses of the computed seasons open their books with answer 0.
use Prim.Native.Nat.{ℕ}
use mathlib.Core.Path.{◌≡◌}
use mathlib.Core.Bool.{Bool, true}
use lib.Dec.{leb, ltb, lit<}
use lib.ListN.{replicate, length-replicate}
use borrow.Author.Tests.{eq-eqb}
use Rattle.card.specs.Card as card
use Rattle.words.specs.Words.{be32}
use Rattle.words.proofs.Bytes.{bytes_append, bytes_zeros, be_bytes}
use Rattle.sheet.specs.Kept.{is_sheet}
use Rattle.entry.proofs.Basics.{true_of, and_l}
use Rattle.meaning.specs.Layout.{numbers_ok, most_limit, length_of}
use Rattle.meaning.specs.Opening.{opened}
use Rattle.season.specs.Run.{opens, Open}
use Rattle.runs.specs.Sample.{sample}

module _ (n f d : ℕ) (honest : ℕ → Bool) (a : card.houses_ok n ≡ true) (b : card.down_ok n f ≡ true) (c : leb d most_limit ≡ true) where
  zero_is : (r : ℕ) → ltb r n ≡ true → (opens (sample n f d honest) r).answer ≡ 0
  unfolding sample opened numbers_ok is_sheet
  zero_is r l = rw (a, b, c, l, eq-eqb _ _ (length-replicate {A = ℕ} (length_of n 1) 0))

  pub sample_open : Open (sample n f d honest)
  unfolding sample
  sample_open =
      record {
        answer = λ r t. zero_is r (true_of (ltb r n) (and_l (ltb r n) (honest r) t));
        season = lit< tt;
        sheet = bytes_append (be32 20) (replicate 18 0) (be_bytes 20 (lit< tt)) (bytes_zeros 18);
      }
