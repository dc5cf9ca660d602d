-- The bytes laid are the message's three fields.
use Rattle.std.proofs.Common.{rules, ◌≡◌, ℕ, ◌/◌, ◌%◌, List, ◌∷◌, ◌++◌, length, get_or, sym, ◌∙◌}
use Rattle.words.specs.Words.{be32}
use Rattle.words.proofs.Laws.{be32_to_be_bytes}
use Rattle.words.proofs.Listed.{listed, listed_is}
use Rattle.message.specs.Message.{fields}
use Rattle.writer.proofs.lay_message.Goals as goal

-- the 36 bytes, with two for the length of the last field
abbrev laid : (kind sender number high low : ℕ) → List ℕ → List ℕ → List ℕ
laid kind sender number high low season d =
    1 ∷ 0 ∷ 1 ∷ kind ∷ 2 ∷ 0 ∷ 6 ∷ listed 4 (λ i. get_or season i 0) ++ (sender ∷ number ∷ 3 ∷ high ∷ low ∷ d)

laid_is : (kind sender number season : ℕ) (q d : List ℕ) → q ≡ be32 season → length d ≡ 20
    → laid kind sender number 0 20 q (listed 20 (λ i. get_or d i 0)) ≡ fields kind season sender number d
laid_is kind sender number season q d e l =
    (λ i. laid kind sender number 0 20 (e i) (sym (listed_is d 20 l) i))
    ∙ (λ i. laid kind sender number (sym l i / 256) (sym l i % 256) (be32 season) d)

pub returns : goal.returns
returns c =
    let a = c.args in
    let long : length a.d ≡ 20 = search rules in
    laid_is a.kind a.sender a.number a.season c.to_be_bytes-q.result a.d
    (c.to_be_bytes-q.ensures ∙ be32_to_be_bytes a.season c.ranges.season.fits) long
