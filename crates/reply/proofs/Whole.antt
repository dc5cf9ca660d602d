-- The first 36 bytes of a message of 36 are the message.
use Rattle.std.proofs.Common.{ℕ, List, ◌≡◌, length, take, arith}
use Rattle.std.proofs.Math.Seq.{take_all}

pub whole : (m : List ℕ) → length m ≡ 36 → take 36 m ≡ m
whole m h = take_all 36 m (omega arith)
