-- What this crate promises holds.
use Prim.Native.Nat.{ℕ, ◌<◌}
use mathlib.Core.List.{List}
use native.Mathlib.Omega.{arith}
use lib.ListN.{get_or}
use borrow.Author.Tests.{lt-ltb}
use Rattle.meaning.specs.Layout.{helped_place}
use Rattle.meaning.specs.Book.{n_of, limit_of, helped_of, help_of, more_help, with_help, count_help, meant}
use Rattle.meaning.specs.Legal.{Lent}
use Rattle.meaning.specs.Claims.{Means, Claims}
use Rattle.meaning.proofs.Legality.{legal_facts}
use Rattle.meaning.proofs.Lengths.{length_largest, longest, length_answered}
use Rattle.meaning.proofs.OneForm.{same_bytes}
use Rattle.meaning.proofs.Every.{written_legal, written_bytes, written_meant, legal_exactly}
use Rattle.meaning.proofs.Opening.{opened_refused, opened_legal, opened_bytes, opened_meant}
use Rattle.meaning.proofs.Legality.{legal_facts, legal_head}
use Rattle.meaning.proofs.Helped.{help_legal, help_bytes_lem, help_meant}

helped_more : (b : List ℕ) → Lent b → (p : ℕ) → p < n_of b → helped_of b p < limit_of b
    → Means (count_help b p) (with_help (meant b) (more_help (help_of b) p))
unfolding helped_of
helped_more b L p l m =
    let low : get_or b (helped_place p) 0 < limit_of b = rw (lt-ltb p (n_of b) l) at m in
    let head = legal_head b L.legal in
    record {
      lent = record {
        legal = help_legal b head L.bytes p l low (legal_facts b L.legal).slots;
        bytes = help_bytes_lem b head L.bytes p l low;
      };
      means = help_meant b head L.bytes p l low;
    }

pub claims : Claims
claims =
    record {
      legal_exactly = legal_exactly;
      written = λ B I.
          record { lent = record { legal = written_legal B I; bytes = written_bytes B I }; means = written_meant B I };
      same_bytes = λ b c L M e. same_bytes b c L.legal M.legal L.bytes M.bytes e;
      long = λ b h. (legal_facts b h).long;
      length_most = omega (arith, length_largest);
      longest = λ n s h k. omega (arith, longest n s h k);
      length_answered = length_answered;
      opened_fresh = λ b n s own f d season sheet l bytes e.
          record {
            lent = record {
              legal = opened_legal b n s own f d season sheet l bytes e;
              bytes = opened_bytes b n s own f d season sheet l bytes e;
            };
            means = opened_meant b n s own f d season sheet l bytes e;
          };
      opened_refused = opened_refused;
      helped = helped_more;
    }
