-- Counts after some bytes, and then some more.
use Rattle.std.proofs.Common.{◌≡◌, ℕ, zero, suc, zero-add, suc-add, add-zero, ◌+◌, ap, refl, arith}
use Rattle.board_outside.specs.Counts.{added}
use Rattle.board_outside.specs.Puts.{PutsState, with_taken}

pub added_more : (b i k : ℕ) → added (added b i) k ≡ added b (i + k)
added_more b zero k = rw zero-add refl
added_more b (suc i) zero = rw add-zero refl
added_more b (suc i) (suc k) = rw suc-add (omega arith)

pub taken_more : (p : PutsState) (i k : ℕ) → with_taken (with_taken p i) k ≡ with_taken p (i + k)
taken_more p i k = ap (λ b. record p { bytes = b }) (added_more p.bytes i k)
