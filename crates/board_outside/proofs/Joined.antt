-- A text that was handed over, and then what became of the next.
use Rattle.std.proofs.Common.{◌≡◌, ℕ, ◌+◌, ◌≤◌, List, ◌++◌, take, length, length-append, Bool, true, false, Option, ◌∙◌, refl, ap, sym, subst, arith}
use Rattle.std.proofs.Math.Seq.{take-append-add}
use Rattle.std.specs.Prelude.{nat_le}
use Rattle.std.proofs.lemmas.Bool.{lt-leb}
use Rattle.board_outside.specs.Counts.{added, Rose}
use Rattle.board_outside.specs.Puts.{PutsState, with_taken, Hands}
use Rattle.board_outside.specs.Buffered.{most_kept, handed}
use Rattle.board_outside.proofs.CountsSoFar.{added_more, taken_more}
use Rattle.board_outside.proofs.Writing.{appends_both}

both_taken : (p : PutsState) (a b : List ℕ) → with_taken (with_taken p (length a)) (length b) ≡ with_taken p (length (a ++ b))
both_taken p a b = taken_more p (length a) (length b) ∙ ap (with_taken p) (sym (length-append a b))

pub hands_both : (o m n : Option (List ℕ)) (p q s : PutsState) (r : Bool) (a b : List ℕ) → Hands true o m p q a → Hands r m n q s b → Hands r o n p s (a ++ b)
hands_both o m n p q s true a b g h =
    (appends_both o m n a b g.0 h.0, h.1 ∙ ap (λ (x : PutsState). with_taken x (length b)) g.1 ∙ both_taken p a b)
hands_both o m n p q s false a b g h = (
  length a + h.0,
  omega (arith, h.1, length-append a b),
  rw (take-append-add a b h.0) (appends_both o m n a (take h.0 b) g.0 h.2),
  record {
    taken = h.3.taken ∙ ap (λ (x : PutsState). added x.bytes h.0) g.1 ∙ added_more p.bytes (length a) h.0;
    failed = subst (λ (x : PutsState). Rose x.faults s.faults) g.1 h.3.failed;
  },
)

-- a text that doesn't fit goes with what is kept
pub handed_is_both : (kept text : List ℕ) → most_kept + 1 ≤ length kept + length text → kept ++ text ≡ handed kept text
handed_is_both kept text more = let past : nat_le (length kept + length text) most_kept ≡ false = lt-leb _ _ more in rw past refl
