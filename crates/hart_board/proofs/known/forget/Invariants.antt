use Rattle.std.proofs.Common.{◌≡◌, length}
use Rattle.hart_board.proofs.KnownLemmas.{BlankTo}
use Rattle.hart_board.proofs.known.forget.Given as goal

-- all entries so far are nothing
abbrev pub invariant-loop-k : goal.invariant-loop-k
invariant-loop-k l = (length l.known.items ≡ length l.fn.known.items) × BlankTo l.k l.known.items
