use Rattle.std.proofs.Common.{◌≡◌, ◌≤◌, length}
use Rattle.chain_flow.specs.Flow.{joined_words}
use Rattle.chain_flow.proofs.Standing.{joined_so}
use Rattle.chain_flow.proofs.stack_words.join.Given as goal

-- what is kept with what is left to join gives what joining all gives
abbrev pub invariant-loop-i : goal.invariant-loop-i
invariant-loop-i l = (l.kept ≤ l.i) × (length l.words.items ≡ length l.fn.words.items) × (joined_so l.words.items l.others l.kept l.i ≡ joined_words l.fn.words.items l.others)
