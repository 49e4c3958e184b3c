use Rattle.std.proofs.Common.{◌≡◌, drop}
use Rattle.chain_flow.specs.Flow.{stands_in}
use Rattle.chain_flow.proofs.stack_words.place_in.Given as goal

abbrev pub invariant-loop-i : goal.invariant-loop-i
invariant-loop-i l = stands_in l.word (drop l.i l.others) ≡ stands_in l.word l.others
