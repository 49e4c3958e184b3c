use Rattle.std.proofs.Common.{◌≡◌, drop}
use Rattle.chain_certify.specs.Flow.{words_below}
use Rattle.chain_certify.proofs.stack_words.words_below.Given as goal

-- what is left gives what all gives
abbrev pub invariant-loop-other : goal.invariant-loop-other
invariant-loop-other l = words_below l.words l.others ≡ words_below l.words (drop l.other-index l.others)
