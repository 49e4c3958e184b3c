use Rattle.std.proofs.Common.{◌≡◌, drop}
use Rattle.chain_certify.specs.Flow.{found}
use Rattle.chain_certify.proofs.stack_words.find.Given as goal

-- what is left gives what all gives
abbrev pub invariant-loop-word : goal.invariant-loop-word
invariant-loop-word l = found l.offset l.words ≡ found l.offset (drop l.word-index l.words)
