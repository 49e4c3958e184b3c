use Rattle.std.proofs.Common.{◌≡◌, [], option_map}
use Rattle.hart_words.specs.Lines.{lines_of, lines_left, left}
use Rattle.lab_sweep.specs.Outcome.{outcome_from}
use Rattle.lab_sweep.proofs.outcome.outcome_of.Given as goal

-- going on from here gives what all gives
abbrev pub invariant-loop-rest : goal.invariant-loop-rest
invariant-loop-rest l = outcome_from l.words.items (lines_left (option_map (λ s. s.now) l.rest)) ≡ outcome_from [] (lines_of l.fn.text)

abbrev pub decreases-loop-rest : goal.decreases-loop-rest
decreases-loop-rest l = left (option_map (λ s. s.now) l.rest)
