use Rattle.std.proofs.Common.{option_map}
use Rattle.hart_words.specs.Lines.{left}
use Rattle.board_inputs.proofs.Openings.{Opens}
use Rattle.board_inputs.proofs.opening.opening.Given as goal

-- the opening of what is left is that of all
abbrev pub invariant-loop-rest : goal.invariant-loop-rest
invariant-loop-rest l = Opens l.bytes (option_map (λ s. s.now) l.rest) l.number

abbrev pub decreases-loop-rest : goal.decreases-loop-rest
decreases-loop-rest l = left (option_map (λ s. s.now) l.rest)
