use Rattle.std.proofs.Common.{◌≡◌, ◌+◌, ◌^◌, option_map, []}
use Rattle.hart_words.specs.Lines.{lines_left, left}
use Rattle.board_inputs.specs.ScenarioReading.{with_lines}
use Rattle.board_inputs.proofs.LineLoop.{ReadsOn}
use Rattle.board_inputs.proofs.scenario_reading.events_in.Given as goal

-- reading on from here gives what reading all gives
abbrev pub invariant-loop-rest : goal.invariant-loop-rest
invariant-loop-rest l = record {
  shape : l.events.shape ≡ l.fn.shape;
  reads : ReadsOn l.fn.shape.inputs (with_lines l.fn.shape.inputs (lines_left (option_map (λ s. s.now) l.fn.lines)) l.fn.first []) (2 ^ 32 + 1) (option_map (λ s. s.now) l.rest) l.number l.events.list;
}

abbrev pub decreases-loop-rest : goal.decreases-loop-rest
decreases-loop-rest l = left (option_map (λ s. s.now) l.rest)
