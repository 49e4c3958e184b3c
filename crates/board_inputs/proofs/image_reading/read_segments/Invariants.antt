use Rattle.board_inputs.proofs.SegmentLoop.{ReadsOn}
use Rattle.board_inputs.proofs.image_reading.read_segments.Given as goal

-- reading on from here gives what reading all gives
abbrev pub invariant-loop : goal.invariant-loop
invariant-loop l = ReadsOn l.fn.image l.image l.count l.counter l.place l.bytes
