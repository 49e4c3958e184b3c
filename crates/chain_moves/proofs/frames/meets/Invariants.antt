use Rattle.std.proofs.Common.{◌≡◌, drop, reverse}
use Rattle.chain_moves.specs.Bytes.{some_byte}
use Rattle.chain_moves.specs.Bytes.{in_live_frame}
use Rattle.chain_moves.proofs.frames.meets.Given as goal

abbrev pub invariant-loop-m : goal.invariant-loop-m
invariant-loop-m l = some_byte (in_live_frame (drop l.m-index l.marks)) l.at l.count ≡ some_byte (in_live_frame (reverse l.marks)) l.at l.count
