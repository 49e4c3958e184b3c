use Rattle.std.proofs.Common.{◌≡◌, ◌+◌, ◌-◌}
use Rattle.chain_moves.specs.Bytes.{some_byte}
use Rattle.chain_flow.specs.Rules.{in_region}
use Rattle.chain_flow.proofs.places.meets.Given as goal

abbrev pub invariant-loop-i : goal.invariant-loop-i
invariant-loop-i l = some_byte (in_region l.region) (l.at + l.i) (l.width - l.i) ≡ some_byte (in_region l.region) l.at l.width
