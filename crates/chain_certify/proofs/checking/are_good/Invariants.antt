use Rattle.std.proofs.Common.{◌≡◌, drop}
use Rattle.chain_certify.specs.Check.{are_good}
use Rattle.chain_certify.proofs.checking.are_good.Given as goal

-- what is left gives what all gives
abbrev pub invariant-loop-i : goal.invariant-loop-i
invariant-loop-i l = are_good l.code.present.rom l.region l.nodes (drop l.i l.nodes) ≡ are_good l.code.present.rom l.region l.nodes l.nodes
