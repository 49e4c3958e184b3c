use Rattle.std.proofs.Common.{◌≡◌, ◌-◌}
use Rattle.chain_flow.specs.Walk.{walk, max_addresses}
use Rattle.chain_flow.proofs.walking.walk.Given as goal

-- walking on from here gives what walking from the start gives
abbrev pub invariant-loop : goal.invariant-loop
invariant-loop l = walk l.code.present.rom l.region (max_addresses - l.counter) l.pending.items l.uses ≡ walk l.fn.code.present.rom l.fn.region max_addresses l.fn.pending.items 0
