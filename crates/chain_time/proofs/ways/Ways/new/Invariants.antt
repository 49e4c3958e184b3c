use Rattle.std.proofs.Common.{◌≡◌, length}
use Rattle.chain_time.specs.Ways.{AreWays}
use Rattle.chain_time.proofs.ways.Ways.new.Given as goal

-- so many rows are there
abbrev pub invariant-loop : goal.invariant-loop
invariant-loop l = (length l.rows.items ≡ l.counter) × AreWays l.code.present.rom l.rows.items
