use Rattle.std.proofs.Common.{arith}
use Rattle.lab_positions.proofs.Watches.{none_beyond}
use Rattle.lab_positions.proofs.watch.byte_at.Goals as goal

pub returns-then-at-gt4294967295 : goal.returns-then-at-gt4294967295
returns-then-at-gt4294967295 c = none_beyond c.args.banks.now.present c.args.at (omega (arith, c.if-at-gt4294967295.true))
