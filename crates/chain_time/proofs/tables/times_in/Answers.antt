use Rattle.std.proofs.Common.{sym, subst}
use Rattle.chain_time.specs.Counts.{IsTimed}
use Rattle.chain_time.proofs.Accepts.{timed_small}
use Rattle.chain_time.proofs.tables.times_in.Goals as goal

pub push-requires-clause-way : goal.push-requires-clause-way
push-requires-clause-way c = subst IsTimed (sym c.timed.ensures) (timed_small c.args.code.now.present.rom c.args.table _)
