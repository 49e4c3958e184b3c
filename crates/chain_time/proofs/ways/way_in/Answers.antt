use Rattle.std.proofs.Common.{sym}
use Rattle.chain_time.proofs.Paths.{path_high}
use Rattle.chain_time.proofs.ways.way_in.Goals as goal

pub returns-then-at-ge-BANK_LEN-clause-above : goal.returns-then-at-ge-BANK_LEN-clause-above
returns-then-at-ge-BANK_LEN-clause-above c = λ code ways l. sym (path_high code c.args.at c.if-at-ge-BANK_LEN.true)
