use Rattle.std.proofs.Common.{rules}
use Rattle.chain_flow.specs.Walk.{verdict}
use Rattle.chain_flow.proofs.Depths.{ok_small}
use Rattle.chain_flow.proofs.walking.lint_code.Goals as goal

pub returns-clause-exact : goal.returns-clause-exact
unfolding verdict
returns-clause-exact c = search rules

pub returns-clause-small : goal.returns-clause-small
unfolding verdict
returns-clause-small c = ok_small c.args.code.now.present.rom c.args.region.now c.args.handler c.walk.result (search rules)
