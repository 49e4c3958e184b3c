use Rattle.std.proofs.Common.{rules}
use Rattle.std.specs.List.{All}
use Rattle.chain_lint.specs.Tables.{WasAccepted}
use Rattle.chain_lint.proofs.accepted.judge.Goals as goal

pub returns-in-Some-clause-small : goal.returns-in-Some-clause-small
returns-in-Some-clause-small c =
    let all : All (WasAccepted c.args.code.now.present.rom c.args.region.now) c.deref.result.now = search rules in
    (c.in-Some.ensures c.args.code.now.present.rom c.args.region.now all).1
