use Rattle.chain_flow.proofs.Surveys.{is_so, only_so}
use Rattle.chain_flow.proofs.laws.a_verdict_is_so.Goals as goal

pub returns-clause-is : goal.returns-clause-is
returns-clause-is c = is_so

pub returns-clause-only : goal.returns-clause-only
returns-clause-only c = only_so
