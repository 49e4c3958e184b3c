use Rattle.chain_direct.proofs.DirectStep.{direct_step}
use Rattle.chain_direct.proofs.DirectBegins.{begins_so, begin_breaks}
use Rattle.chain_direct.proofs.laws.a_direct_service_begins_in_one_step.Goals as goal

pub returns-clause-step : goal.returns-clause-step
returns-clause-step g c = λ d s x t r goes is_top is_due hard untested. direct_step g.D.Device.means d s x t r goes is_top is_due hard untested

pub returns-clause-beside : goal.returns-clause-beside
returns-clause-beside g c = λ es d s x t none goes is_top is_due hard r untested. begins_so g.D.Device.means es s t none goes is_top is_due hard d x r untested

pub returns-clause-breaks : goal.returns-clause-breaks
returns-clause-breaks g c = λ es s t kind none goes is_top is_due hard e. begin_breaks g.D.Device.means es s t none goes is_top is_due hard kind e
