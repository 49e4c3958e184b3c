use Rattle.chain_direct.proofs.DirectCosts.{over_costs, run_costs, run_counts}
use Rattle.chain_direct.proofs.laws.a_run_costs_its_moves.Goals as goal

pub returns-clause-bodies : goal.returns-clause-bodies
returns-clause-bodies g c = λ es s t made h. (run_counts g.D.Device.means es made s t h).0

pub returns-clause-services : goal.returns-clause-services
returns-clause-services g c = λ es s t made h. (run_counts g.D.Device.means es made s t h).1

pub returns-clause-depth : goal.returns-clause-depth
returns-clause-depth g c = λ es s t made h. (run_counts g.D.Device.means es made s t h).2

pub returns-clause-returning : goal.returns-clause-returning
returns-clause-returning g c = run_costs g.D.Device.means

pub returns-clause-looping : goal.returns-clause-looping
returns-clause-looping g c = over_costs g.D.Device.means
