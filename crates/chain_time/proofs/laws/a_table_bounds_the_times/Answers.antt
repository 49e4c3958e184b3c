use Rattle.chain_time.proofs.Responses as lemmas
use Rattle.chain_time.proofs.laws.a_table_bounds_the_times.Goals as goal

pub returns-clause-response : goal.returns-clause-response
returns-clause-response g c = lemmas.response_is_bounded g.D.Device.means g.met.D.Device.sound

pub returns-clause-latency : goal.returns-clause-latency
returns-clause-latency g c = lemmas.latency_is_bounded g.D.Device.means g.met.D.Device.sound

pub returns-clause-burst : goal.returns-clause-burst
returns-clause-burst g c = lemmas.burst_is_bounded g.D.Device.means g.met.D.Device.sound
