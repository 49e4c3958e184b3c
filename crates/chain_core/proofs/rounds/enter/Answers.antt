use Rattle.std.proofs.Common.{refl}
use Rattle.chain_core.proofs.Told.{nothing_told}
use Rattle.chain_core.proofs.rounds.enter.Goals as goal

pub returns-in-Refused-clause-made : goal.returns-in-Refused-clause-made
returns-in-Refused-clause-made g c = rw c.in-Refused.is (record { round = refl; tells = nothing_told g.D.Device.means c.args.events.now.list c.args.trace _ _ })
