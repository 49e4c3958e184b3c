use Rattle.clic_select.proofs.Tops.{claimed_order, claimed_level}
use Rattle.clic_select.proofs.laws.nothing_waits_above_a_claimed_top.Goals as goal

pub returns : goal.returns
returns c = record { order = claimed_order; level = claimed_level }
