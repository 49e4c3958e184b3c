use Rattle.board_devices.proofs.Ticking.{ticks_add_up}
use Rattle.board_devices.proofs.laws.ticks_add_up.Goals as goal

pub returns : goal.returns
returns c = ticks_add_up
