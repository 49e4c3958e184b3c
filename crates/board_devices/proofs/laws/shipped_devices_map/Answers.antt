use Rattle.board_devices.proofs.Mapped.{devices_are_shipped}
use Rattle.board_devices.proofs.laws.shipped_devices_map.Goals as goal

pub returns : goal.returns
returns c = devices_are_shipped
