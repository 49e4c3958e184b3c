use Rattle.board_devices.proofs.Reading.{bytes_are_read_in_order}
use Rattle.board_devices.proofs.laws.bytes_are_read_in_order.Goals as goal

pub returns : goal.returns
returns c = bytes_are_read_in_order
