use Rattle.board_template.proofs.Reading.{flash_is_read_in_order}
use Rattle.board_template.proofs.laws.flash_is_read_in_order.Goals as goal

pub returns : goal.returns
returns c = flash_is_read_in_order
