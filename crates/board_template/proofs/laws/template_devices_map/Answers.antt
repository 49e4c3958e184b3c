use Rattle.board_template.proofs.Mapped.{devices_are_template}
use Rattle.board_template.proofs.laws.template_devices_map.Goals as goal

pub returns : goal.returns
returns c = devices_are_template
