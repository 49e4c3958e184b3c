use Rattle.std.proofs.Common.{refl}
use Rattle.tool_frame.proofs.Commands.{plain_by}
use Rattle.template_tool.specs.Words.{template_app}
use Rattle.template_tool.proofs.order_reading.read_order.Goals as goal

pub matches_taken-requires : goal.matches_taken-requires
matches_taken-requires c = plain_by _ template_app c.in_ok-command.ensures refl refl refl refl refl
