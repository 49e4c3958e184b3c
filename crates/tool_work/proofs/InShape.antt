-- The shipped board is in the shape in which it was made.
use Rattle.std.proofs.Common.{◌≡◌, refl}
use Rattle.clic_regs.specs.Shape.{ClicShape}
use Rattle.clic_regs.specs.ClicState.{reset_clic}
use Rattle.hart_board.specs.Outside.{with_device}
use Rattle.hart_board.specs.declared.outside.TheConstants.{FIRST_DEVICE_INPUT}
use Rattle.hart_board.proofs.Outsides.{lines_shape}
use Rattle.board_devices.specs.Shipped.{shipped_state}
use Rattle.tool_work.specs.Shipped.{shipped_meanings, shipped_board}

pub shipped_shape : (shape : ClicShape) → (shipped_board shape).outside.clic.shape ≡ shape
unfolding shipped_board with_device reset_clic
shipped_shape shape = lines_shape (shipped_meanings.lines shipped_state) FIRST_DEVICE_INPUT (reset_clic shape)

pub shipped_level : (shape : ClicShape) → (shipped_board shape).csrs.mil ≡ 0
unfolding shipped_board
shipped_level shape = refl
