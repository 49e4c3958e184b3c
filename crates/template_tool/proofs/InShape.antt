-- A board at reset is in the shape in which it was made.
use Rattle.std.proofs.Common.{◌≡◌, ℕ, List}
use Rattle.clic_regs.specs.Shape.{ClicShape}
use Rattle.clic_regs.specs.ClicState.{reset_clic}
use Rattle.device_model.specs.Meanings.{Meanings}
use Rattle.hart_board.specs.State.{reset}
use Rattle.hart_board.specs.Outside.{reset_outside, with_device}
use Rattle.hart_board.specs.declared.outside.TheConstants.{FIRST_DEVICE_INPUT}
use Rattle.hart_board.proofs.Outsides.{lines_shape}

pub reset_shape : (m : Meanings) (shape : ClicShape) (devices : List ℕ) → (reset (reset_outside m shape devices)).outside.clic.shape ≡ shape
unfolding with_device reset_clic
reset_shape m shape devices = lines_shape (m.lines devices) FIRST_DEVICE_INPUT (reset_clic shape)
