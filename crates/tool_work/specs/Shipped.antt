-- The board that the program runs: the hart with the four shipped devices.
use Rattle.device_model.specs.Meanings.{Meanings}
use Rattle.device_model.specs.Both.{side_by_side}
use Rattle.device_model.specs.Window.{moved_up}
use Rattle.device_model.specs.WordRegisters.{word_device}
use Rattle.board_devices.specs.Uart.{uart}
use Rattle.board_devices.specs.Gpio.{gpio}
use Rattle.board_devices.specs.Ticker.{ticker}
use Rattle.board_devices.specs.Halter.{halter}
use Rattle.board_devices.specs.Shipped.{shipped_state}
use Rattle.clic_regs.specs.Shape.{ClicShape}
use Rattle.hart_board.specs.State.{State, reset}
use Rattle.hart_board.specs.Outside.{reset_outside}

-- what the four devices mean, each at its place. It is opaque, so that goals stay short
unfoldable pub shipped_meanings : Meanings
shipped_meanings = side_by_side (moved_up (word_device uart)) (side_by_side (moved_up (word_device gpio)) (side_by_side (moved_up (word_device ticker)) (moved_up (word_device halter))))

-- the board at reset, with a controller of a shape
unfoldable pub shipped_board : ClicShape → State
shipped_board shape = reset (reset_outside shipped_meanings shape shipped_state)
