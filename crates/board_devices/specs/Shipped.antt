-- The four devices of the shipped board, at the places where they stand.
use Rattle.std.specs.Prelude.{ℕ, List, [], ◌∷◌}
use Rattle.device_model.specs.Both.{joined}
use Rattle.board_devices.specs.Uart.{uart_list}
use Rattle.board_devices.specs.Gpio.{gpio_list}
use Rattle.board_devices.specs.Ticker.{ticker_list}

-- the state of four devices with these states: each after its base
abbrev pub shipped_of : List ℕ → List ℕ → List ℕ → List ℕ → List ℕ
shipped_of uart gpio ticker halter = joined (0x0000 ∷ uart) (joined (0x1000 ∷ gpio) (joined (0x2000 ∷ ticker) (0x3000 ∷ halter)))

-- nothing has happened yet
abbrev pub shipped_state : List ℕ
shipped_state = shipped_of (uart_list 0 0 0 [] []) (gpio_list 0 0 0) (ticker_list 0 0 0 0) []
