-- The four devices of the board, at the places where they stand.
use Rattle.std.specs.Prelude.{ℕ, ◌-◌, ◌^◌, List, [], ◌∷◌}
use Rattle.device_model.specs.Both.{joined}
use Rattle.board_devices.specs.Uart.{uart_list}
use Rattle.board_template.specs.Alarm.{alarm_list}
use Rattle.board_template.specs.Flash.{flash_list}

-- the state of four devices with these states: each after its base
abbrev pub template_of : List ℕ → List ℕ → List ℕ → List ℕ → List ℕ
template_of uart alarm flash watchdog = joined (0x0000 ∷ uart) (joined (0x1000 ∷ alarm) (joined (0x2000 ∷ flash) (0x3000 ∷ watchdog)))

-- nothing has happened yet, and the Flash has these contents. The Alarm wakes at the greatest time, and the Watchdog has the most left
abbrev pub template_state : List ℕ → List ℕ
template_state contents = template_of (uart_list 0 0 0 [] []) (alarm_list 0 (2 ^ 32 - 1)) (flash_list 0 contents) ((2 ^ 32 - 1) ∷ [])
