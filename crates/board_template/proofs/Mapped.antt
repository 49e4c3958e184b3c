-- Where the devices stand.
use Rattle.std.proofs.Common.{◌≡◌, ℕ, ◌-◌, ◌^◌, List, ◌∷◌, ◌++◌, take, arith, refl, ap, ◌∙◌}
use Rattle.std.proofs.lemmas.List.{append-nil, take_all}
use Rattle.device_model.specs.Meanings.{Meanings}
use Rattle.device_model.specs.WordRegisters.{word_device}
use Rattle.device_model.specs.Window.{moved_up}
use Rattle.device_model.specs.Both.{joined, side_by_side}
use Rattle.device_model.specs.Laws.{StandsAt}
use Rattle.device_model.proofs.BothLaw.{side_by_side_law}
use Rattle.device_model.proofs.Placed.{stands_moved_up, stands_first, stands_second}
use Rattle.board_devices.specs.Uart.{IsUart, uart, sent_of}
use Rattle.board_template.specs.Alarm.{alarm}
use Rattle.board_template.specs.Flash.{flash}
use Rattle.board_template.specs.Watchdog.{watchdog}
use Rattle.board_template.specs.Template.{template_of}
use Rattle.board_template.specs.Laws.{AreTemplate}

abbrev the_uart : Meanings
the_uart = moved_up (word_device uart)

abbrev the_alarm : Meanings
the_alarm = moved_up (word_device alarm)

abbrev the_flash : Meanings
the_flash = moved_up (word_device flash)

abbrev the_watchdog : Meanings
the_watchdog = moved_up (word_device watchdog)

-- the last two devices, the last three, and all
abbrev two : Meanings
two = side_by_side the_flash the_watchdog

abbrev three : Meanings
three = side_by_side the_alarm two

abbrev all : Meanings
all = side_by_side the_uart three

abbrev two_of : List ℕ → List ℕ → List ℕ
two_of f w = joined (0x2000 ∷ f) (0x3000 ∷ w)

abbrev three_of : List ℕ → List ℕ → List ℕ → List ℕ
three_of a f w = joined (0x1000 ∷ a) (two_of f w)

low_of_two : (f w : List ℕ) → two.low (two_of f w) ≡ 0x2000
low_of_two f w = (side_by_side_law the_flash the_watchdog (0x2000 ∷ f) (0x3000 ∷ w)).low

low_of_three : (a f w : List ℕ) → three.low (three_of a f w) ≡ 0x1000
low_of_three a f w = (side_by_side_law the_alarm two (0x1000 ∷ a) (two_of f w)).low

uart_stands : (a f w : List ℕ) → StandsAt all (word_device uart) 0x0000 0x1000 (λ u. template_of u a f w)
uart_stands a f w = stands_first the_uart three (word_device uart) 0x0000 0x1000 (λ u. 0x0000 ∷ u) (three_of a f w) (stands_moved_up (word_device uart) 0x0000 0x1000) (omega (arith, low_of_three a f w))

alarm_stands : (u f w : List ℕ) → StandsAt all (word_device alarm) 0x1000 0x1000 (λ a. template_of u a f w)
alarm_stands u f w = stands_second the_uart three (word_device alarm) 0x1000 0x1000 (λ a. three_of a f w) (0x0000 ∷ u)
    (stands_first the_alarm two (word_device alarm) 0x1000 0x1000 (λ a. 0x1000 ∷ a) (two_of f w) (stands_moved_up (word_device alarm) 0x1000 0x1000) (omega (arith, low_of_two f w)))
    (λ a. omega (arith, low_of_three a f w))

flash_stands : (u a w : List ℕ) → StandsAt all (word_device flash) 0x2000 0x1000 (λ f. template_of u a f w)
flash_stands u a w = stands_second the_uart three (word_device flash) 0x2000 0x1000 (λ f. three_of a f w) (0x0000 ∷ u)
    (stands_second the_alarm two (word_device flash) 0x2000 0x1000 (λ f. two_of f w) (0x1000 ∷ a)
    (stands_first the_flash the_watchdog (word_device flash) 0x2000 0x1000 (λ f. 0x2000 ∷ f) (0x3000 ∷ w) (stands_moved_up (word_device flash) 0x2000 0x1000) (omega arith))
    (λ f. omega (arith, low_of_two f w)))
    (λ f. omega (arith, low_of_three a f w))

watchdog_stands : (u a f : List ℕ) → StandsAt all (word_device watchdog) 0x3000 0x1000 (λ w. template_of u a f w)
watchdog_stands u a f = stands_second the_uart three (word_device watchdog) 0x3000 0x1000 (λ w. three_of a f w) (0x0000 ∷ u)
    (stands_second the_alarm two (word_device watchdog) 0x3000 0x1000 (λ w. two_of f w) (0x1000 ∷ a)
    (stands_second the_flash the_watchdog (word_device watchdog) 0x3000 0x1000 (λ w. 0x3000 ∷ w) (0x2000 ∷ f) (stands_moved_up (word_device watchdog) 0x3000 0x1000) (λ w. omega arith))
    (λ w. omega (arith, low_of_two f w)))
    (λ w. omega (arith, low_of_three a f w))

-- what is shown
lines_shown : (u a f w : List ℕ) → all.lines (template_of u a f w) ≡ uart.lines u ++ alarm.lines a
lines_shown u a f w =
    (side_by_side_law the_uart three (0x0000 ∷ u) (three_of a f w)).lines
    ∙ ap (λ x. uart.lines u ++ x) ((side_by_side_law the_alarm two (0x1000 ∷ a) (two_of f w)).lines)
    ∙ ap (λ x. uart.lines u ++ (alarm.lines a ++ x)) ((side_by_side_law the_flash the_watchdog (0x2000 ∷ f) (0x3000 ∷ w)).lines)

halted_shown : (u a f w : List ℕ) → all.halted (template_of u a f w) ≡ watchdog.halted w
halted_shown u a f w =
    (side_by_side_law the_uart three (0x0000 ∷ u) (three_of a f w)).second_halts refl
    ∙ (side_by_side_law the_alarm two (0x1000 ∷ a) (two_of f w)).second_halts refl
    ∙ (side_by_side_law the_flash the_watchdog (0x2000 ∷ f) (0x3000 ∷ w)).second_halts refl

output_shown : (u a f w : List ℕ) → IsUart u → all.output_of (template_of u a f w) ≡ sent_of u
output_shown u a f w st =
    (side_by_side_law the_uart three (0x0000 ∷ u) (three_of a f w)).output
    ∙ ap (λ x. take (2 ^ 32 - 1) (sent_of u ++ x)) ((side_by_side_law the_alarm two (0x1000 ∷ a) (two_of f w)).output)
    ∙ ap (λ x. take (2 ^ 32 - 1) (sent_of u ++ take (2 ^ 32 - 1) x)) ((side_by_side_law the_flash the_watchdog (0x2000 ∷ f) (0x3000 ∷ w)).output)
    ∙ ap (take (2 ^ 32 - 1)) (append-nil (sent_of u))
    ∙ take_all (2 ^ 32 - 1) (sent_of u) (omega (arith, st.few_sent))

pub devices_are_template : AreTemplate all
devices_are_template = record {
  uart_at = uart_stands;
  alarm_at = alarm_stands;
  flash_at = flash_stands;
  watchdog_at = watchdog_stands;
  lines = lines_shown;
  halted = halted_shown;
  output = output_shown;
}
