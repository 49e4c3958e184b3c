-- Where the shipped devices stand.
use Rattle.std.proofs.Common.{◌≡◌, ℕ, ◌-◌, ◌^◌, List, ◌∷◌, ◌++◌, take, arith, refl, ap, ◌∙◌}
use Rattle.std.proofs.lemmas.List.{append-nil, take_all}
use Rattle.device_model.specs.Meanings.{Meanings}
use Rattle.device_model.specs.WordRegisters.{word_device}
use Rattle.device_model.specs.Window.{moved_up}
use Rattle.device_model.specs.Both.{joined, side_by_side}
use Rattle.device_model.specs.Laws.{StandsAt}
use Rattle.device_model.proofs.BothLaw.{side_by_side_law}
use Rattle.device_model.proofs.Placed.{stands_moved_up, stands_first, stands_second}
use Rattle.board_devices.specs.Uart.{IsUart, uart, sent_of}
use Rattle.board_devices.specs.Gpio.{gpio}
use Rattle.board_devices.specs.Ticker.{ticker}
use Rattle.board_devices.specs.Halter.{halter}
use Rattle.board_devices.specs.Shipped.{shipped_of}
use Rattle.board_devices.specs.Laws.{AreShipped}

abbrev the_uart : Meanings
the_uart = moved_up (word_device uart)

abbrev the_gpio : Meanings
the_gpio = moved_up (word_device gpio)

abbrev the_ticker : Meanings
the_ticker = moved_up (word_device ticker)

abbrev the_halter : Meanings
the_halter = moved_up (word_device halter)

abbrev two : Meanings
two = side_by_side the_ticker the_halter

abbrev three : Meanings
three = side_by_side the_gpio two

abbrev all : Meanings
all = side_by_side the_uart three

low_of_two : (t h : List ℕ) → two.low (joined (0x2000 ∷ t) (0x3000 ∷ h)) ≡ 0x2000
low_of_two t h = (side_by_side_law the_ticker the_halter (0x2000 ∷ t) (0x3000 ∷ h)).low

low_of_three : (g t h : List ℕ) → three.low (joined (0x1000 ∷ g) (joined (0x2000 ∷ t) (0x3000 ∷ h))) ≡ 0x1000
low_of_three g t h = (side_by_side_law the_gpio two (0x1000 ∷ g) (joined (0x2000 ∷ t) (0x3000 ∷ h))).low

uart_stands : (g t h : List ℕ) → StandsAt all (word_device uart) 0x0000 0x1000 (λ u. shipped_of u g t h)
uart_stands g t h = stands_first the_uart three (word_device uart) 0x0000 0x1000 (λ u. 0x0000 ∷ u) (joined (0x1000 ∷ g) (joined (0x2000 ∷ t) (0x3000 ∷ h))) (stands_moved_up (word_device uart) 0x0000 0x1000) (omega (arith, low_of_three g t h))

gpio_stands : (u t h : List ℕ) → StandsAt all (word_device gpio) 0x1000 0x1000 (λ g. shipped_of u g t h)
gpio_stands u t h = stands_second the_uart three (word_device gpio) 0x1000 0x1000 (λ g. joined (0x1000 ∷ g) (joined (0x2000 ∷ t) (0x3000 ∷ h))) (0x0000 ∷ u)
    (stands_first the_gpio two (word_device gpio) 0x1000 0x1000 (λ g. 0x1000 ∷ g) (joined (0x2000 ∷ t) (0x3000 ∷ h)) (stands_moved_up (word_device gpio) 0x1000 0x1000) (omega (arith, low_of_two t h)))
    (λ g. omega (arith, low_of_three g t h))

ticker_stands : (u g h : List ℕ) → StandsAt all (word_device ticker) 0x2000 0x1000 (λ t. shipped_of u g t h)
ticker_stands u g h = stands_second the_uart three (word_device ticker) 0x2000 0x1000 (λ t. joined (0x1000 ∷ g) (joined (0x2000 ∷ t) (0x3000 ∷ h))) (0x0000 ∷ u)
    (stands_second the_gpio two (word_device ticker) 0x2000 0x1000 (λ t. joined (0x2000 ∷ t) (0x3000 ∷ h)) (0x1000 ∷ g)
    (stands_first the_ticker the_halter (word_device ticker) 0x2000 0x1000 (λ t. 0x2000 ∷ t) (0x3000 ∷ h) (stands_moved_up (word_device ticker) 0x2000 0x1000) (omega arith))
    (λ t. omega (arith, low_of_two t h)))
    (λ t. omega (arith, low_of_three g t h))

halter_stands : (u g t : List ℕ) → StandsAt all (word_device halter) 0x3000 0x1000 (λ h. shipped_of u g t h)
halter_stands u g t = stands_second the_uart three (word_device halter) 0x3000 0x1000 (λ h. joined (0x1000 ∷ g) (joined (0x2000 ∷ t) (0x3000 ∷ h))) (0x0000 ∷ u)
    (stands_second the_gpio two (word_device halter) 0x3000 0x1000 (λ h. joined (0x2000 ∷ t) (0x3000 ∷ h)) (0x1000 ∷ g)
    (stands_second the_ticker the_halter (word_device halter) 0x3000 0x1000 (λ h. 0x3000 ∷ h) (0x2000 ∷ t) (stands_moved_up (word_device halter) 0x3000 0x1000) (λ h. omega arith))
    (λ h. omega (arith, low_of_two t h)))
    (λ h. omega (arith, low_of_three g t h))

-- what is shown
lines_shown : (u g t h : List ℕ) → all.lines (shipped_of u g t h) ≡ uart.lines u ++ gpio.lines g ++ ticker.lines t
lines_shown u g t h =
    (side_by_side_law the_uart three (0x0000 ∷ u) (joined (0x1000 ∷ g) (joined (0x2000 ∷ t) (0x3000 ∷ h)))).lines
    ∙ ap (λ x. uart.lines u ++ x) ((side_by_side_law the_gpio two (0x1000 ∷ g) (joined (0x2000 ∷ t) (0x3000 ∷ h))).lines)
    ∙ ap (λ x. uart.lines u ++ (gpio.lines g ++ x)) ((side_by_side_law the_ticker the_halter (0x2000 ∷ t) (0x3000 ∷ h)).lines)

halted_shown : (u g t h : List ℕ) → all.halted (shipped_of u g t h) ≡ halter.halted h
halted_shown u g t h =
    (side_by_side_law the_uart three (0x0000 ∷ u) (joined (0x1000 ∷ g) (joined (0x2000 ∷ t) (0x3000 ∷ h)))).second_halts refl
    ∙ (side_by_side_law the_gpio two (0x1000 ∷ g) (joined (0x2000 ∷ t) (0x3000 ∷ h))).second_halts refl
    ∙ (side_by_side_law the_ticker the_halter (0x2000 ∷ t) (0x3000 ∷ h)).second_halts refl

output_shown : (u g t h : List ℕ) → IsUart u → all.output_of (shipped_of u g t h) ≡ sent_of u
output_shown u g t h st =
    (side_by_side_law the_uart three (0x0000 ∷ u) (joined (0x1000 ∷ g) (joined (0x2000 ∷ t) (0x3000 ∷ h)))).output
    ∙ ap (λ x. take (2 ^ 32 - 1) (sent_of u ++ x)) ((side_by_side_law the_gpio two (0x1000 ∷ g) (joined (0x2000 ∷ t) (0x3000 ∷ h))).output)
    ∙ ap (λ x. take (2 ^ 32 - 1) (sent_of u ++ take (2 ^ 32 - 1) x)) ((side_by_side_law the_ticker the_halter (0x2000 ∷ t) (0x3000 ∷ h)).output)
    ∙ ap (take (2 ^ 32 - 1)) (append-nil (sent_of u))
    ∙ take_all (2 ^ 32 - 1) (sent_of u) (omega (arith, st.few_sent))

pub devices_are_shipped : AreShipped all
devices_are_shipped = record {
  uart_at = uart_stands;
  gpio_at = gpio_stands;
  ticker_at = ticker_stands;
  halter_at = halter_stands;
  lines = lines_shown;
  halted = halted_shown;
  output = output_shown;
}
