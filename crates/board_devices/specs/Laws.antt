-- Laws of the devices, in the words of those who use them.
use Rattle.std.specs.Prelude.{◌≡◌, ℕ, ◌+◌, ◌≤◌, List, [], ◌∷◌, ◌++◌, length, zero, suc, unwrap_or}
use Rattle.device_model.specs.declared.stimulus.Stimulus.TheVariants.{Receive, Tick}
use Rattle.device_model.specs.Meanings.{Meanings}
use Rattle.device_model.specs.WordRegisters.{word_device}
use Rattle.device_model.specs.Laws.{StandsAt}
use Rattle.board_devices.specs.Uart.{IsUart, uart, waiting_of, sent_of}
use Rattle.board_devices.specs.Gpio.{gpio}
use Rattle.board_devices.specs.Ticker.{IsTicker, ticker, ticker_after}
use Rattle.board_devices.specs.Halter.{halter}
use Rattle.board_devices.specs.Shipped.{shipped_of}

-- n counts of time and then m more are n + m counts
abbrev pub TicksAddUp : Type 0
TicksAddUp = (s : List ℕ) (n m : ℕ) → IsTicker s → ticker_after (ticker_after s (Tick n)) (Tick m) ≡ ticker_after s (Tick (n + m))

-- the state after these bytes came, one after another
abbrev pub after_bytes : Meanings → List ℕ → List ℕ → List ℕ
after_bytes device [] s = s
after_bytes device (byte ∷ bytes) s = after_bytes device bytes (device.after_stimulus s (Receive byte))

-- what n loads of the register at offset 0 answer, one after another
abbrev pub bytes_read : Meanings → ℕ → List ℕ → List ℕ
bytes_read device zero s = []
bytes_read device (suc n) s = unwrap_or (device.loaded s 0 4) 0 ∷ bytes_read device n (device.after_load s 0 4)

-- bytes that there is room for are read in the order in which they came
abbrev pub BytesAreReadInOrder : Type 0
BytesAreReadInOrder = (s bytes : List ℕ) → IsUart s → length (waiting_of s) + length bytes ≤ 1024
    → bytes_read (word_device uart) (length (waiting_of s) + length bytes) (after_bytes (word_device uart) bytes s) ≡ waiting_of s ++ bytes

-- each device has 4,096 offsets, and the lines, the output and the halt are these
pub record AreShipped (all : Meanings) : Type 0 where
  pub uart_at : (g t h : List ℕ) → StandsAt all (word_device uart) 0x0000 0x1000 (λ u. shipped_of u g t h)
  pub gpio_at : (u t h : List ℕ) → StandsAt all (word_device gpio) 0x1000 0x1000 (λ g. shipped_of u g t h)
  pub ticker_at : (u g h : List ℕ) → StandsAt all (word_device ticker) 0x2000 0x1000 (λ t. shipped_of u g t h)
  pub halter_at : (u g t : List ℕ) → StandsAt all (word_device halter) 0x3000 0x1000 (λ h. shipped_of u g t h)
  pub lines : (u g t h : List ℕ) → all.lines (shipped_of u g t h) ≡ uart.lines u ++ gpio.lines g ++ ticker.lines t
  pub halted : (u g t h : List ℕ) → all.halted (shipped_of u g t h) ≡ halter.halted h
  pub output : (u g t h : List ℕ) → IsUart u → all.output_of (shipped_of u g t h) ≡ sent_of u
