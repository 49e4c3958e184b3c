-- The Gpio, 32 pins that are read and 32 that are driven.
use Rattle.std.specs.Prelude.{◌≡◌, ℕ, ◌^◌, ◌<◌, ◌==◌, List, [], ◌∷◌, None, not, bit_and, slice_index}
use Rattle.device_model.specs.declared.stimulus.Stimulus.{Stimulus}
use Rattle.device_model.specs.declared.stimulus.Stimulus.TheVariants.{Receive, Pins, Tick}
use Rattle.device_model.specs.WordRegisters.{WordRegisters}

-- the state
abbrev pub gpio_list : ℕ → ℕ → ℕ → List ℕ
gpio_list pins out mask = pins ∷ out ∷ mask ∷ []

-- the parts of a state
abbrev pub pins_of : List ℕ → ℕ
pins_of s = slice_index s 0

abbrev pub out_of : List ℕ → ℕ
out_of s = slice_index s 1

abbrev pub mask_of : List ℕ → ℕ
mask_of s = slice_index s 2

-- the states that it can be in
pub record IsGpio (s : List ℕ) : Type 0 where
  pub listed : s ≡ gpio_list (pins_of s) (out_of s) (mask_of s)
  pub pins : pins_of s < 2 ^ 32
  pub out : out_of s < 2 ^ 32
  pub mask : mask_of s < 2 ^ 32

abbrev pub gpio_after : List ℕ → Stimulus → List ℕ
gpio_after s (Receive byte) = s
gpio_after s (Pins pins) = gpio_list pins (out_of s) (mask_of s)
gpio_after s (Tick n) = s

-- | offset | load | store        |
-- | 0      | pins |              |
-- | 4      | out  | out = value  |
-- | 8      | mask | mask = value |
abbrev pub gpio : WordRegisters
gpio = record {
  IsState = IsGpio;
  end = 0xC;
  loads = λ s. (0x0, pins_of s) ∷ (0x4, out_of s) ∷ (0x8, mask_of s) ∷ [];
  load_changes = λ s. [];
  stores = λ s value. (0x4, gpio_list (pins_of s) value (mask_of s)) ∷ (0x8, gpio_list (pins_of s) (out_of s) value) ∷ [];
  after_stimulus = gpio_after;
  lines = λ s. not (bit_and (pins_of s) (mask_of s) == 0) ∷ [];
  halted = λ s. None;
  output_of = λ s. [];
}
