-- The Halter meets the laws.
use Rattle.std.proofs.Common.{ℕ, ◌^◌, ◌<◌, List, [], ◌∷◌, Option, None, Some, arith, refl}
use Rattle.std.specs.Option.{option_to_list, ForSome}
use Rattle.device_model.specs.Meanings.{Keeps, IsSound}
use Rattle.device_model.specs.WordRegisters.{word_device}
use Rattle.device_model.specs.Sound.Window.{keeps_same}
use Rattle.device_model.specs.Sound.WordRegisters.{row, word_device_is_sound}
use Rattle.board_devices.specs.Halter.{IsHalter, halter}

halted_keeps : (s : List ℕ) (code : ℕ) → code < 2 ^ 32 → Keeps (word_device halter) s (code ∷ [])
halted_keeps s code f = record { is_state = record { listed = omega arith; code = f }; low = refl; high = refl; line_count = refl }

pub halter_is_sound : IsSound (word_device halter)
halter_is_sound = word_device_is_sound halter record {
  loads_fit = λ s st. tt;
  changes_loaded = λ s at st e. refl;
  loads_keep = λ s st. tt;
  stores_keep = λ s value st f. row (omega arith) (halted_keeps s value f) tt;
  stimulus_keeps = λ s what st w. keeps_same (word_device halter) s st;
}

pub halter_is_state : (code : Option ℕ) → ForSome code (λ c. c < 2 ^ 32) → IsHalter (option_to_list code)
halter_is_state None h = record { listed = omega arith; code = omega arith }
halter_is_state (Some c) h = record { listed = omega arith; code = h c refl }
