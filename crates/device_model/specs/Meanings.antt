-- What a device means: functions of its state, which is seen as a list of numbers.
use Rattle.std.specs.Prelude.{◌≡◌, ℕ, ◌*◌, ◌^◌, ◌<◌, ◌≤◌, List, length, Option, None, Some, Bool}
use Rattle.device_model.specs.declared.stimulus.Stimulus.{Stimulus}
use Rattle.device_model.specs.Stimulus.{IsStimulus}

-- offsets are from the start of the device's region, and widths are in bytes
pub record Meanings : Type 1 where
  -- the states that the device can be in
  pub IsState : List ℕ → Type 0
  -- the first offset that may have a register, and the end of those that may
  pub low : List ℕ → ℕ
  pub high : List ℕ → ℕ
  -- what a load at the offset, of the width, answers; None where no register is loaded there
  pub loaded : List ℕ → ℕ → ℕ → Option ℕ
  -- the state after that load
  pub after_load : List ℕ → ℕ → ℕ → List ℕ
  -- the state after a store at the offset, of the width, of the value; None where no register is stored there
  pub after_store : List ℕ → ℕ → ℕ → ℕ → Option (List ℕ)
  -- the state after what comes from outside
  pub after_stimulus : List ℕ → Stimulus → List ℕ
  -- the lines to the interrupt controller, each high or low
  pub lines : List ℕ → List Bool
  -- the code, where the device has halted the board
  pub halted : List ℕ → Option ℕ
  -- the bytes that the device has put out
  pub output_of : List ℕ → List ℕ

-- a change of state that keeps what no call changes
pub record Keeps (m : Meanings) (old new : List ℕ) : Type 0 where
  pub is_state : m.IsState new
  pub low : m.low new ≡ m.low old
  pub high : m.high new ≡ m.high old
  pub line_count : length (m.lines new) ≡ length (m.lines old)

-- the offset is one that may have a register
pub record IsInside (m : Meanings) (s : List ℕ) (at : ℕ) : Type 0 where
  pub not_below : m.low s ≤ at
  pub below : at < m.high s

-- what holds of the meanings of every device
pub record IsSound (m : Meanings) : Type 0 where
  pub in_order : (s : List ℕ) → m.IsState s → m.low s ≤ m.high s
  -- a load answers a number of its width, and only inside
  pub loaded_fits : (s : List ℕ) (at width value : ℕ)
      → m.IsState s → m.loaded s at width ≡ Some value → value < 2 ^ (8 * width)
  pub loaded_inside : (s : List ℕ) (at width value : ℕ)
      → m.IsState s → m.loaded s at width ≡ Some value → IsInside m s at
  -- a load that finds no register changes nothing
  pub not_loaded : (s : List ℕ) (at width : ℕ)
      → m.IsState s → m.loaded s at width ≡ None → m.after_load s at width ≡ s
  pub load_keeps : (s : List ℕ) (at width : ℕ) → m.IsState s → Keeps m s (m.after_load s at width)
  -- a store finds registers only inside
  pub stored_inside : (s : List ℕ) (at width value : ℕ) (new : List ℕ)
      → m.IsState s → value < 2 ^ (8 * width) → m.after_store s at width value ≡ Some new → IsInside m s at
  pub store_keeps : (s : List ℕ) (at width value : ℕ) (new : List ℕ)
      → m.IsState s → value < 2 ^ (8 * width) → m.after_store s at width value ≡ Some new → Keeps m s new
  pub stimulus_keeps : (s : List ℕ) (what : Stimulus)
      → m.IsState s → IsStimulus what → Keeps m s (m.after_stimulus s what)
