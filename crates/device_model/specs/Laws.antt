-- What a moved device and two devices side by side are, in terms of the devices they are made of.
use Rattle.std.specs.Prelude.{◌≡◌, ℕ, ◌+◌, ◌-◌, ◌^◌, ◌<◌, ◌≤◌, List, ◌∷◌, ◌++◌, take, None, IsSome}
use Rattle.std.specs.Option.{option_map}
use Rattle.device_model.specs.declared.stimulus.Stimulus.{Stimulus}
use Rattle.device_model.specs.Meanings.{Meanings}
use Rattle.device_model.specs.Both.{joined}

-- at this base and this state of the device: every register is moved up by the base, and there is none below the base
pub record IsMovedUp (device window : Meanings) (base : ℕ) (s : List ℕ) : Type 0 where
  pub low : window.low (base ∷ s) ≡ base + device.low s
  pub high : window.high (base ∷ s) ≡ base + device.high s
  pub loaded : (at width : ℕ) → window.loaded (base ∷ s) (base + at) width ≡ device.loaded s at width
  pub after_load : (at width : ℕ) → window.after_load (base ∷ s) (base + at) width ≡ base ∷ device.after_load s at width
  pub after_store : (at width value : ℕ)
      → window.after_store (base ∷ s) (base + at) width value ≡ option_map (λ new. base ∷ new) (device.after_store s at width value)
  pub not_loaded : (at width : ℕ) → at < base → window.loaded (base ∷ s) at width ≡ None
  pub not_stored : (at width value : ℕ) → at < base → window.after_store (base ∷ s) at width value ≡ None
  pub after_stimulus : (what : Stimulus) → window.after_stimulus (base ∷ s) what ≡ base ∷ device.after_stimulus s what
  pub lines : window.lines (base ∷ s) ≡ device.lines s
  pub halted : window.halted (base ∷ s) ≡ device.halted s
  pub output : window.output_of (base ∷ s) ≡ device.output_of s

-- at these states of the two devices: an access below the second's low is the first's and leaves the second, and any other is the
-- second's and leaves the first
pub record IsSideBySide (a b both : Meanings) (x y : List ℕ) : Type 0 where
  pub low : both.low (joined x y) ≡ a.low x
  pub high : both.high (joined x y) ≡ b.high y
  pub loaded_below : (at width : ℕ) → at < b.low y → both.loaded (joined x y) at width ≡ a.loaded x at width
  pub loaded_above : (at width : ℕ) → b.low y ≤ at → both.loaded (joined x y) at width ≡ b.loaded y at width
  pub after_load_below : (at width : ℕ) → at < b.low y → both.after_load (joined x y) at width ≡ joined (a.after_load x at width) y
  pub after_load_above : (at width : ℕ) → b.low y ≤ at → both.after_load (joined x y) at width ≡ joined x (b.after_load y at width)
  pub after_store_below : (at width value : ℕ) → at < b.low y
      → both.after_store (joined x y) at width value ≡ option_map (λ new. joined new y) (a.after_store x at width value)
  pub after_store_above : (at width value : ℕ) → b.low y ≤ at
      → both.after_store (joined x y) at width value ≡ option_map (λ new. joined x new) (b.after_store y at width value)
  pub after_stimulus : (what : Stimulus)
      → both.after_stimulus (joined x y) what ≡ joined (a.after_stimulus x what) (b.after_stimulus y what)
  pub lines : both.lines (joined x y) ≡ a.lines x ++ b.lines y
  pub first_halts : IsSome (a.halted x) → both.halted (joined x y) ≡ a.halted x
  pub second_halts : a.halted x ≡ None → both.halted (joined x y) ≡ b.halted y
  pub output : both.output_of (joined x y) ≡ take (2 ^ 32 - 1) (a.output_of x ++ b.output_of y)

-- within all, the device has as many offsets as the size, from the base on: an access there is an access to it, and whole says what
-- becomes of the state of all
pub record StandsAt (all device : Meanings) (base size : ℕ) (whole : List ℕ → List ℕ) : Type 0 where
  pub loaded : (s : List ℕ) (at width : ℕ) → at < size → all.loaded (whole s) (base + at) width ≡ device.loaded s at width
  pub after_load : (s : List ℕ) (at width : ℕ) → at < size
      → all.after_load (whole s) (base + at) width ≡ whole (device.after_load s at width)
  pub after_store : (s : List ℕ) (at width value : ℕ) → at < size
      → all.after_store (whole s) (base + at) width value ≡ option_map whole (device.after_store s at width value)
