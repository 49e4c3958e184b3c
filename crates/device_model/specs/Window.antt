-- A device that is moved to another place. Its state is the base, and then the device's own state.
use Rattle.std.specs.Prelude.{◌≡◌, ℕ, ◌+◌, ◌-◌, ◌%◌, ◌≤◌, List, [], ◌∷◌, None, if◌then◌else◌, nat_lt}
use Rattle.std.specs.Option.{option_map}
use Rattle.device_model.specs.declared.device.TheConstants.{REGION_LEN}
use Rattle.device_model.specs.Meanings.{Meanings}

-- the base, and the device's own state
abbrev pub base_of : List ℕ → ℕ
base_of [] = 0
base_of (base ∷ own) = base

abbrev pub own_of : List ℕ → List ℕ
own_of [] = []
own_of (base ∷ own) = own

-- a base that is a multiple of 4, and a device that ends with the region at the latest
pub record IsWindow (m : Meanings) (s : List ℕ) : Type 0 where
  pub listed : s ≡ base_of s ∷ own_of s
  pub own : m.IsState (own_of s)
  pub multiple : base_of s % 4 ≡ 0
  pub ends : base_of s + m.high (own_of s) ≤ REGION_LEN

-- the device whose every register is moved up by the base
abbrev pub moved_up : Meanings → Meanings
moved_up m = record {
  IsState = IsWindow m;
  low = λ s. base_of s + m.low (own_of s);
  high = λ s. base_of s + m.high (own_of s);
  loaded = λ s at width. if nat_lt at (base_of s) then None else m.loaded (own_of s) (at - base_of s) width;
  after_load = λ s at width. if nat_lt at (base_of s) then s else base_of s ∷ m.after_load (own_of s) (at - base_of s) width;
  after_store = λ s at width value. if nat_lt at (base_of s)
      then None
      else option_map (λ own. base_of s ∷ own) (m.after_store (own_of s) (at - base_of s) width value);
  after_stimulus = λ s what. base_of s ∷ m.after_stimulus (own_of s) what;
  lines = λ s. m.lines (own_of s);
  halted = λ s. m.halted (own_of s);
  output_of = λ s. m.output_of (own_of s);
}
