-- How a script's commands are spelled.
use Rattle.std.specs.Prelude.{◌≡◌, ℕ, ◌<◌, ◌≤◌, List, codes, true, if◌then◌else◌, ⊤}
use Rattle.clic_regs.specs.Shape.{plain_shape}
use Rattle.hart_board.specs.Event.{is_free}
use Rattle.hart_board.specs.declared.what.What.TheVariants.{Line as LineOf}
use Rattle.board_inputs.specs.Spelling.{spaced}
use Rattle.hart_monitor.specs.Numbers.{IsNumber, most_number}
use Rattle.hart_monitor.specs.declared.command.Command.{Command}
use Rattle.hart_monitor.specs.declared.command.Command.TheVariants.{Step, Run, Break, Regs, Csr, Mem, Clic, Line, Back}

-- at most so many steps has a command
abbrev pub most_steps : ℕ
most_steps = 1_000_000

-- a name, a space and a number
pub record HasOne (name line : List ℕ) (n : ℕ) : Type 0 where
  pub text : List ℕ
  pub number : IsNumber text n
  pub line_is : line ≡ spaced name text

-- a name and two numbers, with single spaces
pub record HasTwo (name line : List ℕ) (n m : ℕ) : Type 0 where
  pub first : List ℕ
  pub second : List ℕ
  pub first_number : IsNumber first n
  pub second_number : IsNumber second m
  pub line_is : line ≡ spaced name (spaced first second)

-- the line has the command's name, and numbers that are its numbers
abbrev pub Says : List ℕ → Command → Type 0
Says line (Step n) = HasOne (codes "step") line n
Says line (Run n) = HasOne (codes "run") line n
Says line (Break at) = HasOne (codes "break") line at
Says line Regs = line ≡ codes "regs"
Says line Csr = line ≡ codes "csr"
Says line (Mem at count) = HasTwo (codes "mem") line at count
Says line (Clic input) = HasOne (codes "clic") line input
Says line (Line input high) = HasTwo (codes "line") line input (if high then 1 else 0)
Says line Back = line ≡ codes "back"

-- the command's numbers are in their ranges; a line is of an input that is no device's
abbrev pub IsInRange : Command → Type 0
IsInRange (Step n) = (0 < n) × (n ≤ most_steps)
IsInRange (Run n) = (0 < n) × (n ≤ most_steps)
IsInRange (Break at) = at ≤ most_number
IsInRange Regs = ⊤
IsInRange Csr = ⊤
IsInRange (Mem at count) = (at ≤ most_number) × (0 < count) × (count ≤ 256)
IsInRange (Clic input) = input < plain_shape.inputs
IsInRange (Line input high) = is_free plain_shape.inputs (LineOf input high) ≡ true
IsInRange Back = ⊤

-- the line spells the command
pub record Spells (line : List ℕ) (c : Command) : Type 0 where
  pub range : IsInRange c
  pub says : Says line c
