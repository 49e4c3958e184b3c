-- What holds of every state that a board is in.
use Rattle.std.specs.Prelude.{◌≡◌, ◌%◌, ◌^◌, ◌<◌, ◌≤◌, List, length}
use Rattle.hart_words.specs.Registers.{AreRegisters}
use Rattle.device_model.specs.Meanings.{Meanings}
use Rattle.device_model.specs.declared.device.TheConstants.{MAX_LINES}
use Rattle.hart_memory.specs.Memory.{IsWhole}
use Rattle.csr_file.specs.CsrState.{IsCsrState}
use Rattle.clic_regs.specs.ClicState.{IsClicState}
use Rattle.std.specs.List.{All}
use Rattle.clic_regs.specs.Shape.{ClicShape}
use Rattle.hart_board.specs.State.{Outside, Moment, Rest, State}

-- the controller and the device are in states of theirs, and the device has no more lines than inputs are kept for it
pub record IsOutside (m : Meanings) (o : Outside) : Type 0 where
  pub clic : IsClicState o.clic
  pub device : m.IsState o.device
  pub lines : length (m.lines o.device) ≤ MAX_LINES

-- pc is an even word, and each part is in a state of its own
pub record IsBoard (m : Meanings) (s : State) : Type 0 where
  pub registers : AreRegisters s.registers
  pub pc : (s.pc % 2 ≡ 0) × (s.pc < 2 ^ 32)
  pub csrs : IsCsrState s.csrs
  pub memory : IsWhole s.memory
  pub outside : IsOutside m s.outside

-- the controller had this shape in each of these
abbrev pub HaveShape : ClicShape → List Rest → Type 0
HaveShape shape rests = All (λ (rest : Rest). rest.outside.clic.shape ≡ shape) rests

-- the controller had in each state that is kept the shape that it has now
abbrev pub IsOfOneShape : State → Type 0
IsOfOneShape s = All (λ (kept : Moment). kept.outside.clic.shape ≡ s.outside.clic.shape) s.kept
