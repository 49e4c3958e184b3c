-- What holds of the board and the machine while a direct service is live.
use Rattle.std.specs.Prelude.{◌≡◌, ◌%◌, ◌^◌, ◌<◌, true}
use Rattle.hart_words.specs.Registers.{AreRegisters}
use Rattle.device_model.specs.Meanings.{Meanings}
use Rattle.chain_moves.specs.Servicing.{Servicing, marks, innermost_level}
use Rattle.chain_moves.specs.Enter.{takes_interrupts}
use Rattle.chain_moves.specs.Beside.{Rest}
use Rattle.chain_moves.specs.Related.{Serves, Stands}
use Rattle.chain_moves.specs.declared.dispatcher.Dispatcher.{Dispatcher}
use Rattle.chain_direct.specs.Directed.{Direct}

-- the state that the service suspended, with memory, dead bytes and all outside as they are now
abbrev pub suspended : Servicing → Direct → Servicing
suspended s v = record s { registers = v.kept; pc = v.pc }

-- what was suspended is a state that a run comes to, in which interrupts were taken below the service's level, and the board stands beside the machine
pub record DirectRelated (m : Meanings) (d : Dispatcher) (s : Servicing) (v : Direct) (x : Rest) : Type 0 where
  pub serves : Serves m (suspended s v)
  pub stands : Stands d s x
  pub registers : AreRegisters s.registers
  pub pc : (s.pc % 2 ≡ 0) × (s.pc < 2 ^ 32)
  pub was : s.was ≡ true
  pub on : takes_interrupts (marks s.live) s.on ≡ true
  pub level : (innermost_level (marks s.live) < v.level) × (v.level < 256)
