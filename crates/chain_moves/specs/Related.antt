-- What holds of the board and the servicing machine between two moves.
use Rattle.std.specs.Prelude.{◌≡◌, ℕ, Bool, true, List, [], ◌∷◌}
use Rattle.hart_words.specs.Registers.{register, AreRegisters}
use Rattle.hart_memory.specs.Memory.{AreBytes}
use Rattle.device_model.specs.Meanings.{Meanings}
use Rattle.chain_moves.specs.Slot.{back}
use Rattle.chain_moves.specs.Servicing.{Live, Servicing, marks}
use Rattle.chain_moves.specs.Tests.{are_kept}
use Rattle.chain_moves.specs.Leave.{leave_registers, raised_pointer}
use Rattle.chain_moves.specs.Nesting.{AreRising}
use Rattle.chain_moves.specs.Ranges.{IsInRange}
use Rattle.chain_moves.specs.Words.{HasDispatcher}
use Rattle.chain_moves.specs.Agreement.{AgreeRom, Agree, Frames}
use Rattle.chain_moves.specs.Beside.{Rest}
use Rattle.chain_moves.specs.declared.dispatcher.Dispatcher.{Dispatcher}

-- ---- the servicing machine alone

-- a live service: its handler began with sp at its frame, and where pc is where handlers return no register is lost
pub record Keeps (registers : List ℕ) (at : ℕ) (v : Live) : Type 0 where
  pub kept : AreRegisters v.mark.kept
  pub pointer : register v.mark.kept 2 ≡ v.mark.frame
  pub returns : at ≡ back → are_kept v.mark.kept registers 32 ≡ true

-- and the next one as it stands once this one has left
abbrev pub Kept : List ℕ → ℕ → List Live → Type 0
Kept registers pc [] = Unit {0}
Kept registers pc (v ∷ vs) = Keeps registers pc v × Kept (leave_registers v.mark.kept v (raised_pointer v.mark.kept)) v.pc vs

-- below a service interrupts are on
abbrev pub Ons : List Live → Bool → Bool → Type 0
Ons [] on was = Unit {0}
Ons (v ∷ vs) on was = (on ≡ true) × (was ≡ true)

-- what every servicing state has that a run comes to
pub record Serves (m : Meanings) (s : Servicing) : Type 0 where
  pub range : IsInRange m s
  pub rising : AreRising (marks s.live)
  pub kept : Kept s.registers s.pc s.live
  pub ons : Ons s.live s.on s.was

-- ---- the board beside it

-- the dispatcher stands in the slot, memory agrees outside the slot and the dead bytes, and the live frames hold what was suspended
pub record Stands (d : Dispatcher) (s : Servicing) (x : Rest) : Type 0 where
  pub code : HasDispatcher d x.rom
  pub bytes : AreBytes x.rom
  pub rom : AgreeRom x.rom s.memory.rom
  pub ram : Agree x.ram s.memory.ram s.dead
  pub frames : Frames x.ram s.dead s.live

pub record Related (m : Meanings) (d : Dispatcher) (s : Servicing) (x : Rest) : Type 0 where
  pub serves : Serves m s
  pub stands : Stands d s x
