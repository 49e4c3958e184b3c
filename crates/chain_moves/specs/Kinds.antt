-- The three moves as relations between a state and the state after, and what each leaves as it was.
use Rattle.std.specs.Prelude.{◌≡◌, ◌≢◌, ℕ, ◌+◌, ◌-◌, ◌<◌, ◌≤◌, ◌⊎◌, true, false, List, [], ◌∷◌, ◌++◌, Some, None, slice_index_or}
use Rattle.device_model.specs.Meanings.{Meanings}
use Rattle.hart_words.specs.Registers.{register}
use Rattle.hart_memory.specs.declared.address_map.TheConstants.{RAM_BASE}
use Rattle.clic_regs.specs.LineChange.{claimed}
use Rattle.clic_select.specs.Top.{top}
use Rattle.clic_select.specs.declared.choice.Choice.{Choice}
use Rattle.hart_board.specs.declared.event.Event.{Event}
use Rattle.chain_moves.specs.Slot.{back, frame_size}
use Rattle.chain_moves.specs.Servicing.{Live, Service, Servicing, marks}
use Rattle.chain_moves.specs.Tests.{first_broken, enter_tests}
use Rattle.chain_moves.specs.Machine.{Makes}
use Rattle.chain_moves.specs.Enter.{is_enter_due, new_frame, table_address, entered}
use Rattle.chain_moves.specs.Leave.{left}
use Rattle.chain_moves.specs.Body.{body}
use Rattle.chain_moves.specs.declared.moves.Move.{Move}
use Rattle.chain_moves.specs.declared.moves.Move.TheVariants.{Enter, Leave, Body}

-- an Enter of the top is due, none of its tests holds, and its service begins
pub record Enters (s t : Servicing) : Type 0 where
  pub choice : Choice
  pub is_top : top s.outside.clic ≡ Some choice
  pub is_due : is_enter_due s (top s.outside.clic) ≡ true
  pub untested : first_broken (enter_tests (marks s.live) s.dead choice.shv s.vector (new_frame s) (table_address s.table choice.id)) ≡ None
  pub made : t ≡ entered s choice

-- no Enter is due, pc is where handlers return, and the innermost service ends
pub record Leaves (s t : Servicing) : Type 0 where
  pub no_enter : is_enter_due s (top s.outside.clic) ≡ false
  pub at_back : s.pc ≡ back
  pub innermost : Live
  pub others : List Live
  pub is_live : s.live ≡ innermost ∷ others
  pub made : t ≡ left s innermost others

-- no Enter is due, pc is elsewhere or no service is live, and an instruction is carried out
pub record Carries (m : Meanings) (es : List Event) (s t : Servicing) : Type 0 where
  pub no_enter : is_enter_due s (top s.outside.clic) ≡ false
  pub no_leave : (s.pc ≢ back) ⊎ (s.live ≡ [])
  pub made : body m es s ≡ Makes Body t

abbrev pub IsMoveBy : Meanings → List Event → Servicing → Move → Servicing → Type 0
IsMoveBy m es s Enter t = Enters s t
IsMoveBy m es s Leave t = Leaves s t
IsMoveBy m es s Body t = Carries m es s t

-- the board hasn't halted, and a move of this kind leads from one state to the other
abbrev pub IsMove : Meanings → List Event → Servicing → Move → Servicing → Type 0
IsMove m es s kind t = (m.halted s.outside.device ≡ None) × IsMoveBy m es s kind t

-- ---- what a move leaves as it was

-- an Enter changes four registers, and clears the pending bit of an edge input
pub record EnterLeaves (s t : Servicing) : Type 0 where
  pub registers : (r : ℕ) → r ≢ 1 → r ≢ 2 → r ≢ 10 → r ≢ 11 → register t.registers r ≡ register s.registers r
  pub fields : (t.on ≡ s.on) × (t.threshold ≡ s.threshold) × (t.table ≡ s.table) × (t.vector ≡ s.vector)
  pub memory : t.memory ≡ s.memory
  pub device : t.outside.device ≡ s.outside.device
  pub controller : (id : ℕ) × (t.outside.clic ≡ claimed s.outside.clic id)
  pub dead : (j : ℕ) → (j < new_frame s - RAM_BASE) ⊎ (new_frame s - RAM_BASE + frame_size ≤ j) → slice_index_or t.dead j false ≡ slice_index_or s.dead j false
  pub others : (v : Live) × (t.live ≡ v ∷ s.live)
  pub listed : (e : Service) × (t.services ≡ s.services ++ e ∷ [])
  pub bodies : t.bodies ≡ s.bodies

-- a Leave changes four registers, pc and scratch alone, and one service is live no more
pub record LeaveLeaves (s t : Servicing) : Type 0 where
  pub registers : (r : ℕ) → r ≢ 1 → r ≢ 2 → r ≢ 10 → r ≢ 11 → register t.registers r ≡ register s.registers r
  pub fields : (t.on ≡ s.on) × (t.was ≡ s.was) × (t.threshold ≡ s.threshold) × (t.table ≡ s.table) × (t.vector ≡ s.vector)
  pub memory : t.memory ≡ s.memory
  pub outside : t.outside ≡ s.outside
  pub dead : t.dead ≡ s.dead
  pub others : (v : Live) × (s.live ≡ v ∷ t.live)
  pub counts : (t.bodies ≡ s.bodies) × (t.services ≡ s.services)

-- a Body leaves ROM, the services that are live and those that were listed, and is counted
pub record BodyLeaves (s t : Servicing) : Type 0 where
  pub rom : t.memory.rom ≡ s.memory.rom
  pub live : t.live ≡ s.live
  pub services : t.services ≡ s.services
  pub bodies : t.bodies ≡ s.bodies + 1

abbrev pub LeavesAlone : Move → Servicing → Servicing → Type 0
LeavesAlone Enter s t = EnterLeaves s t
LeavesAlone Leave s t = LeaveLeaves s t
LeavesAlone Body s t = BodyLeaves s t

-- ---- an Enter whose service ends at once

-- everything comes back but the pending bit, `was`, and that the frame's bytes are dead
pub record GivesBack (s u : Servicing) : Type 0 where
  pub registers : u.registers ≡ s.registers
  pub pc : u.pc ≡ s.pc
  pub fields : (u.on ≡ s.on) × (u.threshold ≡ s.threshold) × (u.table ≡ s.table) × (u.vector ≡ s.vector) × (u.scratch ≡ s.scratch)
  pub memory : u.memory ≡ s.memory
  pub device : u.outside.device ≡ s.outside.device
  pub controller : (id : ℕ) × (u.outside.clic ≡ claimed s.outside.clic id)
  pub dead : (j : ℕ) → (j < new_frame s - RAM_BASE) ⊎ (new_frame s - RAM_BASE + frame_size ≤ j) → slice_index_or u.dead j false ≡ slice_index_or s.dead j false
  pub live : u.live ≡ s.live
  pub bodies : u.bodies ≡ s.bodies
