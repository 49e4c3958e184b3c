-- An instruction that was looked at before it is carried out.
use Rattle.std.specs.Prelude.{◌≡◌, Some, IsTrue}
use Rattle.rv_encoding.specs.Fits.{can_be_spelled}
use Rattle.rv_encoding.specs.System.{is_system}
use Rattle.rv_encoding.specs.declared.instruction.Ins.{Ins}
use Rattle.rvc_encoding.specs.Decoding.{decoded}
use Rattle.hart_exec.specs.Effect.{effect}
use Rattle.hart_exec.specs.Operation.{instruction}
use Rattle.hart_exec.specs.declared.operation.Operation.{Operation}
use Rattle.hart_memory.specs.Fetch.{fetched}
use Rattle.hart_memory.specs.declared.fetched.Fetched.TheVariants.{Bits}
use Rattle.hart_board.specs.State.{State}
use Rattle.hart_board.specs.declared.prepared.Prepared.{Prepared}

-- these bits are fetched at pc, they spell the instruction that the operation stands for, and it asks for this
pub record IsPrepared (s : State) (p : Prepared) : Type 0 where
  pub ins : Ins
  pub stands : instruction p.operation ≡ Some ins
  pub is_fetched : Bits p.encoding.bits p.encoding.length ≡ fetched s.memory s.pc
  pub is_spelled : decoded p.encoding.bits p.encoding.length ≡ Some ins
  pub is_effect : p.effect ≡ effect ins p.encoding.length s.registers s.pc

-- the operation stands for an instruction that is left to the system
pub record IsLeft (op : Operation) : Type 0 where
  pub ins : Ins
  pub stands : instruction op ≡ Some ins
  pub fits : IsTrue (can_be_spelled ins)
  pub is_left : IsTrue (is_system ins)
