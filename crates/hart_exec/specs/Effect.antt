-- What each instruction asks for, by its length in bytes, the registers and pc (Unprivileged ISA, "RV32I Base Integer Instruction Set").
use Rattle.std.specs.Prelude.{ℕ, ◌+◌, ◌*◌, ◌/◌, ◌%◌, ◌^◌, List, if◌then◌else◌}
use Rattle.hart_words.specs.Registers.{register}
use Rattle.hart_words.specs.TwosComplement.{word}
use Rattle.hart_exec.specs.Access.{load_width, extends_sign, store_width}
use Rattle.hart_exec.specs.Arithmetic.{register_result, on_registers}
use Rattle.hart_exec.specs.Branches.{branch_taken}
use Rattle.hart_exec.specs.declared.effect.Effect.{Effect}
use Rattle.rv_encoding.specs.declared.instruction.Ins.{Ins}
use Rattle.rv_encoding.specs.declared.instruction.Ins.TheVariants.{Lui, Auipc, Jal, Jalr, Branch, Load, Store, Imm, Reg, Fence, Ecall, Ebreak, Mret, Wfi, Csr}
use Rattle.hart_exec.specs.declared.effect.Effect.TheVariants.{Go, System}
use Rattle.hart_exec.specs.declared.effect.Effect.TheVariants.{Load as LoadBytes, Store as StoreBytes}

-- the address with bit 0 cleared
abbrev pub even : ℕ → ℕ
even address = address / 2 * 2

-- pc goes on, and no register changes
abbrev pub go_to : ℕ → Effect
go_to next = Go 0 0 next

-- what the instruction of that length asks for; after a load or a store pc goes on to the next instruction
unfoldable pub effect : Ins → ℕ → List ℕ → ℕ → Effect
effect (Lui rd imm) length regs pc = Go rd imm (word (pc + length))
effect (Auipc rd imm) length regs pc = Go rd (word (pc + imm)) (word (pc + length))
effect (Jal rd offset) length regs pc = Go rd (word (pc + length)) (word (pc + offset))
effect (Jalr rd rs1 imm) length regs pc = Go rd (word (pc + length)) (even (word (register regs rs1 + imm)))
effect (Branch op rs1 rs2 offset) length regs pc = go_to (if branch_taken op (register regs rs1) (register regs rs2) then word (pc + offset) else word (pc + length))
effect (Load op rd rs1 imm) length regs pc = LoadBytes rd (word (register regs rs1 + imm)) (load_width op) (extends_sign op)
effect (Store op rs1 rs2 imm) length regs pc = StoreBytes (word (register regs rs1 + imm)) (store_width op) (register regs rs2 % 2 ^ (8 * store_width op))
effect (Imm op rd rs1 imm) length regs pc = Go rd (register_result (on_registers op) (register regs rs1) imm) (word (pc + length))
effect (Reg op rd rs1 rs2) length regs pc = Go rd (register_result op (register regs rs1) (register regs rs2)) (word (pc + length))
effect (Fence pred succ) length regs pc = go_to (word (pc + length))
effect Ecall length regs pc = System
effect Ebreak length regs pc = System
effect Mret length regs pc = System
effect Wfi length regs pc = System
effect (Csr op rd source csr) length regs pc = System
