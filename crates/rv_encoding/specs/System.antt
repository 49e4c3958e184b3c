-- The instructions that act on the privileged state.
use Rattle.std.specs.Prelude.{Bool, true, false}
use Rattle.rv_encoding.specs.declared.instruction.Ins.{Ins}
use Rattle.rv_encoding.specs.declared.instruction.Ins.TheVariants.{Ecall, Ebreak, Mret, Wfi, Csr}

-- ECALL, EBREAK, MRET, WFI and the CSR instructions
abbrev pub is_system : Ins → Bool
is_system Ecall = true
is_system Ebreak = true
is_system Mret = true
is_system Wfi = true
is_system (Csr op rd source csr) = true
is_system _ = false
