-- Which instructions the convention permits.
use Rattle.std.specs.Prelude.{ℕ, ◌==◌, Bool, true, false, ◌&&◌, ◌||◌}
use Rattle.rv_encoding.specs.declared.instruction.Ins.{Ins}
use Rattle.rv_encoding.specs.declared.instruction.Ins.TheVariants.{Mret, Csr}
use Rattle.rv_encoding.specs.declared.operations.CsrOp.{CsrOp}
use Rattle.rv_encoding.specs.declared.operations.CsrOp.TheVariants.{Csrrw, Csrrsi, Csrrci}

-- the foreground sets or clears MIE in mstatus, or writes mintthresh, mtvec, mtvt or mscratch, and reads none of them
abbrev pub is_permitted_csr : CsrOp → ℕ → ℕ → ℕ → Bool
is_permitted_csr Csrrsi rd source csr = rd == 0 && csr == 0x300 && source == 8
is_permitted_csr Csrrci rd source csr = rd == 0 && csr == 0x300 && source == 8
is_permitted_csr Csrrw rd source csr = rd == 0 && (csr == 0x347 || csr == 0x305 || csr == 0x307 || csr == 0x340)
is_permitted_csr _ rd source csr = false

-- a handler executes no instruction on control registers; nobody executes MRET
abbrev pub is_permitted : Bool → Ins → Bool
is_permitted foreground (Csr op rd source csr) = foreground && is_permitted_csr op rd source csr
is_permitted foreground Mret = false
is_permitted foreground _ = true
