-- What each word of the dispatchers spells, and that a fetch in the slot finds it.
use Rattle.std.proofs.Common.{◌≡◌, ℕ, ◌+◌, ◌*◌, ◌<◌, List, Some, refl, arith}
use Rattle.rv_encoding.specs.Rows.{spelled, rows}
use Rattle.rv_encoding.specs.declared.instruction.Ins.TheVariants.{Jalr, Branch, Load, Store, Imm, Mret, Csr}
use Rattle.rv_encoding.specs.declared.operations.BranchOp.TheVariants.{Beq, Bne}
use Rattle.rv_encoding.specs.declared.operations.LoadOp.TheVariants.{Lw}
use Rattle.rv_encoding.specs.declared.operations.StoreOp.TheVariants.{Sw}
use Rattle.rv_encoding.specs.declared.operations.ImmOp.TheVariants.{Addi}
use Rattle.rv_encoding.specs.declared.operations.CsrOp.TheVariants.{Csrrw, Csrrs, Csrrsi, Csrrci}
use Rattle.hart_memory.specs.Memory.{AreBytes}
use Rattle.hart_memory.specs.Fetch.{fetched, of_word}
use Rattle.hart_memory.proofs.NumberLemmas.{number_at-lt}
use Rattle.hart_memory.proofs.FetchLemmas.{fetched_rom}
use Rattle.chain_moves.specs.Slot.{base}
use Rattle.chain_moves.specs.Words.{HasDispatcher, dispatch_word, word_count}
use Rattle.chain_moves.specs.declared.dispatcher.Dispatcher.{Dispatcher}

pub swap_sp : spelled 0x34911173 ≡ Some (Csr Csrrw 2 2 0x349)
unfolding spelled rows
swap_sp = refl

pub lower_sp : spelled 0xFE010113 ≡ Some (Imm Addi 2 2 0xFFFFFFE0)
unfolding spelled rows
lower_sp = refl

pub save_ra : spelled 0x00112023 ≡ Some (Store Sw 2 1 0)
unfolding spelled rows
save_ra = refl

pub save_a0 : spelled 0x00A12223 ≡ Some (Store Sw 2 10 4)
unfolding spelled rows
save_a0 = refl

pub save_a1 : spelled 0x00B12423 ≡ Some (Store Sw 2 11 8)
unfolding spelled rows
save_a1 = refl

pub read_cause : spelled 0x34202573 ≡ Some (Csr Csrrs 10 0 0x342)
unfolding spelled rows
read_cause = refl

pub save_cause : spelled 0x00A12623 ≡ Some (Store Sw 2 10 12)
unfolding spelled rows
save_cause = refl

pub read_epc : spelled 0x34102573 ≡ Some (Csr Csrrs 10 0 0x341)
unfolding spelled rows
read_epc = refl

pub save_epc : spelled 0x00A12823 ≡ Some (Store Sw 2 10 16)
unfolding spelled rows
save_epc = refl

pub claim : spelled 0x34546573 ≡ Some (Csr Csrrsi 10 8 0x345)
unfolding spelled rows
claim = refl

pub none_claimed : spelled 0x02050063 ≡ Some (Branch Beq 10 0 32)
unfolding spelled rows
none_claimed = refl

pub load_target : spelled 0x00052583 ≡ Some (Load Lw 11 10 0)
unfolding spelled rows
load_target = refl

pub call : spelled 0x000580E7 ≡ Some (Jalr 1 11 0)
unfolding spelled rows
call = refl

pub disable : spelled 0x30047073 ≡ Some (Csr Csrrci 0 8 0x300)
unfolding spelled rows
disable = refl

pub load_cause : spelled 0x00C12503 ≡ Some (Load Lw 10 2 12)
unfolding spelled rows
load_cause = refl

pub write_cause : spelled 0x34251073 ≡ Some (Csr Csrrw 0 10 0x342)
unfolding spelled rows
write_cause = refl

pub one_claimed : spelled 0xFE0514E3 ≡ Some (Branch Bne 10 0 0xFFFFFFE8)
unfolding spelled rows
one_claimed = refl

pub nop : spelled 0x00000013 ≡ Some (Imm Addi 0 0 0)
unfolding spelled rows
nop = refl

pub load_epc : spelled 0x01012503 ≡ Some (Load Lw 10 2 16)
unfolding spelled rows
load_epc = refl

pub write_epc : spelled 0x34151073 ≡ Some (Csr Csrrw 0 10 0x341)
unfolding spelled rows
write_epc = refl

pub load_ra : spelled 0x00012083 ≡ Some (Load Lw 1 2 0)
unfolding spelled rows
load_ra = refl

pub load_a0 : spelled 0x00412503 ≡ Some (Load Lw 10 2 4)
unfolding spelled rows
load_a0 = refl

pub load_a1 : spelled 0x00812583 ≡ Some (Load Lw 11 2 8)
unfolding spelled rows
load_a1 = refl

pub raise_sp : spelled 0x02010113 ≡ Some (Imm Addi 2 2 32)
unfolding spelled rows
raise_sp = refl

pub return : spelled 0x30200073 ≡ Some Mret
unfolding spelled rows
return = refl

-- ---- fetches in ROM
-- the words of the slot have the dispatcher's instructions at their heads, whatever RAM holds
abbrev pub Fetches : Dispatcher → List ℕ → Type 0
Fetches d rom = (ram : List ℕ) (i : ℕ) → i < word_count → fetched (record { rom = rom; ram = ram }) (base + 4 * i) ≡ of_word (dispatch_word d i)

pub fetches : (d : Dispatcher) (rom : List ℕ) → HasDispatcher d rom → AreBytes rom → Fetches d rom
fetches d rom has bytes ram i l = fetched_rom rom ram (base + 4 * i) (dispatch_word d i) (number_at-lt rom (base + 4 * i) 2 bytes) (omega arith) (has i l)
