-- What a report tells of the hart, line by line.
use Rattle.std.specs.Prelude.{ℕ, zero, suc, ◌+◌, List, [], ◌++◌, codes, unwrap_or}
use Rattle.hart_words.specs.Decimal.{decimal}
use Rattle.hart_words.specs.Hexadecimal.{hex8}
use Rattle.hart_words.specs.Registers.{register}
use Rattle.csr_file.specs.CsrState.{CsrState}
use Rattle.csr_file.specs.Table.{read}

-- ---- pc and the registers

unfoldable pub pc_line : ℕ → List ℕ
pc_line pc = codes "pc " ++ hex8 pc ++ codes "\n"

unfoldable pub register_line : ℕ → ℕ → List ℕ
register_line i value = codes "x" ++ decimal i ++ codes " " ++ hex8 value ++ codes "\n"

-- a line for each of n registers, from register i on
unfoldable pub register_lines : ℕ → ℕ → List ℕ → List ℕ
register_lines zero i registers = []
register_lines (suc n) i registers = register_line i (register registers i) ++ register_lines n (i + 1) registers

-- pc, and x1 to x31
unfoldable pub pc_and_registers : ℕ → List ℕ → List ℕ
pc_and_registers pc registers = pc_line pc ++ register_lines 31 1 registers

-- ---- the control and status registers

-- one of them, by its name and its number
unfoldable pub csr_line : List ℕ → ℕ → CsrState → List ℕ
csr_line name number c = name ++ codes " " ++ hex8 (unwrap_or (read c number) 0) ++ codes "\n"

abbrev pub mstatus_line : CsrState → List ℕ
mstatus_line c = csr_line (codes "mstatus") 0x300 c

-- those that are set up once, those of a trap, and those of the levels
unfoldable pub set_up_lines : CsrState → List ℕ
set_up_lines c = mstatus_line c ++ csr_line (codes "mtvec") 0x305 c ++ csr_line (codes "mtvt") 0x307 c

unfoldable pub trap_lines : CsrState → List ℕ
trap_lines c = csr_line (codes "mscratch") 0x340 c ++ csr_line (codes "mepc") 0x341 c ++ csr_line (codes "mcause") 0x342 c ++ csr_line (codes "mtval") 0x343 c

unfoldable pub level_lines : CsrState → List ℕ
level_lines c = csr_line (codes "mintstatus") 0xFB1 c ++ csr_line (codes "mintthresh") 0x347 c

unfoldable pub csr_lines : CsrState → List ℕ
csr_lines c = set_up_lines c ++ trap_lines c ++ level_lines c

-- ---- the hart: pc, x1 to x31, and the control and status registers

unfoldable pub hart_lines : ℕ → List ℕ → CsrState → List ℕ
hart_lines pc registers c = pc_and_registers pc registers ++ csr_lines c
