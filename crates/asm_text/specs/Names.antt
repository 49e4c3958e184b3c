-- The names of registers (RISC-V ABI, "Integer Register Convention") and of control and status registers (Privileged
-- ISA, "CSR Listing"; CLIC draft, "CLIC CSRs"), each with its number.
use Rattle.std.specs.Prelude.{ℕ, Bool, true, false, ◌&&◌, ◌==◌, List, [], ◌∷◌, Option, Some, None, unwrap_or, codes, if◌then◌else◌}

abbrev pub is_same_text : List ℕ → List ℕ → Bool
is_same_text [] [] = true
is_same_text [] (c ∷ cs) = false
is_same_text (b ∷ bs) [] = false
is_same_text (b ∷ bs) (c ∷ cs) = (b == c) && is_same_text bs cs

-- names with their numbers
abbrev pub Names : Type 0
Names = List (List ℕ × ℕ)

-- the number of a name, or None where the table hasn't the name
abbrev pub number_in : Names → List ℕ → Option ℕ
number_in [] name = None
number_in (row ∷ rows) name = if is_same_text row.0 name then Some row.1 else number_in rows name

-- the first name of a number, or None where the table hasn't the number
abbrev pub name_in : Names → ℕ → Option (List ℕ)
name_in [] number = None
name_in (row ∷ rows) number = if number == row.1 then Some row.0 else name_in rows number

-- the names that are printed come first
abbrev pub registers : Names
registers =
    (codes "zero", 0) ∷ (codes "ra", 1) ∷ (codes "sp", 2) ∷ (codes "gp", 3) ∷ (codes "tp", 4)
    ∷ (codes "t0", 5) ∷ (codes "t1", 6) ∷ (codes "t2", 7)
    ∷ (codes "s0", 8) ∷ (codes "s1", 9)
    ∷ (codes "a0", 10) ∷ (codes "a1", 11) ∷ (codes "a2", 12) ∷ (codes "a3", 13)
    ∷ (codes "a4", 14) ∷ (codes "a5", 15) ∷ (codes "a6", 16) ∷ (codes "a7", 17)
    ∷ (codes "s2", 18) ∷ (codes "s3", 19) ∷ (codes "s4", 20) ∷ (codes "s5", 21) ∷ (codes "s6", 22)
    ∷ (codes "s7", 23) ∷ (codes "s8", 24) ∷ (codes "s9", 25) ∷ (codes "s10", 26) ∷ (codes "s11", 27)
    ∷ (codes "t3", 28) ∷ (codes "t4", 29) ∷ (codes "t5", 30) ∷ (codes "t6", 31)
    ∷ (codes "fp", 8)
    ∷ (codes "x0", 0) ∷ (codes "x1", 1) ∷ (codes "x2", 2) ∷ (codes "x3", 3)
    ∷ (codes "x4", 4) ∷ (codes "x5", 5) ∷ (codes "x6", 6) ∷ (codes "x7", 7)
    ∷ (codes "x8", 8) ∷ (codes "x9", 9) ∷ (codes "x10", 10) ∷ (codes "x11", 11)
    ∷ (codes "x12", 12) ∷ (codes "x13", 13) ∷ (codes "x14", 14) ∷ (codes "x15", 15)
    ∷ (codes "x16", 16) ∷ (codes "x17", 17) ∷ (codes "x18", 18) ∷ (codes "x19", 19)
    ∷ (codes "x20", 20) ∷ (codes "x21", 21) ∷ (codes "x22", 22) ∷ (codes "x23", 23)
    ∷ (codes "x24", 24) ∷ (codes "x25", 25) ∷ (codes "x26", 26) ∷ (codes "x27", 27)
    ∷ (codes "x28", 28) ∷ (codes "x29", 29) ∷ (codes "x30", 30) ∷ (codes "x31", 31)
    ∷ []

abbrev pub csrs : Names
csrs =
    (codes "mstatus", 0x300)
    ∷ (codes "misa", 0x301)
    ∷ (codes "mie", 0x304)
    ∷ (codes "mtvec", 0x305)
    ∷ (codes "mtvt", 0x307)
    ∷ (codes "mscratch", 0x340)
    ∷ (codes "mepc", 0x341)
    ∷ (codes "mcause", 0x342)
    ∷ (codes "mtval", 0x343)
    ∷ (codes "mip", 0x344)
    ∷ (codes "mnxti", 0x345)
    ∷ (codes "mintthresh", 0x347)
    ∷ (codes "mscratchcsw", 0x348)
    ∷ (codes "mscratchcswl", 0x349)
    ∷ (codes "mvendorid", 0xF11)
    ∷ (codes "marchid", 0xF12)
    ∷ (codes "mimpid", 0xF13)
    ∷ (codes "mhartid", 0xF14)
    ∷ (codes "mintstatus", 0xFB1)
    ∷ []

-- the register of a name
unfoldable pub register_of : List ℕ → Option ℕ
register_of name = number_in registers name

-- the name that a register is printed by; there is one below 32
unfoldable pub register_name : ℕ → List ℕ
register_name register = unwrap_or (name_in registers register) []

-- the control and status register of a name
unfoldable pub csr_of : List ℕ → Option ℕ
csr_of name = number_in csrs name

-- the name of a control and status register, or None where it has none
unfoldable pub csr_name : ℕ → Option (List ℕ)
csr_name number = name_in csrs number
