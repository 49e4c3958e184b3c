-- The instruction that a word of each format makes, by the name that its row gives.
use Rattle.std.specs.Prelude.{ℕ}
use Rattle.hart_words.specs.Bits.{bits}
use Rattle.rv_encoding.specs.Fields.{rd_of, rs1_of, rs2_of, csr_of, i_immediate, s_immediate, b_immediate, u_immediate, j_immediate}
use Rattle.rv_encoding.specs.declared.instruction.Ins.{Ins}
use Rattle.rv_encoding.specs.declared.instruction.Ins.TheVariants.{Fence}

abbrev pub r_type : (ℕ → ℕ → ℕ → Ins) → ℕ → Ins
r_type name w = name (rd_of w) (rs1_of w) (rs2_of w)

abbrev pub i_type : (ℕ → ℕ → ℕ → Ins) → ℕ → Ins
i_type name w = name (rd_of w) (rs1_of w) (i_immediate w)

abbrev pub s_type : (ℕ → ℕ → ℕ → Ins) → ℕ → Ins
s_type name w = name (rs1_of w) (rs2_of w) (s_immediate w)

abbrev pub b_type : (ℕ → ℕ → ℕ → Ins) → ℕ → Ins
b_type name w = name (rs1_of w) (rs2_of w) (b_immediate w)

abbrev pub u_type : (ℕ → ℕ → Ins) → ℕ → Ins
u_type name w = name (rd_of w) (u_immediate w)

abbrev pub j_type : (ℕ → ℕ → Ins) → ℕ → Ins
j_type name w = name (rd_of w) (j_immediate w)

-- a CSR's source is a register or an immediate, and stands where rs1 does
abbrev pub csr_type : (ℕ → ℕ → ℕ → Ins) → ℕ → Ins
csr_type name w = name (rd_of w) (rs1_of w) (csr_of w)

-- the predecessor and successor sets of FENCE
abbrev pub fence : ℕ → Ins
fence w = Fence (bits w 24 4) (bits w 20 4)

-- no field at all
abbrev pub plain : Ins → ℕ → Ins
plain name w = name
