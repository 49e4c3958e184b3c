-- The registers that hold several fields, and the fields that a written word has.
use Rattle.std.specs.Prelude.{◌≡◌, ℕ, ◌+◌, ◌-◌, ◌*◌, ◌%◌, ◌^◌, ◌<◌, ◌==◌, Bool, if◌then◌else◌}
use Rattle.hart_words.specs.Bits.{bits}
use Rattle.csr_file.specs.CsrState.{CsrState}

-- a field of one bit as a number
abbrev pub bit : Bool → ℕ
bit b = if b then 1 else 0

-- whether bit k of a word is 1
abbrev pub is_set : ℕ → ℕ → Bool
is_set word k = bits word k 1 == 1

-- a number with the bits below 2 ^ k cleared
abbrev pub with_low_bits_clear : ℕ → ℕ → ℕ
with_low_bits_clear word k = word - word % 2 ^ k

-- misa: RV32 with the extensions C, I and M
abbrev pub misa : ℕ
misa = 2 ^ 30 + 2 ^ 2 + 2 ^ 8 + 2 ^ 12

-- mstatus: MIE in bit 3, MPIE in bit 7, and machine mode, 11, in the two bits of MPP from bit 11 on
abbrev pub mstatus : CsrState → ℕ
mstatus c = bit c.mie * 2 ^ 3 + bit c.mpie * 2 ^ 7 + 3 * 2 ^ 11

-- mcause in CLIC mode: the interrupt bit in bit 31, MPP from bit 28 on, MPIE in bit 27, mpil from bit 16 on, and the code
abbrev pub mcause : CsrState → ℕ
mcause c = bit c.interrupt * 2 ^ 31 + 3 * 2 ^ 28 + bit c.mpie * 2 ^ 27 + c.mpil * 2 ^ 16 + c.exccode

-- mintstatus: mil from bit 24 on
abbrev pub mintstatus : CsrState → ℕ
mintstatus c = c.mil * 2 ^ 24

-- the fields after a word is written to mstatus, and to mcause
abbrev pub with_mstatus : CsrState → ℕ → CsrState
with_mstatus c word = record c { mie = is_set word 3; mpie = is_set word 7 }

abbrev pub with_mcause : CsrState → ℕ → CsrState
with_mcause c word = record c { interrupt = is_set word 31; mpie = is_set word 27; mpil = bits word 16 8; exccode = bits word 0 12 }

-- a word of mstatus, bit by bit (Privileged ISA, "Machine Status Registers")
pub record IsMstatus (c : CsrState) (word : ℕ) : Type 0 where
  pub mie : bits word 3 1 ≡ bit c.mie
  pub mpie : bits word 7 1 ≡ bit c.mpie
  pub mpp : bits word 11 2 ≡ 3
  pub others : (bits word 0 3 ≡ 0) × (bits word 4 3 ≡ 0) × (bits word 8 3 ≡ 0) × (bits word 13 19 ≡ 0) × (word < 2 ^ 32)

-- a word of mcause, bit by bit (CLIC draft, "Changes to xcause CSRs")
pub record IsMcause (c : CsrState) (word : ℕ) : Type 0 where
  pub interrupt : bits word 31 1 ≡ bit c.interrupt
  pub mpp : bits word 28 2 ≡ 3
  pub mpie : bits word 27 1 ≡ bit c.mpie
  pub mpil : bits word 16 8 ≡ c.mpil
  pub exccode : bits word 0 12 ≡ c.exccode
  pub others : (bits word 30 1 ≡ 0) × (bits word 24 3 ≡ 0) × (bits word 12 4 ≡ 0) × (word < 2 ^ 32)
