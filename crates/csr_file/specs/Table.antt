-- The registers by number (Privileged ISA, "CSR Listing"; CLIC draft, "CLIC CSRs").
use Rattle.std.specs.Prelude.{ℕ, ◌+◌, ◌==◌, Bool, List, [], ◌∷◌, Option, Some, None, if◌then◌else◌}
use Rattle.hart_words.specs.Bits.{bits}
use Rattle.csr_file.specs.CsrState.{CsrState}
use Rattle.csr_file.specs.Views.{with_low_bits_clear, misa, mstatus, mcause, mintstatus, with_mstatus, with_mcause}

-- what stands beside a number in a table
abbrev pub beside : {A : Type 0} → List (ℕ × A) → ℕ → Option A
beside [] number = None
beside (row ∷ rows) number = if number == row.0 then Some row.1 else beside rows number

-- what each register reads
abbrev pub reads : CsrState → List (ℕ × ℕ)
reads c =
    (0x300, mstatus c)
    ∷ (0x301, misa)
    ∷ (0x304, 0)  -- mie
    ∷ (0x305, c.mtvec_base + 3)  -- CLIC mode
    ∷ (0x307, c.mtvt)
    ∷ (0x340, c.mscratch)
    ∷ (0x341, c.mepc)
    ∷ (0x342, mcause c)
    ∷ (0x343, c.mtval)
    ∷ (0x344, 0)  -- mip
    ∷ (0x347, c.th)  -- mintthresh
    ∷ (0xFB1, mintstatus c)
    ∷ (0xF11, 0)  -- mvendorid
    ∷ (0xF12, 0)  -- marchid
    ∷ (0xF13, 0)  -- mimpid
    ∷ (0xF14, 0)  -- mhartid
    ∷ []

-- the fields after a word is written to each register
abbrev pub writes : CsrState → ℕ → List (ℕ × CsrState)
writes c word =
    (0x300, with_mstatus c word)
    ∷ (0x301, c)  -- misa
    ∷ (0x304, c)  -- mie
    ∷ (0x305, record c { mtvec_base = with_low_bits_clear word 6 })
    ∷ (0x307, record c { mtvt = with_low_bits_clear word 6 })
    ∷ (0x340, record c { mscratch = word })
    ∷ (0x341, record c { mepc = with_low_bits_clear word 1 })
    ∷ (0x342, with_mcause c word)
    ∷ (0x343, record c { mtval = word })
    ∷ (0x344, c)  -- mip
    ∷ (0x347, record c { th = bits word 0 8 })  -- mintthresh
    ∷ []

-- what register number reads, or None where there is none
unfoldable pub read : CsrState → ℕ → Option ℕ
read c number = beside (reads c) number

-- the fields after a word is written to register number, or None where there is none that can be written
unfoldable pub written : CsrState → ℕ → ℕ → Option CsrState
written c number word = beside (writes c word) number

-- bits 11:10 of its number say that a register is read-only
abbrev pub is_read_only : ℕ → Bool
is_read_only number = bits number 10 2 == 3
