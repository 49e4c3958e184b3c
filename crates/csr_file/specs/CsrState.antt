-- The fields that stand behind the control and status registers.
use Rattle.std.specs.Prelude.{◌≡◌, ℕ, ◌%◌, ◌^◌, ◌<◌, Bool, false}

-- the twelve fields, by their names in the privileged architecture and the CLIC draft
pub record CsrState : Type 0 where
  -- interrupts are enabled; what that was before the trap
  pub mie : Bool
  pub mpie : Bool
  -- where traps go; where the table of vectors begins
  pub mtvec_base : ℕ
  pub mtvt : ℕ
  pub mscratch : ℕ
  -- where the trap came from, whether it was an interrupt, the level before it, its code and its value
  pub mepc : ℕ
  pub interrupt : Bool
  pub mpil : ℕ
  pub exccode : ℕ
  pub mtval : ℕ
  -- the level that runs, and the threshold
  pub mil : ℕ
  pub th : ℕ

-- at reset every field is 0
abbrev pub reset_csrs : CsrState
reset_csrs = record { mie = false; mpie = false; mtvec_base = 0; mtvt = 0; mscratch = 0; mepc = 0; interrupt = false; mpil = 0; exccode = 0; mtval = 0; mil = 0; th = 0 }

-- every field is in its range
pub record IsCsrState (c : CsrState) : Type 0 where
  pub mtvec_base : (c.mtvec_base % 64 ≡ 0) × (c.mtvec_base < 2 ^ 32)
  pub mtvt : (c.mtvt % 64 ≡ 0) × (c.mtvt < 2 ^ 32)
  pub mscratch : c.mscratch < 2 ^ 32
  pub mepc : (c.mepc % 2 ≡ 0) × (c.mepc < 2 ^ 32)
  pub mpil : c.mpil < 256
  pub exccode : c.exccode < 4096
  pub mtval : c.mtval < 2 ^ 32
  pub mil : c.mil < 256
  pub th : c.th < 256
