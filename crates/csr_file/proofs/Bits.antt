-- The fields of mstatus and of mcause, cut out of their words.
use Rattle.std.proofs.Common.{◌≡◌, ◌<◌, Bool, true, false, refl, arith}
use Rattle.csr_file.specs.CsrState.{CsrState, IsCsrState}
use Rattle.csr_file.specs.Views.{bit, mstatus, mcause, IsMstatus, IsMcause}

mstatus_by : (c : CsrState) (mie mpie : Bool) → c.mie ≡ mie → c.mpie ≡ mpie → IsMstatus c (mstatus c)
mstatus_by c true true h k = grind arith
mstatus_by c true false h k = grind arith
mstatus_by c false true h k = grind arith
mstatus_by c false false h k = grind arith

pub mstatus_bits : (c : CsrState) → IsMstatus c (mstatus c)
mstatus_bits c = mstatus_by c c.mie c.mpie refl refl

-- a bit as a number is 0 or 1
pub bit-lt : (b : Bool) → bit b < 2
bit-lt true = omega arith
bit-lt false = omega arith

pub mcause_bits : (c : CsrState) → IsCsrState c → IsMcause c (mcause c)
mcause_bits c h =
    let i : bit c.interrupt < 2 = bit-lt c.interrupt in
    let p : bit c.mpie < 2 = bit-lt c.mpie in
    record {
      interrupt = omega arith;
      mpp = omega arith;
      mpie = omega arith;
      mpil = omega arith;
      exccode = omega arith;
      others = (omega arith, omega arith, omega arith, omega arith);
    }
