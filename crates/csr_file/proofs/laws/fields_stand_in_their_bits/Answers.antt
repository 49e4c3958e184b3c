use Rattle.csr_file.proofs.Bits.{mstatus_bits, mcause_bits}
use Rattle.csr_file.proofs.laws.fields_stand_in_their_bits.Goals as goal

pub returns : goal.returns
returns c = record { mstatus = mstatus_bits; mcause = mcause_bits }
