-- The fields that `Csrs` keeps.
use Rattle.csr_file.specs.CsrState.{CsrState}
use Rattle.csr_file.specs.declared.csrs.Csrs.TheInside.{Inside}

-- the fields, as contracts see them
abbrev pub fields : Inside → CsrState
fields c = record { mie = c.mie; mpie = c.mpie; mtvec_base = c.mtvec_base; mtvt = c.mtvt; mscratch = c.mscratch; mepc = c.mepc; interrupt = c.interrupt; mpil = c.mpil; exccode = c.exccode; mtval = c.mtval; mil = c.mil; th = c.th }
