-- The fields that `Clic` keeps.
use Rattle.clic_regs.specs.ClicState.{ClicState}
use Rattle.clic_regs.specs.declared.clic.Clic.TheInside.{Inside}

-- the fields, as contracts see them
abbrev pub fields : Inside → ClicState
fields c = record { shape = c.shape; nlbits = c.nlbits; line = c.line.items; pending = c.pending.items; enable = c.enable.items; attribute = c.attribute.items; control = c.control.items }
