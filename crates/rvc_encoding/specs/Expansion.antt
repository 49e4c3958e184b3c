-- What compressed instructions stand for.
use Rattle.rv_encoding.specs.declared.instruction.Ins.{Ins}
use Rattle.rvc_encoding.specs.declared.compressed.Cins.{Cins}
use Rattle.rvc_encoding.specs.Rows.{row_of}

-- the 32-bit instruction that does the same
unfoldable pub expansion : Cins → Ins
expansion c = (row_of c.row).expands c.a c.b c.imm
