use Rattle.hart_report.proofs.Rows.{ram_held, ram_byte_is}
use Rattle.hart_report.proofs.contents.ram_byte.Goals as goal

pub byte-requires : goal.byte-requires
byte-requires c = ram_held c.args.k c.requires

pub returns : goal.returns
returns c = ram_byte_is c.args.banks.now.present c.args.k c.byte.result c.banks_are_whole.ensures.ram_len c.requires c.byte.ensures
