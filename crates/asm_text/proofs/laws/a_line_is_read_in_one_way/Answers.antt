use Rattle.asm_text.proofs.OneWay.{read_one_way}
use Rattle.asm_text.proofs.laws.a_line_is_read_in_one_way.Goals as goal

pub returns : goal.returns
returns c = read_one_way
