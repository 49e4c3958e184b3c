use Rattle.asm_fields.proofs.Names.{token_is_utf8}
use Rattle.asm_fields.proofs.reading.name_text.Goals as goal

pub returns-in-Err : goal.returns-in-Err
returns-in-Err c = absurd (c.in-Err.ensures.cases.0 (token_is_utf8 c.args.line.now c.args.token c.requires.token c.requires.name))
