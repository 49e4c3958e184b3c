use Rattle.mem_text.proofs.Written.{is_written, is_read_again}
use Rattle.mem_text.proofs.writing.write_mem.Goals as goal

pub returns-clause-is : goal.returns-clause-is
returns-clause-is c = is_written c.text_of.result c.args.image.now c.text_of.ensures.text c.text_of.ensures.sound c.text_of.ensures.bytes

pub returns-clause-again : goal.returns-clause-again
returns-clause-again c = is_read_again c.text_of.result c.args.image.now (returns-clause-is c)
