use Rattle.board_inputs.proofs.ImageAgain.{written_is_file, file_is_read}
use Rattle.board_inputs.proofs.image_writing.write_image.Goals as goal

pub returns-clause-file : goal.returns-clause-file
returns-clause-file c = written_is_file c.args.image.now c.text_of.result c.text_of.ensures.entry c.text_of.ensures.sound c.text_of.ensures.text

pub returns-clause-again : goal.returns-clause-again
returns-clause-again c = file_is_read c.args.image.now c.text_of.result (returns-clause-file c)
