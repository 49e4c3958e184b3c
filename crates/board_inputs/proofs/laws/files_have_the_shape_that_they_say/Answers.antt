use Rattle.board_inputs.proofs.Openings.{shaped_file, plain_file, empty_file}
use Rattle.board_inputs.proofs.laws.files_have_the_shape_that_they_say.Goals as goal

pub returns : goal.returns
returns c = record { said = shaped_file; plain = plain_file; empty = empty_file }
