use Rattle.std.proofs.Common.{subst, arith}
use Rattle.board_inputs.specs.ImageReading.{Gives}
use Rattle.board_inputs.proofs.ImageAgain.{image_again}
use Rattle.board_inputs.proofs.ImageFound.{is_found}
use Rattle.board_inputs.proofs.image_reading.read_image.Goals as goal

pub returns-clause-found : goal.returns-clause-found
returns-clause-found c = is_found c.args.bytes.now c.image_in.result (λ i. omega (arith, c.type_inv.bytes i)) c.image_in.ensures

pub returns-clause-only : goal.returns-clause-only
returns-clause-only c = λ i h. subst (λ f. Gives (λ i. i) c.image_in.result f) (image_again i c.args.bytes.now h) c.image_in.ensures
