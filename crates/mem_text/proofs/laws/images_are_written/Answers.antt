use Rattle.mem_text.proofs.Written.{written}
use Rattle.mem_text.proofs.laws.images_are_written.Goals as goal

pub returns : goal.returns
returns c = λ i sound small. written i sound small
