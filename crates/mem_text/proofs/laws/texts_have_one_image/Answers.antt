use Rattle.mem_text.proofs.Backward.{one_image}
use Rattle.mem_text.proofs.laws.texts_have_one_image.Goals as goal

pub returns : goal.returns
returns c = λ bytes entry i j g h. one_image entry bytes i j g h
