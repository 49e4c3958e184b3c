use Rattle.mem_text.proofs.Forward.{is_text}
use Rattle.mem_text.proofs.Backward.{text_is_read}
use Rattle.mem_text.proofs.Soundness.{text_is_sound}
use Rattle.mem_text.proofs.laws.memory_texts_are_read.Goals as goal

pub returns : goal.returns
returns c = λ bytes entry i. (λ e. is_text entry bytes i (text_is_sound entry bytes i e) e, λ h. text_is_read entry bytes i h)
