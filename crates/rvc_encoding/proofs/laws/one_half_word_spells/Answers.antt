use Rattle.std.proofs.Common.{◌∙◌, sym}
use Rattle.rvc_encoding.proofs.Again.{half-spells}
use Rattle.rvc_encoding.proofs.laws.one_half_word_spells.Goals as goal

pub returns : goal.returns
returns c = λ g h i small_g small_h p q. sym (half-spells g i small_g p) ∙ half-spells h i small_h q
