use Rattle.rvc_encoding.proofs.Apart.{spells_one}
use Rattle.rvc_encoding.proofs.laws.a_half_word_spells_one.Goals as goal

pub returns : goal.returns
returns c = spells_one
