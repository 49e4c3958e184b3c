use Rattle.chain_lint.proofs.PairWords.{word_told, word_again}
use Rattle.chain_lint.proofs.laws.words_spell_pairs.Goals as goal

pub returns : goal.returns
returns c = λ word ps. (word_told word ps, word_again word ps)
