use Rattle.chain_time.proofs.TripleWords.{word_told, word_again}
use Rattle.chain_time.proofs.laws.words_spell_triples.Goals as goal

pub returns : goal.returns
returns c = λ word qs. (word_told word qs, word_again word qs)
