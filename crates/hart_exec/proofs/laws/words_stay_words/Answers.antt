use Rattle.hart_exec.proofs.Words.{effect_has_word, extended-lt}
use Rattle.hart_exec.proofs.laws.words_stay_words.Goals as goal

pub returns-clause-values : goal.returns-clause-values
returns-clause-values c = effect_has_word

pub returns-clause-loads : goal.returns-clause-loads
returns-clause-loads c = extended-lt
