use Rattle.std.proofs.Common.{◌≡◌, ◌++◌, drop}
use Rattle.lab_packets.specs.Answers.{words_digits}
use Rattle.lab_packets.proofs.answers.put_words.Given as goal

abbrev pub invariant-loop-word : goal.invariant-loop-word
invariant-loop-word l = l.text ++ words_digits (drop l.word-index l.words) ≡ l.initial.text ++ words_digits l.words
