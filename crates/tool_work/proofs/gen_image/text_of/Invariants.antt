use Rattle.std.proofs.Common.{◌≡◌, ◌++◌, drop}
use Rattle.chain_moves.specs.Start.{words_bytes}
use Rattle.tool_work.proofs.gen_image.text_of.Given as goal

-- the bytes so far and those of the words that are left are the bytes of all
abbrev pub invariant-loop-word : goal.invariant-loop-word
invariant-loop-word l = l.text ++ words_bytes (drop l.word-index l.words) ≡ words_bytes l.words
