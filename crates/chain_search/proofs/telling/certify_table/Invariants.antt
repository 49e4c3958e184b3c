use Rattle.std.proofs.Common.{take}
use Rattle.chain_search.specs.Tables.{WereCertified, AreAnswersBy}
use Rattle.chain_search.proofs.telling.certify_table.Given as goal

-- the pairs so far have their answers, by the handlers that were accepted
abbrev pub invariant-loop-i : goal.invariant-loop-i
invariant-loop-i l = AreAnswersBy l.code.present.rom l.region l.accepted.items l.table (take l.i l.pairs) l.answers.items × WereCertified l.code.present.rom l.region l.accepted.items
