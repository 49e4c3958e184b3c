use Rattle.chain_flow.specs.Walk.{UsesLittle}
use Rattle.chain_search.specs.Answer.{IsAnswer}
use Rattle.chain_search.proofs.certifying.certify_code.Given as goal

-- the latest answer is one
abbrev pub invariant-loop-i : goal.invariant-loop-i
invariant-loop-i l = IsAnswer l.code.present.rom l.handler l.region l.answer × UsesLittle l.answer
