use Rattle.std.proofs.Common.{sym, ◌∙◌}
use Rattle.chain_moves.proofs.Opened.{prepared_bytes}
use Rattle.chain_direct.proofs.OpenTests.{judged_prepared}
use Rattle.chain_direct.proofs.direct_judging.judge_prepared.Goals as goal

pub judge_instruction-requires : goal.judge_instruction-requires
judge_instruction-requires g c = prepared_bytes c.args.board.now c.args.prepared.now c.requires

pub returns : goal.returns
returns g c = judged_prepared c.args.board.now c.args.watch.now c.args.prepared.now c.judge_instruction.result c.in-Some.ins c.requires (sym c.in-Some.is ∙ c.instruction_of.ensures) (c.judge_instruction.ensures c.args.board.now)
