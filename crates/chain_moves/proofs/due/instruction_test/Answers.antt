use Rattle.std.proofs.Common.{◌∙◌}
use Rattle.chain_moves.proofs.Opened.{judged_left, judged_plain, prepared_bytes}
use Rattle.chain_moves.proofs.due.instruction_test.Goals as goal

pub access_test-requires : goal.access_test-requires
access_test-requires g c = prepared_bytes c.args.board.now c.args.prepared.now c.requires

pub returns-in-System : goal.returns-in-System
returns-in-System g c = judged_left c.args.board.now c.args.watch.now c.args.prepared.now c.requires c.system_test.result c.in-System.is (c.system_test.ensures c.requires.ins c.requires.stands)

pub returns-in_default : goal.returns-in_default
returns-in_default g c = c.access_test.ensures ∙ judged_plain c.args.board.now c.args.watch.now c.args.prepared.now c.requires c.in_default.not-System
