use Rattle.std.proofs.Common.{arith, length}
use Rattle.board_inputs.proofs.Segments.{is_near}
use Rattle.board_inputs.proofs.Placing.{each_held}
use Rattle.chain_lint.proofs.code.place_bytes.Goals as goal

pub overflow_cast-i : goal.overflow_cast-i
overflow_cast-i c = omega (arith, is_near c.args.at (length c.args.bytes.now) c.requires, c.loop-i-test.true)

pub overflow_add-at : goal.overflow_add-at
overflow_add-at c = omega (arith, is_near c.args.at (length c.args.bytes.now) c.requires, c.loop-i-test.true)

pub place-requires : goal.place-requires
place-requires c = each_held c.args.at (length c.args.bytes.now) c.loop-i.i c.requires c.loop-i-test.true
