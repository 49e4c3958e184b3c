use Rattle.std.proofs.Common.{sym, ◌∙◌}
use Rattle.chain_moves.proofs.Opened.{leaves_some, leaves}
use Rattle.chain_moves.proofs.due.judge_leave.Goals as goal

pub judge_return-requires : goal.judge_return-requires
judge_return-requires g c = leaves_some c.args.d c.args.board.now c.args.watch.now c.requires.calm c.requires.other

pub returns : goal.returns
returns g c = c.judge_return.ensures ∙ sym (leaves c.args.d c.args.board.now c.args.watch.now c.requires.calm c.requires.other)
