use Rattle.std.proofs.Common.{true, false}
use Rattle.hart_report.proofs.Texts.{stopped}
use Rattle.board_outside.proofs.Writing.{then_writes, stops_writing, writes_nothing}
use Rattle.lab_trace.specs.Named.{named_text}
use Rattle.lab_trace.proofs.Back.{piece_first}
use Rattle.lab_trace.proofs.naming.put_named_text.Goals as goal

pub returns-in_err-put_piece : goal.returns-in_err-put_piece
unfolding named_text
returns-in_err-put_piece g c =
    stopped c.from_residual.result c.from_residual.ensures.0
    (c.loop-rest.invariant false _ (rw (c.in-Some.is, piece_first c.args.names.now c.in-Some.text.now c.cut_line.result.0.now c.cut_line.result.1 c.is_some.result c.address_behind.result c.is_some.ensures c.address_behind.ensures c.cut_line.ensures.lines) (stops_writing _ c.in_err-put_piece.ensures)))

pub loop-rest-preserved : goal.loop-rest-preserved
loop-rest-preserved g c r n later =
    c.loop-rest.invariant r n (rw (c.in-Some.is, piece_first c.args.names.now c.in-Some.text.now c.cut_line.result.0.now c.cut_line.result.1 c.is_some.result c.address_behind.result c.is_some.ensures c.address_behind.ensures c.cut_line.ensures.lines) (then_writes c.in_ok-put_piece.ensures later))

pub returns : goal.returns
unfolding named_text
returns g c = c.loop-rest.invariant true _ (rw c.in_default.is (writes_nothing _))
