use Rattle.std.proofs.Common.{◌∙◌, ◌++◌, codes}
use Rattle.board_outside.proofs.Writing.{then_writes, stops_writing}
use Rattle.hart_report.proofs.Texts.{stopped}
use Rattle.lab_check.specs.Lines.{answer_line, answer_text, handler_text}
use Rattle.lab_check.proofs.LinesLeft.{as_text}
use Rattle.lab_check.proofs.lines.put_line.Goals as goal

pub returns-in_err-put : goal.returns-in_err-put
unfolding answer_line
returns-in_err-put g c =
    stopped c.from_residual.result c.from_residual.ensures.0
    (stops_writing (handler_text c.args.names.now c.args.handler ++ (codes " " ++ answer_text c.args.names.now c.args.answer)) (as_text (c.bytes.ensures.bytes ∙ c.pair_start.ensures) c.in_err-put.ensures))

pub returns-in_err-put_handler : goal.returns-in_err-put_handler
unfolding answer_line
returns-in_err-put_handler g c =
    stopped c.from_residual-in_err-put_handler.result c.from_residual-in_err-put_handler.ensures.0
    (then_writes (as_text (c.bytes.ensures.bytes ∙ c.pair_start.ensures) c.in_ok-put.ensures) (stops_writing (codes " " ++ answer_text c.args.names.now c.args.answer) c.in_err-put_handler.ensures))

pub returns-in_err-put-2 : goal.returns-in_err-put-2
unfolding answer_line
returns-in_err-put-2 g c =
    stopped c.from_residual-in_err-put-2.result c.from_residual-in_err-put-2.ensures.0
    (then_writes (as_text (c.bytes.ensures.bytes ∙ c.pair_start.ensures) c.in_ok-put.ensures) (then_writes c.in_ok-put_handler.ensures (stops_writing (answer_text c.args.names.now c.args.answer) c.in_err-put-2.ensures)))

pub returns : goal.returns
unfolding answer_line
returns g c = then_writes (as_text (c.bytes.ensures.bytes ∙ c.pair_start.ensures) c.in_ok-put.ensures) (then_writes c.in_ok-put_handler.ensures (then_writes c.in_ok-put-2.ensures c.put_answer.ensures))
