use Rattle.std.proofs.Common.{◌∙◌, ◌++◌, codes}
use Rattle.board_outside.proofs.Writing.{then_writes, stops_writing}
use Rattle.hart_report.proofs.Texts.{stopped}
use Rattle.lab_check.specs.Lines.{place_text}
use Rattle.lab_check.proofs.LinesLeft.{as_text}
use Rattle.lab_check.proofs.lines.put_refused.Goals as goal

pub returns-in_err-put : goal.returns-in_err-put
returns-in_err-put g c =
    stopped c.from_residual.result c.from_residual.ensures.0 (stops_writing (place_text c.args.names.now c.args.at ++ codes "\n") (as_text (c.bytes.ensures.bytes ∙ c.no_start.ensures) c.in_err-put.ensures))

pub returns-in_err-put_place : goal.returns-in_err-put_place
returns-in_err-put_place g c =
    stopped c.from_residual-in_err-put_place.result c.from_residual-in_err-put_place.ensures.0 (then_writes (as_text (c.bytes.ensures.bytes ∙ c.no_start.ensures) c.in_ok-put.ensures) (stops_writing (codes "\n") c.in_err-put_place.ensures))

pub returns : goal.returns
returns g c = then_writes (as_text (c.bytes.ensures.bytes ∙ c.no_start.ensures) c.in_ok-put.ensures) (then_writes c.in_ok-put_place.ensures c.put-2.ensures)
