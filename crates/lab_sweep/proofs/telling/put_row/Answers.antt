use Rattle.std.proofs.Common.{is_ok}
use Rattle.hart_report.proofs.Texts.{stopped}
use Rattle.lab_sweep.specs.Sweep.{Row}
use Rattle.lab_sweep.proofs.Told.{row_first, row_second, row_third}
use Rattle.lab_sweep.proofs.telling.put_row.Goals as goal

pub returns-in_err-put_tally : goal.returns-in_err-put_tally
returns-in_err-put_tally g c =
    let row : Row = record { outcome = c.args.outcome.now; counts = c.args.tally.counts; first = c.args.tally.first } in
    stopped c.from_residual.result c.from_residual.ensures.0 (row_first row _ _ c.in_err-put_tally.ensures)

pub returns-in_err-put : goal.returns-in_err-put
returns-in_err-put g c =
    let row : Row = record { outcome = c.args.outcome.now; counts = c.args.tally.counts; first = c.args.tally.first } in
    stopped c.from_residual-in_err-put.result c.from_residual-in_err-put.ensures.0 (row_second row _ _ _ c.in_ok-put_tally.ensures c.in_err-put.ensures)

pub returns : goal.returns
returns g c =
    let row : Row = record { outcome = c.args.outcome.now; counts = c.args.tally.counts; first = c.args.tally.first } in
    row_third (is_ok c.put-2.result) row _ _ _ _ c.in_ok-put_tally.ensures c.in_ok-put.ensures c.put-2.ensures
