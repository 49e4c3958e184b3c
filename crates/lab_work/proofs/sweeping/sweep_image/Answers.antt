use Rattle.std.proofs.Common.{ap, ◌∙◌, inl}
use Rattle.std.specs.Prelude.{is_ok}
use Rattle.hart_board.specs.State.{State}
use Rattle.lab_words.specs.Sweep.{view_sweep}
use Rattle.lab_work.specs.Sweep.{Made, sweep_made}
use Rattle.lab_work.proofs.SweepEnds.{made_is, rows_end}
use Rattle.tool_work.specs.Shipped.{shipped_meanings}
use Rattle.tool_work.proofs.InShape.{shipped_level}
use Rattle.lab_work.proofs.sweeping.sweep_image.Goals as goal

pub sweep_counts-requires-clause-level : goal.sweep_counts-requires-clause-level
sweep_counts-requires-clause-level g c = ap (λ (s : State). s.csrs.mil) c.in-Ok.ensures.board ∙ shipped_level c.args.events.now.shape

pub sweep_counts-requires-clause-last : goal.sweep_counts-requires-clause-last
sweep_counts-requires-clause-last g c = c.sweep_of.ensures.last

pub returns-in-Ok-sweep_counts : goal.returns-in-Ok-sweep_counts
unfolding shipped_meanings
returns-in-Ok-sweep_counts g c =
    let swept = c.in-Ok-sweep_counts.swept in
    let made : Made = record { rows = swept.outcomes; broken = swept.broken; spent = swept.spent } in
    let all = c.in-Ok-sweep_counts.ensures in
    inl (rows_end (is_ok c.put_outcomes.result) made (sweep_made (view_sweep c.args.order.now) c.args.image.now c.args.events.now)
    (made_is (view_sweep c.args.order.now) c.args.image.now c.args.events.now c.sweep_of.result c.in-Ok.board made c.sweep_of.ensures.is c.in-Ok.ensures.board all.outcomes all.broken all.spent)
    c.status_of.ensures c.ended.ensures c.put_outcomes.ensures)
