use Rattle.std.proofs.Common.{◌≡◌, ◌∙◌, sym}
use Rattle.tool_frame.specs.Plan.{Makes}
use Rattle.tool_frame.proofs.Ends.{makes}
use Rattle.tool_work.specs.Chain.{taken_at, unless_taken}
use Rattle.tool_work.proofs.ChainEnds.{taken_ends, free_ends}
use Rattle.lab_words.specs.Sweep.{view_sweep}
use Rattle.lab_work.specs.Sweep.{has_event, sweep_due}
use Rattle.lab_work.proofs.SweepEnds.{no_event, with_event}
use Rattle.lab_work.proofs.sweeping.sweep_event.Goals as goal

pub sweep_image-requires-clause-event : goal.sweep_image-requires-clause-event
sweep_image-requires-clause-event g c = sym c.has_event.ensures ∙ c.if-not-has_event.false

pub returns-then-not-has_event : goal.returns-then-not-has_event
returns-then-not-has_event g c = λ shelf.
    no_event tt (has_event c.args.order.now.event c.args.events.now) c.args.events.now (unless_taken (taken_at c.args.image.now) (Makes (sweep_due (view_sweep c.args.order.now) c.args.image.now c.args.events.now) tt)) shelf
    (sym c.has_event.ensures ∙ c.if-not-has_event.true) c.line_of_no_event.ensures c.end_refused.ensures

pub returns-in-Some : goal.returns-in-Some
returns-in-Some g c = λ shelf.
    with_event tt (has_event c.args.order.now.event c.args.events.now) c.args.events.now (unless_taken (taken_at c.args.image.now) (Makes (sweep_due (view_sweep c.args.order.now) c.args.image.now c.args.events.now) tt))
    (sym c.has_event.ensures ∙ c.if-not-has_event.false)
    (taken_ends tt c.args.image.now c.in-Some.at (Makes (sweep_due (view_sweep c.args.order.now) c.args.image.now c.args.events.now) tt) shelf c.in-Some.ensures c.line_of_slot.ensures c.end_refused-in-Some.ensures)

pub returns-in-None : goal.returns-in-None
returns-in-None g c = λ shelf.
    with_event tt (has_event c.args.order.now.event c.args.events.now) c.args.events.now (unless_taken (taken_at c.args.image.now) (Makes (sweep_due (view_sweep c.args.order.now) c.args.image.now c.args.events.now) tt))
    (sym c.has_event.ensures ∙ c.if-not-has_event.false)
    (free_ends tt c.args.image.now (Makes (sweep_due (view_sweep c.args.order.now) c.args.image.now c.args.events.now) tt) c.in-None.ensures
    (makes tt {due = sweep_due (view_sweep c.args.order.now) c.args.image.now c.args.events.now} shelf c.sweep_image.ensures))
