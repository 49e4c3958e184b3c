use Rattle.std.proofs.Common.{ap, sym, ◌∙◌}
use Rattle.hart_monitor.specs.Breaks.{is_break}
use Rattle.hart_monitor.proofs.Stops.{stops_break, goes_on}
use Rattle.hart_monitor.proofs.going.run_until.Goals as goal

pub returns-then-contains : goal.returns-then-contains
returns-then-contains g c =
    let here = ap (λ pc. is_break pc c.args.breaks.now) (sym c.pc.ensures.value) ∙ sym c.contains.ensures ∙ c.if-contains.true in
    sym (stops_break g.D.Device.means c.args.breaks.now c.args.count c.loop.counter c.loop.board c.step.new.self c.step.result c.loop-test.true c.step.ensures c.in_default.not-VectorFault (sym c.in_default-halted.ensures) here) ∙ c.loop.invariant

pub loop-preserved : goal.loop-preserved
loop-preserved g c =
    let other = ap (λ pc. is_break pc c.args.breaks.now) (sym c.pc.ensures.value) ∙ sym c.contains.ensures ∙ c.if-contains.false in
    sym (goes_on g.D.Device.means c.args.breaks.now c.args.count c.loop.counter c.loop.board c.step.new.self c.step.result c.loop-test.true c.step.ensures c.in_default.not-VectorFault (sym c.in_default-halted.ensures) other) ∙ c.loop.invariant
