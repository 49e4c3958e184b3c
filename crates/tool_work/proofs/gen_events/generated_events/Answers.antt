use Rattle.std.proofs.Common.{◌≡◌, ◌∙◌, ◌++◌, List, ap, ap₂, arith}
use Rattle.clic_regs.specs.Shape.{ClicShape}
use Rattle.hart_board.specs.Event.{EventList}
use Rattle.hart_board.specs.declared.event.Event.{Event}
use Rattle.tool_work.specs.GenEvents.{next_number, pulse, pulses_from, gen_events}
use Rattle.tool_work.proofs.Pulses.{one_pulse, no_pulse}
use Rattle.tool_work.proofs.gen_events.generated_events.Goals as goal

pub loop-e-preserved : goal.loop-e-preserved
loop-e-preserved c =
    let i = c.loop-e.invariant in
    let pushed = c.in_ok-push_pulse.ensures.pushed in
    let more : c.push_pulse.new.events.list ≡ c.loop-e.events.list ++ pulse c.loop-e.e (next_number c.loop-e.x) = ap (λ (es : EventList). es.list) pushed ∙ ap (λ x. c.loop-e.events.list ++ pulse c.loop-e.e x) c.next_number-x.ensures.value in (
      ap (λ (es : EventList). es.shape) pushed ∙ i.0,
      rw c.next_number-x.ensures.value (one_pulse c.args.number c.loop-e.e c.loop-e.x c.loop-e.events.list c.push_pulse.new.events.list (pulses_from c.args.number 0 c.args.number) (omega (arith, c.loop-e-test.true, c.from-e-end.ensures)) more i.1),
      c.in_ok-push_pulse.ensures.order,
      c.next_number-x.ensures.word,
    )

pub returns : goal.returns
unfolding gen_events
returns c =
    let i = c.loop-e.invariant in
    ap₂ (λ (s : ClicShape) (l : List Event). record { shape = s; list = l }) i.0 (no_pulse c.args.number c.loop-e.e c.loop-e.x c.loop-e.events.list (pulses_from c.args.number 0 c.args.number) (omega (arith, c.loop-e-test.false, c.from-e-end.ensures)) i.1)
