use Rattle.std.proofs.Common.{◌≡◌, ◌∙◌, ◌+◌, ◌*◌, ◌/◌, ◌%◌, true, false, ap, arith}
use Rattle.hart_board.specs.Event.{EventList, last_count}
use Rattle.hart_board.specs.declared.what.What.TheVariants.{Line}
use Rattle.tool_work.proofs.Pulses.{last_added}
use Rattle.tool_work.proofs.gen_events.push_pulse.Goals as goal

pub push-requires-2-clause-order : goal.push-requires-2-clause-order
push-requires-2-clause-order c =
    let last : last_count 0 c.push.new.self.list ≡ 30 + 8 * c.args.e + c.args.x / 16777216 % 8 =
    ap (λ (es : EventList). last_count 0 es.list) c.in_ok-push.ensures.ok ∙ last_added 0 c.args.events.now.list (record { at = 30 + 8 * c.args.e + c.args.x / 16777216 % 8; what = Line c.pulse_input-input.result true }) in
    omega (arith, last)

pub returns-clause-order : goal.returns-clause-order
returns-clause-order c =
    let last : last_count 0 c.push-2.new.self.list ≡ 30 + 8 * c.args.e + c.args.x / 16777216 % 8 =
    ap (λ (es : EventList). last_count 0 es.list) c.in_ok-push-2.ensures.ok ∙ last_added 0 c.push.new.self.list (record { at = 30 + 8 * c.args.e + c.args.x / 16777216 % 8; what = Line c.pulse_input-input.result false }) in
    omega (arith, last)
