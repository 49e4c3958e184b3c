use Rattle.std.proofs.Common.{◌≡◌, ◌+◌, ◌-◌, ◌*◌, ◌^◌, ◌<◌, ◌≤◌, ◌++◌}
use Rattle.clic_regs.specs.Shape.{plain_shape}
use Rattle.hart_board.specs.Event.{last_count}
use Rattle.tool_work.specs.GenEvents.{pulses_from}
use Rattle.tool_work.proofs.gen_events.generated_events.Given as goal

-- the events so far and the pulses that are left are the events of all pulses
abbrev pub invariant-loop-e : goal.invariant-loop-e
invariant-loop-e l =
    (l.events.shape ≡ plain_shape)
    × (l.events.list ++ pulses_from (l.number - l.e) l.e l.x ≡ pulses_from l.number 0 l.number)
    × (last_count 0 l.events.list ≤ 30 + 8 * l.e)
    × (l.x < 2 ^ 32)
