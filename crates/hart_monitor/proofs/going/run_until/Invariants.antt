use Rattle.std.proofs.Common.{◌≡◌, ◌-◌}
use Rattle.hart_monitor.specs.Stopping.{stops_in}
use Rattle.hart_monitor.proofs.going.run_until.Given as goal

-- the steps that are left lead where all lead
abbrev pub invariant-loop : goal.invariant-loop
invariant-loop g l = stops_in g.D.Device.means l.breaks (l.count - l.counter) l.board ≡ stops_in g.D.Device.means l.breaks l.count l.fn.board
