use Rattle.std.proofs.lemmas.Result.{err_from_is_err_and}
use Rattle.hart_monitor.specs.Session.{Session}
use Rattle.hart_monitor.proofs.Commands.{stands_first, stands_next, stops_here, front_at}
use Rattle.hart_monitor.proofs.Plain.{plain_in, fault_plain}
use Rattle.hart_monitor.proofs.monitoring.monitor.Goals as goal

pub loop-i-init : goal.loop-i-init
loop-i-init g c = stands_first g.D.Device.means c.args.script.now c.args.board.now c.new-breaks.result (g.W.Sink.told c.args.out.now) c.new-breaks.ensures (plain_in c.args.board.now c.requires c.kept.ensures.shape)

pub loop-i-preserved : goal.loop-i-preserved
loop-i-preserved g c =
    let now : Session = record { board = c.loop-i.board; breaks = c.loop-i.breaks } in
    let next : Session = record { board = c.obey.new.board; breaks = c.obey.new.breaks } in
    stands_next g.D.Device.means c.kept_states_stay.ensures.step c.args.script.now c.args.board.now c.loop-i.i c.get.result now next _ _ _ c.in_ok-obey.field-0 c.get.ensures.command c.loop-i.invariant c.in_ok-obey.ensures

pub returns-in_err-obey-clause-stops : goal.returns-in_err-obey-clause-stops
returns-in_err-obey-clause-stops g c =
    let now : Session = record { board = c.loop-i.board; breaks = c.loop-i.breaks } in
    let next : Session = record { board = c.obey.new.board; breaks = c.obey.new.breaks } in
    let p = err_from_is_err_and c.from_residual.result c.from_residual.ensures.1 in
    rw (p.1, p.2) (stops_here g.D.Device.means c.args.script.now c.args.board.now c.loop-i.i c.get.result c.in_err-obey.field-0.0 now next _ (g.W.Sink.told c.loop-i.out) _ c.get.ensures.command c.loop-i.invariant c.in_err-obey.ensures)

pub returns-in_err-obey-clause-front : goal.returns-in_err-obey-clause-front
returns-in_err-obey-clause-front g c =
    let now : Session = record { board = c.loop-i.board; breaks = c.loop-i.breaks } in
    let next : Session = record { board = c.obey.new.board; breaks = c.obey.new.breaks } in
    let p = err_from_is_err_and c.from_residual.result c.from_residual.ensures.1 in
    rw (p.1, p.2) (front_at g.D.Device.means c.args.script.now c.args.board.now c.loop-i.i c.get.result c.in_err-obey.field-0.0 now next _ (g.W.Sink.told c.loop-i.out) _ c.get.ensures.command c.loop-i.invariant c.in_err-obey.ensures)

pub returns-in_err-obey-clause-shape : goal.returns-in_err-obey-clause-shape
returns-in_err-obey-clause-shape g c =
    let now : Session = record { board = c.loop-i.board; breaks = c.loop-i.breaks } in
    let next : Session = record { board = c.obey.new.board; breaks = c.obey.new.breaks } in
    (fault_plain g.D.Device.means c.kept_states_stay.ensures.step c.get.result c.in_err-obey.field-0.0 now next _ _ c.loop-i.invariant.plain c.in_err-obey.ensures).present

pub returns-clause-shape : goal.returns-clause-shape
returns-clause-shape g c = c.loop-i.invariant.plain.present
