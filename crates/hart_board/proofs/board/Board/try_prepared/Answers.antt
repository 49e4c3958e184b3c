use Rattle.std.proofs.Common.{sym, ap, ◌∙◌}
use Rattle.hart_board.specs.State.{State}
use Rattle.hart_report.specs.declared.stepped.Stepped.TheVariants.{Retired, Raised}
use Rattle.hart_board.proofs.Still.{tried_retires, tried_raises}
use Rattle.hart_board.proofs.board.Board.try_prepared.Goals as goal

pub returns-in-Ok : goal.returns-in-Ok
returns-in-Ok g c =
    let p = c.args.prepared.now in
    ap (λ (s : State). record { told = Retired s.pc p.encoding.bits p.encoding.length; state = c.perform.new.self }) c.self.view_is
    ∙ sym (tried_retires g.D.Device.means c.args.self.now (p.encoding, c.perform.new.self) c.requires.runs c.requires.calm c.in-Ok.ensures.answer)

pub returns-in-Err : goal.returns-in-Err
returns-in-Err g c =
    let trap = c.in-Err.trap in
    ap (λ (s : State). record { told = Raised s.pc trap.code; state = c.perform.new.self }) c.self.view_is
    ∙ ap (λ (s : State). record { told = Raised c.args.self.now.pc trap.code; state = s }) c.in-Err.ensures.kept
    ∙ sym (tried_raises g.D.Device.means c.args.self.now trap c.requires.runs c.requires.calm c.in-Err.ensures.answer)
