use Rattle.std.proofs.Common.{sym, subst, ◌∙◌}
use Rattle.lab_positions.specs.Looking.{WatchIsSame}
use Rattle.lab_positions.proofs.Backwards.{back_same, same_told}
use Rattle.lab_positions.proofs.looking.look_once.Goals as goal

pub returns-clause-reason : goal.returns-clause-reason
returns-clause-reason g c =
    c.back_reason.ensures
    ∙ rw (c.changed-other.ensures, c.is_break-here.ensures, c.is_until-until.ensures)
    (back_same g.D.Device.means c.args.timing c.args.events.now.list c.args.sought.now c.args.before.now.present c.step.new.self.position.stand.board.memory c.args.place.now.position c.requires.same)

pub returns-clause-same : goal.returns-clause-same
returns-clause-same g c =
    let after = c.step.new.self.position.stand.board.memory in
    subst (WatchIsSame c.args.sought.now c.args.before.now.present after) (sym c.back_reason.ensures)
    (same_told c.args.sought.now c.args.before.now.present after c.is_break-here.result c.is_until-until.result c.changed-other.result (sym c.changed-other.ensures))
