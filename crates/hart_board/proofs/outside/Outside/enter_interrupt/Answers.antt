use Rattle.std.proofs.Common.{◌∙◌, ap}
use Rattle.clic_trap.specs.Entry.{Entry}
use Rattle.hart_board.specs.State.{Outside}
use Rattle.hart_board.proofs.Shapes.{entry_shape}
use Rattle.hart_board.proofs.outside.Outside.enter_interrupt.Goals as goal

pub returns-clause-shape : goal.returns-clause-shape
returns-clause-shape g c =
    ap (λ (e : Entry). e.clic.shape) c.enter_interrupt.ensures.outcome
    ∙ entry_shape c.args.csrs.now c.self.inside.select c.args.banks.now.present c.args.choice c.args.pc
    ∙ ap (λ (o : Outside). o.clic.shape) c.self.view_is
