use Rattle.std.proofs.Common.{◌≡◌, None, sym, subst}
use Rattle.hart_memory.specs.Memory.{Memory}
use Rattle.lab_positions.specs.Watching.{first_changed}
use Rattle.lab_positions.proofs.Watches.{changed_self}
use Rattle.lab_positions.proofs.going.watched.Goals as goal

pub returns : goal.returns
returns g c =
    let here = c.args.place.now.position.stand.board.memory in
    subst (λ (m : Memory). first_changed m here c.args.sought.now.watches ≡ None) (sym c.in_ok-banks.ensures) (changed_self here c.args.sought.now.watches)
