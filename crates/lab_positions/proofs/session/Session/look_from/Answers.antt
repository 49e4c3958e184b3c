use Rattle.std.proofs.Common.{arith}
use Rattle.lab_positions.proofs.Times.{at_most}
use Rattle.lab_positions.proofs.session.Session.look_from.Goals as goal

pub look-requires-clause-room : goal.look-requires-clause-room
look-requires-clause-room g c =
    let s = c.args.self.now in
    omega (arith, c.requires.room, at_most g.D.Device.means s.timing s.events.list s.base c.in_ok-place.place.position c.args.low c.requires.low c.in_ok-place.ensures.position)
