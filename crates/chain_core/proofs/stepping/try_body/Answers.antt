use Rattle.chain_core.proofs.Told.{tried_course}
use Rattle.chain_core.proofs.stepping.try_body.Goals as goal

pub settle_tried-requires-clause-course : goal.settle_tried-requires-clause-course
settle_tried-requires-clause-course g c = tried_course g.D.Device.means c.args.events.now c.args.board.now c.args.course.now _ c.try_prepared-told.ensures c.requires.course

pub returns-clause-tells : goal.returns-clause-tells
returns-clause-tells g c = c.settle_tried.ensures.tells c.args.board.now c.try_prepared-told.ensures
