use Rattle.chain_core.specs.Progress.{progress_of}
use Rattle.chain_core.proofs.Told.{body_settled}
use Rattle.chain_core.proofs.stepping.settle_body.Goals as goal

pub returns-then-trace-clause-progress : goal.returns-then-trace-clause-progress
returns-then-trace-clause-progress g c = λ start. body_settled (progress_of start c.args.course.now) _ c.args.told.now c.arrive.new.board c.arrive.new.course c.requires.body c.arrive.ensures.stand c.arrive.ensures.kept.0 c.arrive.ensures.kept.1
