use Rattle.tool_frame.specs.declared.status.Status.TheVariants.{Usage}
use Rattle.tool_frame.proofs.Ends.{ends_by}
use Rattle.tool_frame.proofs.ending.end_usage.Goals as goal

pub returns : goal.returns
returns g c = ends_by _ Usage c.args.usage.now c.ended.ensures c.put.ensures
