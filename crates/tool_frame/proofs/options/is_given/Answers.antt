use Rattle.std.proofs.Common.{◌∙◌}
use Rattle.clap.specs.Words.{found_of}
use Rattle.clap.proofs.WalkLemmas.{one_text-rows}
use Rattle.tool_frame.proofs.Found.{flag_read}
use Rattle.tool_frame.proofs.options.is_given.Goals as goal

pub returns : goal.returns
returns c =
    let f = found_of c.args.matches.now in
    c.unwrap_or.ensures ∙ (rw (one_text-rows f c.args.name.now) at (flag_read _ _ c.get_one.result c.get_one.ensures.none c.get_one.ensures.value))
