use Rattle.std.proofs.Common.{◌∙◌}
use Rattle.clap.specs.Words.{found_of}
use Rattle.clap.proofs.WalkLemmas.{first_value-rows}
use Rattle.tool_frame.proofs.options.text_if_given.Goals as goal

pub returns : goal.returns
returns c =
    let f = found_of c.args.matches.now in
    c.get_str.ensures ∙ first_value-rows f c.args.name.now
