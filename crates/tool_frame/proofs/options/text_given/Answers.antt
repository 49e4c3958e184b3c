use Rattle.std.proofs.Common.{◌∙◌, ap, ℕ, List}
use Rattle.std.specs.Borrow.{Bor}
use Rattle.clap.specs.Words.{found_of}
use Rattle.clap.proofs.WalkLemmas.{first_value-rows}
use Rattle.tool_frame.proofs.Found.{text_or}
use Rattle.tool_frame.proofs.options.text_given.Goals as goal

pub returns : goal.returns
returns c =
    let f = found_of c.args.matches.now in
    ap (λ (s : Bor (List ℕ)). s.now) c.unwrap_or.ensures ∙ text_or c.get_str.result _ _ (c.get_str.ensures ∙ first_value-rows f c.args.name.now)
