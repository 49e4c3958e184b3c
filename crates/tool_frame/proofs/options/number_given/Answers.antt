use Rattle.std.proofs.Common.{◌∙◌, ap, Option, unwrap_or, ℕ}
use Rattle.std.specs.Str.Parse.{ParsesUnsigned, ExplainsUnsignedError, HasUnsignedDigitsIfOk}
use Rattle.clap.specs.Words.{found_of}
use Rattle.clap.proofs.WalkLemmas.{one_text-rows}
use Rattle.tool_frame.specs.Options.{number_in}
use Rattle.tool_frame.proofs.Found.{number_given}
use Rattle.tool_frame.proofs.options.number_given.Goals as goal

pub returns : goal.returns
returns c =
    let f = found_of c.args.matches.now in
    let read = number_given _ (λ bs r. ParsesUnsigned 64 10 bs r × ExplainsUnsignedError 10 bs r × HasUnsignedDigitsIfOk bs r) _ c.get_one.result (λ u x g. g.0) c.get_one.ensures.none c.get_one.ensures.value in
    c.unwrap_or.ensures ∙ ap (λ (o : Option ℕ). unwrap_or o 0) (read ∙ ap number_in (one_text-rows f c.args.name.now))
