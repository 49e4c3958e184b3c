use Rattle.std.proofs.Common.{rules, ap₂, ◌∙◌}
use Rattle.clap.specs.Words.{with_rule}
use Rattle.tool_words.proofs.lint_command.lint_command.Goals as goal

pub returns : goal.returns
returns c =
    c.in_ok-with_high.ensures.shape (search rules) ∙ ap₂ with_rule (
    c.in_ok-with_low.ensures.shape (search rules) ∙ ap₂ with_rule (
    c.in_ok-with_handler.ensures.shape (search rules) ∙ ap₂ with_rule (
    c.in_ok-with_image.ensures.shape (search rules) ∙ ap₂ with_rule c.new.ensures.app c.text_argument.ensures.rule) c.number_argument.ensures.rule) c.number_argument-2.ensures.rule) c.number_argument-3.ensures.rule
