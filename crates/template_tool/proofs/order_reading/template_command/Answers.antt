use Rattle.std.proofs.Common.{rules, ap₂, ◌∙◌}
use Rattle.clap.specs.Words.{with_rule}
use Rattle.template_tool.proofs.order_reading.template_command.Goals as goal

pub returns : goal.returns
returns c =
    c.in_ok-with_bound.ensures.shape (search rules) ∙ ap₂ with_rule (
    c.in_ok-with_scenario.ensures.shape (search rules) ∙ ap₂ with_rule (
    c.in_ok-with_image.ensures.shape (search rules) ∙ ap₂ with_rule c.new.ensures.app c.text_argument.ensures.rule) c.text_argument-2.ensures.rule) c.number_argument.ensures.rule
