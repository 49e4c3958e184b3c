use Rattle.std.proofs.Common.{rules, ap₂, ◌∙◌}
use Rattle.clap.specs.Words.{with_rule}
use Rattle.lab_words.proofs.trace_command.trace_command.Goals as goal

pub returns : goal.returns
returns c =
    c.in_ok-with_names.ensures.shape (search rules) ∙ ap₂ with_rule (
    c.in_ok-with_direct.ensures.shape (search rules) ∙ ap₂ with_rule (
    c.in_ok-with_dispatcher.ensures.shape (search rules) ∙ ap₂ with_rule (
    c.in_ok-with_bound.ensures.shape (search rules) ∙ ap₂ with_rule (
    c.in_ok-with_scenario.ensures.shape (search rules) ∙ ap₂ with_rule (
    c.in_ok-with_image.ensures.shape (search rules) ∙ ap₂ with_rule c.new.ensures.app c.text_argument.ensures.rule) c.text_argument-2.ensures.rule) c.number_argument.ensures.rule) c.option_argument.ensures.rule) c.flag_argument.ensures.rule) c.option_argument-2.ensures.rule
