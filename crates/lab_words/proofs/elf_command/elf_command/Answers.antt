use Rattle.std.proofs.Common.{rules, ap₂, ◌∙◌}
use Rattle.clap.specs.Words.{with_rule}
use Rattle.lab_words.proofs.elf_command.elf_command.Goals as goal

pub returns : goal.returns
returns c =
    c.in_ok-with_file.ensures.shape (search rules) ∙ ap₂ with_rule c.new.ensures.app c.text_argument.ensures.rule
