use Rattle.std.proofs.Common.{◌++◌, codes, ap, ◌∙◌}
use Rattle.hart_report.specs.Ends.{budget_end}
use Rattle.hart_report.proofs.Texts.{same_text}
use Rattle.hart_report.proofs.ends.put_budget_end.Goals as goal

pub returns : goal.returns
unfolding budget_end
returns g c = same_text (c.bytes.ensures.bytes ∙ c.put_text.ensures.bytes ∙ ap (λ line. line ++ codes "end budget\n") c.new-line.ensures) c.put.ensures
