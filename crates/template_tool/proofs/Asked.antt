-- What becomes of the words.
use Rattle.std.proofs.Common.{◌≡◌, ◌∙◌, Option, Some, None, ap, subst, unwrap_or}
use Rattle.board_outside.specs.Shelf.{ShelfView}
use Rattle.board_outside.specs.Sink.{SinkView}
use Rattle.tool_frame.specs.Answers.{Follows}
use Rattle.tool_frame.specs.declared.status.Status.{Status}
use Rattle.tool_frame.proofs.Ends.{misuses}
use Rattle.template_tool.specs.Words.{TemplateWords}
use Rattle.template_tool.specs.Usage.{usage_line, Misuses}
use Rattle.template_tool.specs.Template.{plan_of, IsServedBy}

-- the plan of the words is followed where that of what was read of them is
pub by_words : (read order : Option TemplateWords) (status : Status) (shelf shelf' : ShelfView) (sink sink' : SinkView) → read ≡ order → Follows tt status (plan_of read) shelf shelf' sink sink' → Follows tt status (plan_of order) shelf shelf' sink sink'
by_words read order status shelf shelf' sink sink' e follows = subst (λ (o : Option TemplateWords). Follows tt status (plan_of o) shelf shelf' sink sink') e follows

-- other words are told by the usage line
pub misused : (order : Option TemplateWords) (status : Status) (shelf shelf' : ShelfView) (sink sink' : SinkView) → Follows tt status (plan_of order) shelf shelf' sink sink' → order ≡ None → Misuses status shelf shelf' sink sink'
misused order status shelf shelf' sink sink' follows none = misuses usage_line tt tt status shelf shelf' sink sink' tt (by_words order None status shelf shelf' sink sink' none follows)

-- what was read is what the words say
pub served_by : (read asked : TemplateWords) (order : Option TemplateWords) (status : Status) (shelf shelf' : ShelfView) → Some read ≡ order → order ≡ Some asked → IsServedBy read status shelf shelf' → IsServedBy asked status shelf shelf'
served_by read asked order status shelf shelf' e is served = subst (λ (a : TemplateWords). IsServedBy a status shelf shelf') (ap (λ (o : Option TemplateWords). unwrap_or o read) (e ∙ is)) served
