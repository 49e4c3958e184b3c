use Rattle.clic_select.proofs.Tops.{one_top, top_is, top_was, none_waits, no_top}
use Rattle.clic_select.proofs.laws.there_is_at_most_one_top.Goals as goal

pub returns : goal.returns
returns c = record { one = one_top; top = λ c t. (top_is c t, top_was c t); none = λ c. (none_waits c, no_top c) }
