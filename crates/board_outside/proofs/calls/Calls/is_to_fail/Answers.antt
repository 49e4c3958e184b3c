use Rattle.std.proofs.Common.{◌∙◌, sym, subst, IsTrue}
use Rattle.board_outside.specs.Calls.{CallsState, none_to_come}
use Rattle.board_outside.proofs.CallsToCome.{one_more}
use Rattle.board_outside.proofs.calls.Calls.is_to_fail.Goals as goal

pub returns-clause-none_to_come : goal.returns-clause-none_to_come
returns-clause-none_to_come c = λ none.
    let here = subst (λ (s : CallsState). IsTrue (none_to_come s)) (sym c.self.view_is) none in
    let more = one_more c.self.inside.failing.items c.self.inside.made c.saturating_add-self-inside.result c.saturating_add-self-inside.ensures here in
    (c.is_among.ensures ∙ rw c.deref.ensures.value more.0, more.1)
