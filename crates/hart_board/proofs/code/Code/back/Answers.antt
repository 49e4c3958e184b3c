use Rattle.std.proofs.Common.{◌∙◌}
use Rattle.hart_board.proofs.KnownLemmas.{blank_kept}
use Rattle.hart_board.proofs.code.Code.back.Goals as goal

pub invariant_of-self : goal.invariant_of-self
invariant_of-self c = blank_kept _ _ (c.forget_unless.ensures.len ∙ c.self.invariant.count) c.forget_unless.ensures.blank
