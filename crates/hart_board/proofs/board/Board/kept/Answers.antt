use Rattle.std.proofs.Common.{◌≡◌, ◌∙◌, sym, ap, subst, length}
use Rattle.std.specs.List.{All}
use Rattle.clic_regs.specs.Shape.{ClicShape}
use Rattle.hart_memory.specs.Memory.{Memory}
use Rattle.hart_memory.specs.Kept.{Held}
use Rattle.hart_board.specs.State.{Moment, State, moments}
use Rattle.hart_board.specs.Valid.{IsOfOneShape}
use Rattle.hart_board.proofs.KeptStates.{moments_len, moments_have}
use Rattle.hart_board.proofs.board.Board.kept.Goals as goal

pub returns-clause-count : goal.returns-clause-count
returns-clause-count g c =
    c.kept.ensures.count ∙ ap (λ (h : Held Memory). length h.kept) c.banks.ensures ∙ sym (moments_len c.self.inside.rests.items c.self.inside.banks.kept c.self.invariant.1) ∙ ap (λ (s : State). length s.kept) c.self.view_is

pub returns-clause-shape : goal.returns-clause-shape
returns-clause-shape g c =
    let b = c.self.inside in
    let all = moments_have b.shape b.rests.items b.banks.kept c.self.invariant.4 in
    subst (λ (s : State). IsOfOneShape s) c.self.view_is
    (subst (λ (shape : ClicShape). All (λ (kept : Moment). kept.outside.clic.shape ≡ shape) (moments b.rests.items b.banks.kept)) (sym c.self.invariant.3) all)
