use Rattle.std.proofs.Common.{◌≡◌, ◌^◌, ◌<◌, subst, sym, ap, ◌∙◌}
use Rattle.hart_memory.specs.Memory.{Memory, IsWhole}
use Rattle.hart_memory.specs.Kept.{Held}
use Rattle.hart_board.specs.State.{State}
use Rattle.hart_board.specs.Valid.{IsBoard}
use Rattle.hart_board.proofs.board.Board.in_range.Goals as goal

pub returns : goal.returns
returns g c =
    let same : c.pc.result ≡ c.self.inside.pc = c.pc.ensures.value ∙ ap (λ (s : State). s.pc) (sym c.self.view_is) in
    subst (λ (s : State). IsBoard g.D.Device.means s) c.self.view_is
    (record { registers = c.in_range.ensures; pc = (c.self.invariant.0, subst (λ n. n < 2 ^ 32) same c.pc.type_inv); csrs = c.in_range-2.ensures; memory = subst (λ (h : Held Memory). IsWhole h.present) c.banks.ensures c.banks_are_whole.ensures; outside = c.in_range-3.ensures })
