use Rattle.std.proofs.Common.{refl, ap, sym, length, ◌∙◌, arith}
use Rattle.hart_memory.specs.Memory.{Memory}
use Rattle.hart_memory.specs.Kept.{Held}
use Rattle.hart_board.specs.State.{Outside}
use Rattle.hart_board.proofs.Outsides.{reset_shape}
use Rattle.hart_board.proofs.board.Board.new.Goals as goal

pub invariant_of-result : goal.invariant_of-result
invariant_of-result g c =
    let none = ap length c.in_ok-with_capacity.ensures.items in
    (refl, none ∙ sym (ap (λ (h : Held Memory). length h.kept) c.in_ok-new.ensures), c.in_ok-with_capacity.ensures.capacity, ap (λ (o : Outside). o.clic.shape) c.in_ok-new-2.ensures ∙ reset_shape g.D.Device.means c.args.shape (g.D.Device.state c.args.device), λ k d l. absurd (omega (arith, l, none)))
