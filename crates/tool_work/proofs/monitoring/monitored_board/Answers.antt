use Rattle.std.proofs.Common.{◌≡◌, ◌∙◌, sym, ap, subst}
use Rattle.clic_regs.specs.Shape.{plain_shape}
use Rattle.board_devices.specs.Shipped.{shipped_state}
use Rattle.hart_monitor.specs.Session.{IsPlain}
use Rattle.tool_work.specs.Shipped.{shipped_board, shipped_meanings}
use Rattle.tool_work.proofs.monitoring.monitored_board.Goals as goal

-- a board at reset is plain, and loading an image leaves it so
pub returns-clause-plain : goal.returns-clause-plain
unfolding shipped_board shipped_meanings
returns-clause-plain c =
    let made : IsPlain (shipped_board plain_shape) = c.new_boards_are_plain.ensures.made shipped_state in
    let is : c.in_ok-board.board ≡ shipped_board plain_shape = c.in_ok-board.ensures ∙ ap shipped_board c.plain.ensures in
    (subst IsPlain (sym c.load_image.ensures.exact) (c.new_boards_are_plain.ensures.loaded _ _ (subst IsPlain (sym is) made))).present
