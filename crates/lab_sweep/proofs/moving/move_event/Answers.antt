use Rattle.std.proofs.Common.{ap, ◌∙◌, sym, subst, refl, List}
use Rattle.hart_board.specs.Event.{AreEventsFrom}
use Rattle.hart_board.specs.declared.event.Event.{Event}
use Rattle.lab_sweep.specs.Moved.{put_in}
use Rattle.lab_sweep.proofs.InOrder.{moved_in_order}
use Rattle.lab_sweep.proofs.moving.move_event.Goals as goal

pub in_order-requires-2 : goal.in_order-requires-2
in_order-requires-2 c =
    let e : Event = record { at = c.args.count; what = c.get.result.what } in
    let here = rw c.deref.ensures.value at (c.place_for-at.ensures.is e refl) in
    let list = c.deref-2.ensures.value ∙ c.in_ok-insert.ensures.items ∙ sym here ∙ ap (put_in e) c.in_ok-list.ensures in
    subst (λ (l : List Event). AreEventsFrom c.shape.result.inputs 0 l) (sym list)
    (rw c.shape.ensures (moved_in_order c.args.events.now.shape.inputs c.args.place c.args.count c.args.events.now.list c.get.result c.in_order.ensures c.get.ensures.event))
