use Rattle.std.proofs.Common.{suc, ap, ◌∙◌}
use Rattle.hart_board.specs.State.{Outside}
use Rattle.hart_board.proofs.KeptStates.{state_kept, first_alike, first_has}
use Rattle.hart_board.proofs.board.Board.keep.Goals as goal

pub invariant_of-self-2 : goal.invariant_of-self-2
invariant_of-self-2 g c =
    let i = c.self.invariant in
    let alike = ap suc (first_alike 15 c.self.inside.rests.items c.self.inside.banks.kept i.1) in
    (i.0, rw (c.put_first.ensures.items, c.in_ok-keep.ensures.kept) alike, c.put_first.ensures.capacity, i.3, rw c.put_first.ensures.items (first_has c.self.inside.shape 16 _ c.self.inside.rests.items (ap (λ (o : Outside). o.clic.shape) c.in_ok-outside.ensures ∙ i.3) i.4))

pub returns-clause-kept : goal.returns-clause-kept
returns-clause-kept g c =
    let b = c.self.inside in
    rw (c.put_first.ensures.items, c.in_ok-keep.ensures.kept, c.in_ok-outside.ensures, ← c.self.view_is) (state_kept b.registers b.pc b.csrs b.banks.present b.outside b.rests.items b.banks.kept)
