use Rattle.std.proofs.Common.{◌≡◌, ◌+◌, ◌%◌, sym, ap, ◌∙◌, subst, arith}
use Rattle.hart_words.specs.TwosComplement.{word}
use Rattle.hart_board.specs.State.{State}
use Rattle.hart_board.specs.Attempt.{performed_by}
use Rattle.hart_board.specs.Told.{state_of}
use Rattle.hart_board.proofs.Preparing.{length_is, even_by, in_bounds, stays_even, is_left, attempts}
use Rattle.hart_board.proofs.board.Board.perform.Goals as goal

pub perform_effect-requires-clause-bounds : goal.perform_effect-requires-clause-bounds
perform_effect-requires-clause-bounds g c = in_bounds c.args.self.now c.args.prepared.now c.requires

pub perform_effect-requires-clause-even : goal.perform_effect-requires-clause-even
perform_effect-requires-clause-even g c = stays_even c.args.self.now c.args.prepared.now c.requires (subst (λ (s : State). s.pc % 2 ≡ 0) c.self.view_is c.self.invariant.0)

pub perform_effect-requires-clause-next : goal.perform_effect-requires-clause-next
perform_effect-requires-clause-next g c =
    let l : c.args.prepared.now.encoding.length % 2 ≡ 0 = even_by c.args.self.now c.args.prepared.now c.requires c.args.prepared.now.encoding.length (length_is c.args.self.now c.args.prepared.now c.requires) in
    let even : c.self.inside.pc % 2 ≡ 0 = c.self.invariant.0 in
    omega arith

pub perform_effect-requires-clause-system : goal.perform_effect-requires-clause-system
perform_effect-requires-clause-system g c = is_left c.args.self.now c.args.prepared.now c.requires

pub returns-clause-answer : goal.returns-clause-answer
returns-clause-answer g c =
    let p = c.args.prepared.now in
    let m = g.D.Device.means in
    let next = ap (λ (s : State). performed_by m c.args.self.now c.requires.ins p.encoding.bits (word (s.pc + p.encoding.length)) p.effect) (sym c.self.view_is) in
    attempts c.args.self.now p c.requires m (state_of c.perform_effect.result c.perform_effect.new.self) (next ∙ c.perform_effect.ensures.answer c.requires.ins c.requires.stands)
