use Rattle.std.proofs.Common.{ap, ◌∙◌, inl}
use Rattle.hart_board.specs.State.{State}
use Rattle.tool_words.specs.Chain.{view_chain}
use Rattle.tool_work.proofs.InShape.{shipped_level}
use Rattle.tool_work.proofs.ChainEnds.{IsMade, made_ends, made_left}
use Rattle.tool_work.proofs.chaining.chain_image.Goals as goal

pub chains_agree-requires-clause-level : goal.chains_agree-requires-clause-level
chains_agree-requires-clause-level g c = ap (λ (s : State). s.csrs.mil) c.in-Ok.ensures.board ∙ shipped_level c.args.events.now.shape

pub answers_hold-requires-clause-level : goal.answers_hold-requires-clause-level
answers_hold-requires-clause-level g c = ap (λ (s : State). s.csrs.mil) c.in-Ok.ensures.board ∙ shipped_level c.args.events.now.shape

pub run_chain-requires-clause-level : goal.run_chain-requires-clause-level
run_chain-requires-clause-level g c = ap (λ (s : State). s.csrs.mil) c.in-Ok.ensures.board ∙ shipped_level c.args.events.now.shape

pub returns-in-Ok-run_chain-clause-ends : goal.returns-in-Ok-run_chain-clause-ends
returns-in-Ok-run_chain-clause-ends g c =
    let made : IsMade (view_chain c.args.order.now) c.args.image.now c.args.events.now c.in-Ok.board c.run_chain.new.board c.in-Ok-run_chain.end (g.W.Sink.told c.args.out.now) (g.W.Sink.told c.run_chain.new.out) =
    record { start = c.in-Ok.ensures.board; end_is = c.in-Ok-run_chain.ensures.end; text = c.in-Ok-run_chain.ensures.text } in
    inl (made_ends (view_chain c.args.order.now) c.args.image.now c.args.events.now c.in-Ok.board c.run_chain.new.board c.in-Ok-run_chain.end made c.status_of_end.ensures)

pub returns-in-Ok-run_chain-clause-leaves : goal.returns-in-Ok-run_chain-clause-leaves
returns-in-Ok-run_chain-clause-leaves g c =
    let made : IsMade (view_chain c.args.order.now) c.args.image.now c.args.events.now c.in-Ok.board c.run_chain.new.board c.in-Ok-run_chain.end (g.W.Sink.told c.args.out.now) (g.W.Sink.told c.run_chain.new.out) =
    record { start = c.in-Ok.ensures.board; end_is = c.in-Ok-run_chain.ensures.end; text = c.in-Ok-run_chain.ensures.text } in
    made_left (view_chain c.args.order.now) c.args.image.now c.args.events.now c.in-Ok.board c.run_chain.new.board c.in-Ok-run_chain.end made c.status_of_end.ensures c.leave.ensures
