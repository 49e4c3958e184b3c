use Rattle.std.proofs.Common.{sym, ap, ◌∙◌, inl}
use Rattle.hart_board.specs.State.{State}
use Rattle.template_tool.proofs.Ended.{chain_ended, chain_served}
use Rattle.template_tool.proofs.chaining.chain_board.Goals as goal

pub chain-end-requires-clause-level : goal.chain-end-requires-clause-level
chain-end-requires-clause-level g c = ap (λ (s : State). s.csrs.mil) c.install.ensures.board ∙ c.requires.level

pub chain-end-requires-clause-shape : goal.chain-end-requires-clause-shape
chain-end-requires-clause-shape g c = c.requires.shape ∙ sym (ap (λ (s : State). s.outside.clic.shape) c.install.ensures.board)

pub returns-clause-ends : goal.returns-clause-ends
returns-clause-ends g c =
    inl (chain_ended g.D.Device.means c.args.under c.args.events.now c.args.bound c.args.board.now c.install.new.board c.chain-end.result
    c.install.ensures.board c.status_of_end.ensures (λ w. (c.chain-end.ensures.end w).0) c.chain-end.ensures.text)

pub returns-clause-served : goal.returns-clause-served
returns-clause-served g c = λ own.
    chain_served g.D.Device.means c.args.under c.args.events.now c.args.bound c.args.board.now c.install.new.board c.install.ensures.board c.chain-end.ensures.services c.chain-end.ensures.state
