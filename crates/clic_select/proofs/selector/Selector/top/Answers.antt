use Rattle.std.proofs.Common.{ap, ◌∙◌, sym, length, arith}
use Rattle.clic_regs.specs.ClicState.{input_count}
use Rattle.clic_select.specs.Top.{top}
use Rattle.clic_select.proofs.Tops.{found_top, found_none, found_below}
use Rattle.clic_select.proofs.Winners.{root_at}
use Rattle.clic_select.proofs.selector.Selector.top.Goals as goal

pub returns-clause-value : goal.returns-clause-value
returns-clause-value c =
    c.index.ensures ∙ root_at c.self.inside.clic (input_count c.self.inside.clic) c.self.inside.nodes.items _ c.self.invariant.tree c.self.invariant.leaves c.self.invariant.state.pending (omega (arith, c.self.invariant.state.shape.least)) ∙ ap top c.self.view_is

pub returns-clause-greatest : goal.returns-clause-greatest
returns-clause-greatest c = found_top _ _ (returns-clause-value c)

pub returns-clause-none : goal.returns-clause-none
returns-clause-none c = found_none _ _ (returns-clause-value c)

pub returns-clause-input : goal.returns-clause-input
returns-clause-input c = found_below _ _ _ _ (returns-clause-value c) (ap (λ s. length s.pending) (sym c.self.view_is) ∙ c.self.invariant.state.pending ∙ ap input_count c.self.view_is) (omega arith)

pub returns-clause-number : goal.returns-clause-number
returns-clause-number c = found_below _ _ _ _ (returns-clause-value c) (ap (λ s. length s.pending) (sym c.self.view_is) ∙ c.self.invariant.state.pending) c.self.invariant.state.shape.most
