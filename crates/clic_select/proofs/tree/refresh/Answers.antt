use Rattle.std.proofs.Common.{◌≡◌, ◌+◌, ap, ◌∙◌, subst, arith}
use Rattle.clic_regs.specs.ClicState.{input_count}
use Rattle.clic_select.specs.Tree.{node, IsTree, HasLeaves}
use Rattle.clic_select.proofs.Winners.{leaf_set}
use Rattle.clic_select.proofs.tree.refresh.Goals as goal

pub returns-clause-selects : goal.returns-clause-selects
returns-clause-selects g c =
    let same : c.inputs-inputs.result ≡ input_count c.args.clic.now = c.inputs-inputs.ensures.value ∙ ap (λ s. s.inputs) c.shape.ensures.value in
    record {
      state = c.shape.ensures.valid;
      tree = subst (λ n. IsTree n c.mend.new.nodes) same c.mend.ensures.tree;
      leaves = subst (λ n. HasLeaves c.args.clic.now n c.mend.new.nodes) same (
          leaf_set c.args.clic.now c.inputs-inputs.result c.args.nodes.now c.mend.new.nodes c.args.i c.waiting.result (omega (arith, same, c.requires.input)) (omega (arith, same, c.requires.tree.size)) c.waiting.ensures
          (λ j l other. ap (λ n. node c.args.nodes.now (n + j)) same ∙ c.requires.others j (omega (arith, same, l)) other) c.mend.ensures.leaves
          );
    }
