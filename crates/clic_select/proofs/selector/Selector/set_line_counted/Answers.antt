use Rattle.std.proofs.Common.{◌≡◌, ◌+◌, sym, ap, ◌∙◌, arith}
use Rattle.clic_regs.specs.ClicState.{input_count}
use Rattle.clic_select.specs.Tree.{node, waiting}
use Rattle.clic_select.proofs.Waiting.{line_leaves}
use Rattle.clic_select.proofs.selector.Selector.set_line_counted.Goals as goal

pub refresh-requires-clause-others : goal.refresh-requires-clause-others
refresh-requires-clause-others g c j l other =
    let same : input_count c.set_line.new.self ≡ input_count c.self.inside.clic = ap (λ s. s.inputs) c.set_line.ensures.shape in
    ap (λ n. node c.as_mut_slice.result.now (n + j)) same
    ∙ ap (λ xs. node xs (input_count c.self.inside.clic + j)) c.as_mut_slice.ensures.value
    ∙ c.self.invariant.leaves j (omega (arith, same))
    ∙ sym (ap (λ s. waiting s j) c.set_line.ensures.line ∙ line_leaves c.self.inside.clic c.args.i j c.args.high other)
