use Rattle.std.proofs.Common.{◌≡◌, ◌+◌, ◌<◌, refl, sym, ap, ◌∙◌, subst, arith}
use Rattle.clic_regs.specs.Bytes.{input_at}
use Rattle.clic_regs.specs.ClicState.{input_count}
use Rattle.clic_select.specs.Tree.{node, Selects}
use Rattle.clic_select.proofs.Waiting.{write_leaves, write_changes_nothing}
use Rattle.clic_select.proofs.selector.Selector.write_counted.Goals as goal

pub refresh-requires-clause-input : goal.refresh-requires-clause-input
refresh-requires-clause-input g c = subst (λ s. c.in-Some.i < s.inputs) c.shape.ensures.value ((c.in-Some.ensures.exact c.in-Some.i).0 refl).0

pub refresh-requires-clause-others : goal.refresh-requires-clause-others
refresh-requires-clause-others g c j l other =
    let same : input_count c.write-there.new.self ≡ input_count c.self.inside.clic = ap (λ s. s.inputs) c.write-there.ensures.shape in
    let shape : c.shape.result ≡ c.self.inside.clic.shape = c.shape.ensures.value ∙ c.write-there.ensures.shape in
    ap (λ n. node c.as_mut_slice.result.now (n + j)) same
    ∙ ap (λ xs. node xs (input_count c.self.inside.clic + j)) c.as_mut_slice.ensures.value
    ∙ c.self.invariant.leaves j (omega (arith, same))
    ∙ sym (write_leaves c.write-there.result c.self.inside.clic c.write-there.new.self (input_count c.self.inside.clic) c.args.offset c.args.value c.in-Some.i j c.write-there.ensures.there c.write-there.ensures.kept refl (ap (λ s. input_at s.inputs c.args.offset) (sym shape) ∙ sym c.in-Some.ensures.value) other)

pub invariant_of-self-else-offset-eq0 : goal.invariant_of-self-else-offset-eq0
invariant_of-self-else-offset-eq0 g c =
    let some : 0 < c.args.offset = omega (arith, c.if-offset-eq0.false) in
    let shape : c.shape.result ≡ c.self.inside.clic.shape = c.shape.ensures.value ∙ c.write-there.ensures.shape in
    let same = write_changes_nothing c.write-there.result c.self.inside.clic c.write-there.new.self (input_count c.self.inside.clic) c.args.offset c.args.value c.write-there.ensures.there c.write-there.ensures.kept refl (ap (λ s. input_at s.inputs c.args.offset) (sym shape) ∙ sym c.in-None.ensures.value) some in
    subst (λ s. Selects s c.self.inside.nodes.items) (sym same) c.self.invariant

pub returns-in-Some-clause-config : goal.returns-in-Some-clause-config
returns-in-Some-clause-config g c zero = absurd (omega (arith, zero, ((c.in-Some.ensures.exact c.in-Some.i).0 refl).1))
