use Rattle.std.proofs.Common.{◌<◌, sym, subst, ap, ◌∙◌, arith}
use Rattle.clic_regs.specs.Filled.{filled, IsFilled}
use Rattle.clic_regs.specs.Fields.{fields}
use Rattle.clic_regs.proofs.Levels.{filled_lower}
use Rattle.clic_regs.proofs.Kept.{control_set-kept}
use Rattle.clic_regs.proofs.clic.Clic.write.Goals as goal

pub invariant_of-self-in-Some-Control : goal.invariant_of-self-in-Some-Control
invariant_of-self-in-Some-Control c =
    let s = fields c.self.inside in
    let small : c.filled.result < 256 = omega arith in
    let ones : IsFilled s.shape.bits c.filled.result = subst (IsFilled s.shape.bits) (sym (c.filled.ensures ∙ ap (λ n. filled n c.args.value) c.bits.ensures.value)) (filled_lower s.shape.bits c.args.value) in
    control_set-kept s c.in-Some-Control.i c.filled.result c.self.invariant small ones
