use Rattle.std.proofs.Common.{◌≡◌, ◌<◌, ◌∙◌, ap, set, length, arith, length-set, get_or-set_same, get_or-set_other}
use Rattle.std.proofs.lemmas.List.{get_or_read}
use Rattle.clic_regs.specs.Attribute.{is_active}
use Rattle.clic_regs.specs.ClicState.{input_count, line_of}
use Rattle.clic_regs.specs.Fields.{fields}
use Rattle.clic_regs.proofs.Kept.{attribute_set-kept}
use Rattle.clic_regs.proofs.clic.Clic.set_attribute.Goals as goal

pub invariant_of-self : goal.invariant_of-self
invariant_of-self c =
    let s = fields c.self.inside in
    let known = c.self.invariant in
    let inside : c.args.i < input_count s = omega (arith, ap input_count c.self.view_is) in
    let waits : c.args.i < length s.pending = omega (arith, known.pending) in
    let line : c.index.result.now ≡ line_of s c.args.i = get_or_read s.line _ _ (omega (arith, known.line)) c.index.ensures _ in
    attribute_set-kept s c.args.i c.args.value (set s.pending c.args.i c.is_active.result) known inside c.requires.bits (length-set s.pending c.args.i c.is_active.result) (λ j other. get_or-set_other s.pending c.args.i j c.is_active.result _ other)
    (λ level. get_or-set_same s.pending c.args.i c.is_active.result _ waits ∙ c.is_active.ensures ∙ ap (is_active c.args.value) line)
