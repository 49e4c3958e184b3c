use Rattle.asm_forms.proofs.Zeros.{zeros_none, zeros_more}
use Rattle.std.proofs.Common.{◌∙◌}
use Rattle.asm_forms.proofs.bytes.push_zeros.Goals as goal

pub loop-init : goal.loop-init
loop-init c = zeros_none c.args.bytes.now.items

pub loop-preserved : goal.loop-preserved
loop-preserved c = c.in_ok-push.ensures.items ∙ zeros_more c.loop.bytes.items c.args.bytes.now.items c.loop.counter c.loop.invariant
