use Rattle.std.proofs.Common.{◌≡◌, ◌<◌, ap, arith}
use Rattle.std.proofs.lemmas.List.{get_or_read}
use Rattle.clic_regs.specs.ClicState.{input_count, line_of, is_pending, attribute_of}
use Rattle.clic_regs.specs.Fields.{fields}
use Rattle.clic_regs.proofs.Kept.{line_set-kept}
use Rattle.clic_regs.proofs.clic.Clic.set_line.Goals as goal

pub invariant_of-self : goal.invariant_of-self
invariant_of-self c =
    let s = fields c.self.inside in
    let known = c.self.invariant in
    let inside : c.args.i < input_count s = omega (arith, ap input_count c.self.view_is) in
    let attribute : c.index.result.now ≡ attribute_of s c.args.i = get_or_read s.attribute _ _ (omega (arith, known.attribute)) c.index.ensures 0 in
    let was : c.index-2.result.now ≡ line_of s c.args.i = get_or_read s.line _ _ (omega (arith, known.line)) c.index-2.ensures _ in
    let pending : c.index-3.result.now ≡ is_pending s c.args.i = get_or_read s.pending _ _ (omega (arith, known.pending)) c.index-3.ensures _ in
    line_set-kept s c.args.i c.args.high c.pending_after.result known inside cc
