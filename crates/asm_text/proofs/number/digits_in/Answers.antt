use Rattle.std.proofs.Common.{◌+◌, ◌*◌, ◌<◌, ◌≤◌, ◌^◌, length, get_or, arith, ap, sym, ◌∙◌}
use Rattle.std.specs.Prelude.{◌==◌}
use Rattle.std.specs.Char.{digit_value}
use Rattle.asm_text.specs.Numbers.{digits_in, bounded}
use Rattle.asm_text.proofs.Digits.{stops_at, unless_empty}
use Rattle.asm_text.proofs.number.digits_in.Goals as goal

pub returns-then-value-ge-MAGNITUDE_END-clause-value : goal.returns-then-value-ge-MAGNITUDE_END-clause-value
unfolding digits_in
returns-then-value-ge-MAGNITUDE_END-clause-value c =
    let low : 1 ≤ c.args.base = omega arith in
    let inside : c.loop-c.c-index < length c.args.digits.now = omega arith in
    let large : 2 ^ 32 ≤ c.loop-c.value * c.args.base + digit_value (get_or c.args.digits.now c.loop-c.c-index 0) = omega (arith, c.digit_value-digit.ensures.value) in
    unless_empty (length c.args.digits.now == 0) _ (ap bounded (sym c.loop-c.invariant.same) ∙ stops_at c.args.base c.loop-c.value c.args.digits.now c.loop-c.c-index low inside large)
