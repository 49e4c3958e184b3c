use Rattle.std.proofs.Common.{◌+◌, ◌*◌, ◌<◌, ◌≤◌, ◌^◌, length, get_or, arith, ap, sym, ◌∙◌}
use Rattle.std.specs.Prelude.{◌==◌}
use Rattle.std.specs.Char.{digit_value}
use Rattle.asm_text.specs.Numbers.{digits_in, bounded}
use Rattle.asm_text.proofs.Digits.{stops_at, unless_empty}
use Rattle.lab_packets.proofs.numbers.digits_in.Goals as goal

pub returns-then-value-from : goal.returns-then-value-from
unfolding digits_in
returns-then-value-from c =
    let low : 1 ≤ c.args.base = omega arith in
    let inside : c.loop-byte.byte-index < length c.args.digits.now = omega arith in
    let digit = ap digit_value c.from.ensures in
    let product = ap (λ b. c.loop-byte.value * b) c.from-in-loop-byte.ensures in
    let large : 2 ^ 32 ≤ c.loop-byte.value * c.args.base + digit_value (get_or c.args.digits.now c.loop-byte.byte-index 0) = omega (arith, product, digit, c.in-Some.ensures.value, c.from-in-loop-byte.ensures, c.from-in-loop-byte-2.ensures, c.from-in-loop-byte-3.ensures) in
    unless_empty (length c.args.digits.now == 0) _ (ap bounded (sym c.loop-byte.invariant.same) ∙ stops_at c.args.base c.loop-byte.value c.args.digits.now c.loop-byte.byte-index low inside large)
