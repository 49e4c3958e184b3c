use Rattle.std.proofs.Common.{◌≡◌, ◌+◌, ◌-◌, ◌≤◌, take, drop, length, rules, arith, refl, false, true}
use Rattle.hart_memory.specs.Image.{meets_any}
use Rattle.board_inputs.specs.ImageReading.{is_placed}
use Rattle.board_inputs.proofs.SegmentLoop.{segment_is, taken_length}
use Rattle.board_inputs.proofs.image_reading.read_segment.Goals as goal

pub returns-clause-adds : goal.returns-clause-adds
returns-clause-adds c =
    let at = c.in_ok-at.at in
    let count = c.in_ok-count.count in
    let bytes = c.args.bytes.now in
    let placed : is_placed at count ≡ true = search rules in
    let apart : meets_any at count c.args.image.now.segments ≡ false = search rules in
    let long : c.args.place + 8 + count ≤ length bytes = omega (arith, c.in_ok-at.ensures.inside, c.in_ok-count.ensures.inside) in
    let k : c.args.place + 8 + count - (c.args.place + 8) ≡ count = omega arith in
    let len = taken_length c.args.place count bytes long in
    (record { address = at; content = take count (drop (c.args.place + 8) bytes) }, segment_is c.args.place at count c.args.image.now.segments bytes _ c.in_ok-at.ensures.gives c.in_ok-count.ensures.gives placed apart long refl, rw len refl, rw k at c.in_ok-add.ensures.ok)
