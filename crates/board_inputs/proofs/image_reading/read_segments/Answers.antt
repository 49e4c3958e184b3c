use Rattle.std.proofs.lemmas.Result.{err_from_is_err_and}
use Rattle.board_inputs.proofs.SegmentLoop.{goes_on, fails, ended}
use Rattle.board_inputs.proofs.image_reading.read_segments.Goals as goal

pub returns-in_err-place : goal.returns-in_err-place
returns-in_err-place c =
    let p = err_from_is_err_and c.from_residual.result c.from_residual.ensures.1 in
    rw (p.1, p.2) (fails c.in_err-place.field-0.0 c.args.image.now c.loop.image c.args.count c.loop.counter c.loop.place c.args.bytes.now c.loop-test.true c.loop.invariant c.in_err-place.ensures.adds.1)

pub loop-preserved : goal.loop-preserved
loop-preserved c = goes_on c.args.image.now c.loop.image c.read_segment.new.image c.args.count c.loop.counter c.loop.place c.in_ok-place.place c.args.bytes.now c.loop-test.true c.loop.invariant c.in_ok-place.ensures.adds

pub returns : goal.returns
returns c = ended c.args.image.now c.loop.image c.args.count c.loop.counter c.loop.place c.args.bytes.now c.check_end.result c.loop-test.false c.loop.invariant c.check_end.ensures
