use Rattle.std.proofs.lemmas.Result.{err_from_is_err_and}
use Rattle.mem_text.proofs.Onward.{onward, fails}
use Rattle.mem_text.proofs.reading.Reading.take_all.Goals as goal

pub returns-in_err-take : goal.returns-in_err-take
returns-in_err-take c =
    let p = err_from_is_err_and c.from_residual.result c.from_residual.ensures.1 in
    rw (p.1, p.2) (fails c.in_err-take.field-0.0 c.args.place c.args.self.now c.loop-i.self c.args.piece.now c.loop-i.i c.loop-i-test.true c.loop-i.invariant c.in_err-take.ensures)

pub loop-i-preserved : goal.loop-i-preserved
loop-i-preserved c = onward c.args.place c.args.self.now c.loop-i.self c.take.new.self c.args.piece.now c.loop-i.i c.loop-i-test.true c.loop-i.invariant c.in_ok-take.ensures
