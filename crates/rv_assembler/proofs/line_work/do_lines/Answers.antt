use Rattle.std.proofs.Common.{arith, option_map}
use Rattle.std.proofs.lemmas.Result.{err_from_is_err_and}
use Rattle.rv_assembler.proofs.Onward.{begins, goes_on, fails, ended}
use Rattle.rv_assembler.proofs.line_work.do_lines.Goals as goal

pub loop-rest-init : goal.loop-rest-init
loop-rest-init g c = begins (g.W.LineWork.step c.args.context.now) c.args.source.now c.args.work.now

pub returns-in_err-do_numbered : goal.returns-in_err-do_numbered
returns-in_err-do_numbered g c =
    let p = err_from_is_err_and c.from_residual.result c.from_residual.ensures.1 in
    rw (p.1, p.2) (fails (g.W.LineWork.step c.args.context.now) c.args.source.now _ c.in-Some.text.now _ (option_map (λ s. s.now) c.cut_line.result.1) c.loop-rest.number _ c.in_err-do_numbered.field-0.0 c.cut_line.ensures.lines (rw c.in-Some.is at c.loop-rest.invariant) c.in_err-do_numbered.ensures)

pub loop-rest-smaller : goal.loop-rest-smaller
loop-rest-smaller g c = rw c.in-Some.is (omega (arith, c.cut_line.ensures.less))

pub loop-rest-preserved : goal.loop-rest-preserved
loop-rest-preserved g c = goes_on (g.W.LineWork.step c.args.context.now) c.args.source.now _ c.in-Some.text.now _ _ c.loop-rest.number _ _ c.cut_line.ensures.lines c.cut_line.ensures.less (rw c.in-Some.is at c.loop-rest.invariant) c.in_ok-do_numbered.ensures

pub returns : goal.returns
returns g c = ended (g.W.LineWork.step c.args.context.now) c.args.source.now _ c.loop-rest.number _ (rw c.in_default.is at c.loop-rest.invariant)
