use Rattle.std.proofs.Common.{◌≡◌, ◌+◌, ap, ◌∙◌, arith}
use Rattle.csr_file.specs.CsrState.{CsrState}
use Rattle.hart_report.proofs.Texts.{same_text}
use Rattle.chain_direct.specs.DirectText.{direct_line}
use Rattle.std.proofs.lemmas.Bool.{le-leb}
use Rattle.chain_direct.proofs.RoundsTold.{begin_cut, line_cut, begun_stops}
use Rattle.chain_direct.proofs.direct_rounds.vector.Goals as goal

pub returns-in_err-walk-2-clause-tells : goal.returns-in_err-walk-2-clause-tells
returns-in_err-walk-2-clause-tells g c =
    let m = g.D.Device.means in
    let es = c.args.events.now.list in
    let some = c.if-left-lt-STEP_COST.false in
    begun_stops m es c.args.trace _ _ (g.W.Sink.told c.args.out.now) (g.W.Sink.told c.args.out.now) _ c.from_residual-in_err-walk-2.result c.args.left c.args.top c.args.watch.now c.from_residual-in_err-walk-2.ensures.0 (le-leb 1 c.args.left (omega (arith, some)))
    (begin_cut m es c.args.trace _ _ _ (g.W.Sink.told c.args.out.now) _ _ c.in_err-walk-2.ensures.tells)

pub returns-in_err-put_direct-clause-tells : goal.returns-in_err-put_direct-clause-tells
returns-in_err-put_direct-clause-tells g c =
    let m = g.D.Device.means in
    let es = c.args.events.now.list in
    let some = c.if-left-lt-STEP_COST.false in
    let line : direct_line c.args.top.id c.mil.result (c.args.course.now.depth + 1) ≡ direct_line c.args.top.id c.walk-2.new.board.csrs.mil (c.args.course.now.depth + 1) = ap (λ n. direct_line c.args.top.id n (c.args.course.now.depth + 1)) (c.mil.ensures ∙ ap (λ (q : CsrState). q.mil) c.csrs.ensures) in
    begun_stops m es c.args.trace _ _ (g.W.Sink.told c.args.out.now) (g.W.Sink.told c.args.out.now) _ c.from_residual-in_err-put_direct.result c.args.left c.args.top c.args.watch.now c.from_residual-in_err-put_direct.ensures.0 (le-leb 1 c.args.left (omega (arith, some)))
    (line_cut m es c.args.trace _ _ _ (g.W.Sink.told c.walk-2.new.out) _ _ c.in_ok-walk-2.ensures.tells (same_text line c.in_err-put_direct.ensures))
