use Rattle.std.proofs.Common.{◌+◌, ◌-◌, [], true, sym, ap, refl}
use Rattle.board_outside.proofs.Writing.{then_writes}
use Rattle.hart_board.specs.Run.{Ran, every_step, run_from, run_of}
use Rattle.hart_board.specs.Text.{StopsInTrace}
use Rattle.hart_report.proofs.Texts.{same_text}
use Rattle.hart_report.proofs.Traces.{line_of_step}
use Rattle.hart_board.proofs.Runs.{goes, every_begins, every_run_begins, every_stands_on, every_run_goes_on, every_told}
use Rattle.hart_board.proofs.Traced.{trace_next, trace_begins}
use Rattle.hart_monitor.proofs.Quiet.{nothing_comes, not_ok, is_err}
use Rattle.hart_monitor.proofs.going.make_steps.Goals as goal

pub loop-init : goal.loop-init
loop-init g c =
    let m = g.D.Device.means in
    let s = c.args.board.now in
    record {
      stand = every_begins m [] s s (nothing_comes m 0 s);
      run = every_run_begins m [] c.args.count s s (nothing_comes m 0 s);
      text = trace_begins m every_step [] s true (g.W.Sink.told c.args.out.now);
    }

pub loop-preserved : goal.loop-preserved
loop-preserved g c =
    let m = g.D.Device.means in
    let s = c.args.board.now in
    let k = c.loop.counter in
    let b = c.loop.board in
    let t = c.step-told.new.self in
    let told = c.step-told.result in
    let i = c.loop.invariant in
    let same = nothing_comes m (k + 1) t in
    record {
      stand = every_stands_on m [] k s b t t told c.step-told.ensures i.stand same;
      run = every_run_goes_on m [] k s b t t told c.step-told.ensures i.stand c.args.count same c.loop-test.true (sym c.in_default.ensures) (goes told c.in_default-told.not-VectorFault) i.run;
      text = same_text (trace_next m every_step [] s true k told (every_told m [] k s b t t told c.step-told.ensures i.stand)) (then_writes i.text c.in_ok-put_step.ensures.text);
    }

pub returns-in_err-put_step : goal.returns-in_err-put_step
returns-in_err-put_step g c =
    let m = g.D.Device.means in
    let s = c.args.board.now in
    let k = c.loop.counter in
    let b = c.loop.board in
    let t = c.step-told.new.self in
    let told = c.step-told.result in
    let i = c.loop.invariant in
    let same = nothing_comes m (k + 1) t in
    let stopped : StopsInTrace m every_step [] s (run_of m every_step [] c.args.count s).steps t (g.W.Sink.told c.args.out.now) (g.W.Sink.told c.put_step.new.out) = record {
      k = k;
      later = (run_from m every_step [] (c.args.count - (k + 1)) (k + 1) (record { count = k + 1; board = t })).steps;
      made = ap (λ (r : Ran). r.steps) (every_run_goes_on m [] k s b t t told c.step-told.ensures i.stand c.args.count same c.loop-test.true (sym c.in_default.ensures) (goes told c.in_default-told.not-VectorFault) i.run);
      state = ap (λ x. x.board) (every_stands_on m [] k s b t t told c.step-told.ensures i.stand same);
      text = record {
        between = g.W.Sink.told c.loop.out;
        whole = i.text;
        broken = same_text (line_of_step true told _ refl (every_told m [] k s b t t told c.step-told.ensures i.stand)) c.in_err-put_step.ensures.text;
      };
    } in
    record { whole = not_ok _ c.from_residual.result c.from_residual.ensures.0; stopped = is_err c.from_residual.result stopped c.from_residual.ensures.0 }
