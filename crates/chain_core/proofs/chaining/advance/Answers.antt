use Rattle.std.proofs.Common.{true, drop, sym, ap, ◌∙◌, subst, arith}
use Rattle.std.proofs.lemmas.Result.{err_from_is_err_and}
use Rattle.hart_board.specs.State.{State}
use Rattle.hart_board.proofs.Shapes.{events_have}
use Rattle.chain_moves.specs.Start.{begun}
use Rattle.chain_core.specs.Text.{Tells}
use Rattle.chain_core.specs.Progress.{Progress, progress_of}
use Rattle.chain_core.proofs.Told.{nothing_told}
use Rattle.chain_core.proofs.RoundMeans.{enter_room, fuse_room, runs_still}
use Rattle.chain_core.proofs.ChainLoop.{stood_first, has_room, means, told_on, stops_in, comes_to, final_within}
use Rattle.chain_core.proofs.chaining.advance.Goals as goal

pub loop-count-init : goal.loop-count-init
loop-count-init g c =
    let m = g.D.Device.means in
    let es = c.args.events.now.list in
    let taken = c.take_due-ahead.ensures in
    let p : Progress = progress_of c.take_due-ahead.new.board (record { bodies = 0; depth = 0; services = 0; ahead = c.take_due-ahead.result }) in
    let st = stood_first g.met.D.Device.sound p c.args.watch.now c.requires.starts (ap (λ (b : State). record { board = b; bodies = 0; depth = 0; services = 0 }) taken.board) c.requires.new in
    record {
      course = record {
        shape = c.requires.shape ∙ sym (ap (λ (b : State). b.outside.clic.shape) taken.board ∙ events_have m 0 (drop 0 es) c.args.board.now);
        ahead = taken.ahead;
        passed = taken.passed;
      };
      stood = st;
      tells = subst (λ q. Tells m es c.args.trace 0 true q p (g.W.Sink.told c.args.out.now) (g.W.Sink.told c.args.out.now)) st.progress (nothing_told m es c.args.trace p (g.W.Sink.told c.args.out.now));
    }

pub round-requires-clause-enters : goal.round-requires-clause-enters
round-requires-clause-enters g c =
    let m = g.D.Device.means in
    let es = c.args.events.now.list in
    let st = c.loop-count.invariant.stood in
    let p = progress_of c.loop-count.board c.loop-count.course in
    λ runs frame e. enter_room m es g.met.D.Device.sound 0 c.args.d c.args.bound c.args.board.now (begun m es c.args.board.now) 0 p c.loop-count.watch c.loop-count.steps st (runs_still m es g.met.D.Device.sound 0 c.args.d c.args.bound c.args.board.now (begun m es c.args.board.now) 0 p c.loop-count.watch c.loop-count.steps st runs) frame e

pub round-requires-clause-fuses : goal.round-requires-clause-fuses
round-requires-clause-fuses g c =
    let m = g.D.Device.means in
    let es = c.args.events.now.list in
    let st = c.loop-count.invariant.stood in
    let p = progress_of c.loop-count.board c.loop-count.course in
    λ runs frame e. fuse_room m es g.met.D.Device.sound 0 c.args.d c.args.bound c.args.board.now (begun m es c.args.board.now) 0 p c.loop-count.watch c.loop-count.steps st (runs_still m es g.met.D.Device.sound 0 c.args.d c.args.bound c.args.board.now (begun m es c.args.board.now) 0 p c.loop-count.watch c.loop-count.steps st runs) frame e

pub round-requires-clause-room : goal.round-requires-clause-room
round-requires-clause-room g c = has_room g.met.D.Device.sound c.loop-count.board c.loop-count.course c.ranges.bound.fits c.loop-count.invariant.stood

pub returns-in_err-count-clause-stopped : goal.returns-in_err-count-clause-stopped
returns-in_err-count-clause-stopped g c =
    let at = c.loop-count.invariant in
    let p = err_from_is_err_and c.from_residual.result c.from_residual.ensures.1 in
    rw p.1 (stops_in g.met.D.Device.sound at.stood at.tells c.in_err-count.ensures.made)

pub overflow_add-steps : goal.overflow_add-steps
overflow_add-steps g c =
    let t = means g.met.D.Device.sound c.loop-count.invariant.stood (rw c.in-Made.is at c.in_ok-count.ensures.made) in
    let fits = c.ranges.bound.fits in
    omega (arith, t.1.within, fits)

pub loop-count-smaller : goal.loop-count-smaller
loop-count-smaller g c =
    let t = means g.met.D.Device.sound c.loop-count.invariant.stood (rw c.in-Made.is at c.in_ok-count.ensures.made) in
    omega (arith, t.0, t.1.within)

pub loop-count-preserved : goal.loop-count-preserved
loop-count-preserved g c =
    let at = c.loop-count.invariant in
    let sound = g.met.D.Device.sound in
    let made = rw c.in-Made.is at c.in_ok-count.ensures.made in
    record { course = c.in_ok-count.ensures.course; stood = (means sound at.stood made).1; tells = told_on sound at.stood at.tells made }

pub overflow_add-steps-in-Failed : goal.overflow_add-steps-in-Failed
overflow_add-steps-in-Failed g c =
    let sound = g.met.D.Device.sound in
    let within = final_within sound (means sound c.loop-count.invariant.stood (rw c.in-Failed.is at c.in_ok-count.ensures.made)) in
    let fits = c.ranges.bound.fits in
    omega (arith, within, fits)

pub returns-in-Failed-clause-ended : goal.returns-in-Failed-clause-ended
returns-in-Failed-clause-ended g c =
    let at = c.loop-count.invariant in
    comes_to g.met.D.Device.sound at.stood at.tells _ (rw c.in-Failed.is at c.in_ok-count.ensures.made) c.ended.ensures

pub returns-in-Ended-clause-ended : goal.returns-in-Ended-clause-ended
returns-in-Ended-clause-ended g c =
    let at = c.loop-count.invariant in
    comes_to g.met.D.Device.sound at.stood at.tells _ (rw c.in-Ended.is at c.in_ok-count.ensures.made) c.done.ensures

pub returns-in-Spent-clause-ended : goal.returns-in-Spent-clause-ended
returns-in-Spent-clause-ended g c =
    let at = c.loop-count.invariant in
    comes_to g.met.D.Device.sound at.stood at.tells _ (rw c.in-Spent.is at c.in_ok-count.ensures.made) c.ended-in-Spent.ensures
