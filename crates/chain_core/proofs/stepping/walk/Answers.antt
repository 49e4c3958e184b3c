use Rattle.std.proofs.Common.{◌≡◌, ◌+◌, ◌-◌, true, false, arith, subst}
use Rattle.chain_core.specs.Progress.{HasRoom}
use Rattle.chain_core.proofs.Told.{nothing_told, then_told, within_more, stopped_told}
use Rattle.chain_core.proofs.stepping.walk.Goals as goal

pub loop-made-init : goal.loop-made-init
loop-made-init g c =
    let room = c.requires.room in
    record { course = c.requires.course; tells = nothing_told g.D.Device.means c.args.events.now.list c.args.trace _ _; room = (omega (arith, room.0), omega (arith, room.1), omega (arith, room.2)) }

pub returns-in_err-make_step-clause-tells : goal.returns-in_err-make_step-clause-tells
returns-in_err-make_step-clause-tells g c =
    let m = g.D.Device.means in
    let es = c.args.events.now.list in
    stopped_told m es c.from_residual.result c.args.trace _ _ _ _ _ c.from_residual.ensures.0
    (within_more m es c.args.trace (c.loop-made._made + 1) c.args.count _ _ _ _ (omega arith)
    (then_told m es c.args.trace c.loop-made._made 1 false _ _ _ _ _ _ c.loop-made.invariant.tells c.in_err-make_step.ensures.tells))

pub loop-made-preserved : goal.loop-made-preserved
loop-made-preserved g c =
    let m = g.D.Device.means in
    let es = c.args.events.now.list in
    let left : c.args.count - c.loop-made._made ≡ c.args.count - (c.loop-made._made + 1) + 1 = omega arith in
    record {
      course = c.in_ok-make_step.ensures.course;
      tells = then_told m es c.args.trace c.loop-made._made 1 true _ _ _ _ _ _ c.loop-made.invariant.tells c.in_ok-make_step.ensures.tells;
      room = c.in_ok-make_step.ensures.room (c.args.count - (c.loop-made._made + 1)) (subst (HasRoom c.loop-made.course) left c.loop-made.invariant.room);
    }
