use Rattle.std.proofs.Common.{sym, ap, ◌∙◌, arith}
use Rattle.lab_positions.specs.Forward.{stopped}
use Rattle.lab_positions.specs.declared.stop.Stop.TheVariants.{Vector}
use Rattle.lab_positions.proofs.Times.{next_missing, steps_most, reached_next}
use Rattle.lab_positions.proofs.Forwards.{forward_done, stops_at_vector, stops_here, goes_further, still_same}
use Rattle.lab_positions.proofs.going.go_forward.Goals as goal

pub returns-in-VectorFault-clause-stop : goal.returns-in-VectorFault-clause-stop
returns-in-VectorFault-clause-stop g c =
    let m = g.D.Device.means in
    let es = c.args.events.now.list in
    let p = c.loop.place.position in
    let id = c.in-VectorFault.input in
    ap (stopped (Vector id)) (c.step-told.ensures.position ∙ next_missing m c.args.timing es p id (sym c.step-told.ensures.told ∙ c.in-VectorFault.is))
    ∙ sym (stops_at_vector m c.args.timing es c.args.sought.now c.args.most c.loop.counter p c.step-told.new.self.position c.step-told.result c.args.before.now.present c.loop-test.true c.step-told.ensures.told c.step-told.ensures.position c.loop.invariant.same id c.in-VectorFault.is)
    ∙ c.loop.invariant.stop

pub returns-in-VectorFault-clause-reached : goal.returns-in-VectorFault-clause-reached
returns-in-VectorFault-clause-reached g c = λ base r.
    reached_next g.D.Device.means c.args.timing c.args.events.now base c.loop.place c.step-told.new.self c.step-told.ensures.position c.step-told.ensures.time c.step-told.ensures.kept (c.loop.invariant.reached base r)

pub returns-in-Some : goal.returns-in-Some
returns-in-Some g c =
    let m = g.D.Device.means in
    let i = c.loop.invariant in
    record {
      stop =
          sym (stops_here m c.args.timing c.args.events.now.list c.args.sought.now c.args.most c.loop.counter c.loop.place.position c.step-told.new.self.position c.step-told.result c.args.before.now.present c.loop-test.true c.step-told.ensures.told c.step-told.ensures.position i.same c.in_default.not-VectorFault c.in-Some.why (sym c.in-Some.ensures))
          ∙ i.stop;
      reached = λ base r. reached_next m c.args.timing c.args.events.now base c.loop.place c.step-told.new.self c.step-told.ensures.position c.step-told.ensures.time c.step-told.ensures.kept (i.reached base r);
      rungs = i.rungs;
    }

pub loop-preserved : goal.loop-preserved
loop-preserved g c =
    let m = g.D.Device.means in
    let es = c.args.events.now.list in
    let i = c.loop.invariant in
    let p = c.loop.place.position in
    let q = c.step-told.new.self.position in
    let none = sym c.in_default-reason.ensures in
    record {
      stop = sym (goes_further m c.args.timing es c.args.sought.now c.args.most c.loop.counter p q c.step-told.result c.args.before.now.present c.loop-test.true c.step-told.ensures.told c.step-told.ensures.position i.same c.in_default.not-VectorFault none) ∙ i.stop;
      room = omega (arith, i.room, c.loop-test.true, steps_most m c.args.timing es p q c.step-told.ensures.position);
      time = c.step-told.ensures.time;
      same = still_same m c.args.timing es c.args.sought.now c.args.before.now.present c.step-told.result q none;
      reached = λ base r. reached_next m c.args.timing c.args.events.now base c.loop.place c.step-told.new.self c.step-told.ensures.position c.step-told.ensures.time c.step-told.ensures.kept (i.reached base r);
      rungs = λ base r all.
          c.pass_rung.ensures c.args.timing c.args.events.now base (reached_next m c.args.timing c.args.events.now base c.loop.place c.step-told.new.self c.step-told.ensures.position c.step-told.ensures.time c.step-told.ensures.kept (i.reached base r)) (i.rungs base r all);
    }

pub returns-clause-stop : goal.returns-clause-stop
returns-clause-stop g c =
    sym (forward_done g.D.Device.means c.args.timing c.args.events.now.list c.args.sought.now c.args.most c.loop.counter c.loop.place.position c.loop-test.false) ∙ c.loop.invariant.stop
