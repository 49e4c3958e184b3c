use Rattle.std.proofs.Common.{arith}
use Rattle.lab_positions.proofs.Times.{after_none, after_more, steps_most, reached_next}
use Rattle.lab_positions.proofs.going.go.Goals as goal

pub loop-init : goal.loop-init
loop-init g c = record {
  position = after_none g.D.Device.means c.args.timing c.args.events.now.list c.args.place.now.position;
  room = omega (arith, c.requires.room);
  time = c.requires.time;
  reached = λ base r. r;
}

pub loop-preserved : goal.loop-preserved
loop-preserved g c =
    let m = g.D.Device.means in
    let es = c.args.events.now.list in
    let i = c.loop.invariant in
    record {
      position = after_more m c.args.timing es c.args.place.now.position c.loop.counter c.loop.place.position c.step.new.self.position i.position c.step.ensures.position;
      room = omega (arith, i.room, c.loop-test.true, steps_most m c.args.timing es c.loop.place.position c.step.new.self.position c.step.ensures.position);
      time = c.step.ensures.time;
      reached = λ base r. reached_next m c.args.timing c.args.events.now base c.loop.place c.step.new.self c.step.ensures.position c.step.ensures.time c.step.ensures.kept (i.reached base r);
    }
