use Rattle.std.proofs.Common.{◌≡◌, ◌+◌, ◌-◌, None, sym, ap, ◌∙◌, arith}
use Rattle.lab_positions.specs.Backward.{latest}
use Rattle.lab_positions.specs.Looking.{shown, newer, else_found}
use Rattle.lab_positions.proofs.Times.{steps_most}
use Rattle.lab_positions.proofs.Backwards.{none_after, one_looked, all_looked}
use Rattle.lab_positions.proofs.looking.look.Goals as goal

pub loop-init : goal.loop-init
loop-init g c =
    let m = g.D.Device.means in
    let es = c.args.events.now.list in
    let p = c.args.place.now.position in
    let all : c.args.count - 0 ≡ c.args.count = omega arith in
    record {
      seen = ap (λ n. else_found (shown (latest m c.args.timing es c.args.sought.now n p)) None) all ∙ none_after (shown (latest m c.args.timing es c.args.sought.now c.args.count p));
      room = omega (arith, c.requires.room);
      time = c.requires.time;
      same = c.in_ok-before.ensures;
    }

pub loop-preserved : goal.loop-preserved
loop-preserved g c =
    let m = g.D.Device.means in
    let es = c.args.events.now.list in
    let p = c.loop.place.position in
    let q = c.look_once-why.new.place.position in
    let why = c.look_once-why.result in
    let i = c.loop.invariant in
    let k = c.loop.counter in
    record {
      seen =
          ap (else_found (shown (latest m c.args.timing es c.args.sought.now (c.args.count - (k + 1)) q))) (c.newer-found.ensures ∙ ap (λ s. newer why s c.loop.found) c.steps-steps.ensures)
          ∙ sym (one_looked m c.args.timing es c.args.sought.now c.args.count k p q why c.loop.found c.loop-test.true c.look_once-why.ensures.position c.look_once-why.ensures.reason)
          ∙ i.seen;
      room = omega (arith, i.room, c.loop-test.true, steps_most m c.args.timing es p q c.look_once-why.ensures.position);
      time = c.look_once-why.ensures.time;
      same = c.in_ok-fresh.ensures;
    }

pub returns : goal.returns
returns g c =
    sym (all_looked g.D.Device.means c.args.timing c.args.events.now.list c.args.sought.now c.args.count c.loop.counter c.loop.place.position c.loop.found c.loop-test.false) ∙ c.loop.invariant.seen
