use Rattle.std.proofs.Common.{◌≡◌, ◌+◌, drop, sym, ap, subst, ◌∙◌, arith, IsTrue}
use Rattle.hart_board.specs.State.{State}
use Rattle.hart_board.specs.Event.{is_free, with_events}
use Rattle.hart_board.proofs.Taking.{none_due, ahead_next, passed_next, taken_next}
use Rattle.hart_board.proofs.Shapes.{arrived_has}
use Rattle.hart_board.proofs.arrivals.take_due.Goals as goal

pub loop-board-preserved : goal.loop-board-preserved
loop-board-preserved g c =
    let m = g.D.Device.means in
    let es = c.args.events.now.list in
    let n = c.args.events.now.shape.inputs in
    let i = c.loop-board.next in
    let e = c.get.result in
    let found = c.get.ensures.event in
    let is = c.is_due.ensures.there c.loop-board-test.true in
    let same : e.at ≡ c.args.count = is.1 e found in
    record {
      kept = c.arrive.ensures.kept ∙ c.loop-board.invariant.kept;
      shape = c.loop-board.invariant.shape ∙ sym (ap (λ (s : State). s.outside.clic.shape) c.arrive.ensures.arrived ∙ arrived_has m c.loop-board.board e.what);
      within = omega (arith, is.0);
      ahead = ahead_next n c.args.count es i e found c.loop-board.invariant.ahead same;
      passed = λ d s l. c.loop-board.invariant.passed d s l ∙ passed_next m d es i e s found (omega (arith, same, l));
      board = ap (with_events m c.args.count (drop (i + 1) es)) c.arrive.ensures.arrived
          ∙ sym (taken_next m c.args.count es i e c.loop-board.board found same)
          ∙ c.loop-board.invariant.board;
    }

pub arrive-requires : goal.arrive-requires
arrive-requires g c = subst (λ s. IsTrue (is_free s.inputs c.get.result.what)) c.loop-board.invariant.shape c.get.ensures.free

pub returns-clause-ahead : goal.returns-clause-ahead
returns-clause-ahead g c = c.ahead_at.ensures.ahead (c.args.count + 1) (c.is_due.ensures.later c.loop-board-test.false c.loop-board.invariant.ahead)

pub returns-clause-board : goal.returns-clause-board
returns-clause-board g c =
    let later = c.is_due.ensures.later c.loop-board-test.false c.loop-board.invariant.ahead in
    sym (none_due g.D.Device.means c.args.events.now.shape.inputs c.args.count (drop c.loop-board.next c.args.events.now.list) c.loop-board.board later) ∙ c.loop-board.invariant.board

pub returns-clause-kept : goal.returns-clause-kept
returns-clause-kept g c = c.loop-board.invariant.kept

pub overflow_add-next : goal.overflow_add-next
overflow_add-next g c = let l = c.is_due.ensures.room c.loop-board-test.true in omega (arith, l)
