use Rattle.lab_words.specs.Order.{order_of}
use Rattle.clic_lab.specs.Plan.{plan_of}
use Rattle.tool_frame.proofs.Calm.{calm_done}
use Rattle.tool_frame.proofs.Complete.{complete, none_rose}
use Rattle.tool_frame.proofs.Fits.{IsOfCommand}
use Rattle.tool_frame.proofs.Causes.{done_cause, absent_cause, failed_cause, refused_cause, sink_cause, memory_cause, stops_short, shelf_faults, shelf_absences}
use Rattle.lab_work.proofs.TraceEnds.{is_plain}
use Rattle.clic_lab.proofs.Plans.{plan_fits, plan_own, plan_begins}
use Rattle.clic_lab.proofs.OrderCauses.{of_misuse, swept_cause, traced_cause, budget_cause, broken_cause, vector_cause, rejected_cause, usage_cause}
use Rattle.clic_lab.proofs.command.lab_main.Goals as goal

-- each clause follows from what was done
pub returns : goal.returns
returns g c =
    let status = c.answer.result in
    let order = order_of c.args.words.now in
    let plan = plan_of order in
    let shelf = g.F.Shelf.told c.args.shelf.now in
    let shelf' = g.F.Shelf.told c.answer.new.shelf in
    let sink = g.W.Sink.told c.args.out.now in
    let sink' = g.W.Sink.told c.answer.new.out in
    let done = c.answer.ensures in
    let own = plan_own order in
    record {
      usage = λ none. of_misuse order status shelf shelf' sink sink' none done;
      command = done;
      due = calm_done IsOfCommand tt status plan shelf shelf' sink sink' tt own done;
      complete = complete IsOfCommand tt status plan shelf shelf' sink sink' tt own done;
      complete_counts = none_rose IsOfCommand tt status plan shelf shelf' sink sink' tt own done;
      plain = λ trace is. is_plain trace;
      status_done = done_cause tt plan status shelf shelf' sink sink' tt done;
      status_done_swept = swept_cause order status shelf shelf' sink sink' done;
      status_done_traced = traced_cause order status shelf shelf' sink sink' done;
      status_budget_spent = budget_cause order status shelf shelf' sink sink' done;
      status_broken = broken_cause order status shelf shelf' sink sink' done;
      status_usage = usage_cause order status shelf shelf' sink sink' done;
      status_absent = absent_cause tt plan status shelf shelf' sink sink' tt own done;
      status_shelf_failed = failed_cause tt plan status shelf shelf' sink sink' tt own done;
      status_refused = refused_cause tt plan status shelf shelf' sink sink' tt (plan_begins order) own done;
      status_sink_failed = sink_cause tt plan status shelf shelf' sink sink' tt own done;
      status_memory = memory_cause tt plan status shelf shelf' sink sink' tt (plan_fits order) done;
      status_vector_fault = vector_cause order status shelf shelf' sink sink' done;
      status_rejected = rejected_cause order status shelf shelf' sink sink' done;
      sink_faults_rose = stops_short IsOfCommand tt plan status shelf shelf' sink sink' tt own done;
      shelf_faults_rose = shelf_faults tt plan status shelf shelf' sink sink' tt done;
      absences_rose = shelf_absences tt plan status shelf shelf' sink sink' tt done;
    }
