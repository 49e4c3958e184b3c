use Rattle.tool_work.specs.Bench.{empty_bench}
use Rattle.tool_words.specs.Order.{order_of}
use Rattle.clic_tool.specs.Plan.{plan_of}
use Rattle.tool_frame.proofs.Calm.{calm_done}
use Rattle.tool_frame.proofs.Left.{calm_left}
use Rattle.tool_frame.proofs.Complete.{complete, none_rose}
use Rattle.tool_frame.proofs.Fits.{IsOfCommand}
use Rattle.tool_frame.proofs.Causes.{done_cause, absent_cause, failed_cause, refused_cause, sink_cause, memory_cause, stops_short, shelf_faults, shelf_absences}
use Rattle.clic_tool.proofs.Plans.{plan_fits, plan_own, plan_begins}
use Rattle.clic_tool.proofs.OrderCauses.{of_misuse, halted_cause, chained_cause, budget_cause, broken_cause, vector_cause, usage_cause}
use Rattle.clic_tool.proofs.GenCauses.{generated_cause}
use Rattle.clic_tool.proofs.MonitorCauses.{monitor_memory}
use Rattle.clic_tool.proofs.LintCauses.{linted_cause, bounded_cause, rejected_cause}
use Rattle.clic_tool.proofs.command.clic_main.Goals as goal

-- each clause follows from what was done
pub returns : goal.returns
returns g c =
    let status = c.answer.result in
    let order = order_of c.args.words.now in
    let plan = plan_of order in
    let shelf = g.F.Shelf.told c.args.shelf.now in
    let shelf' = g.F.Shelf.told c.answer.new.shelf in
    let sink = g.W.Sink.told c.args.out.now in
    let sink' = g.W.Sink.told c.answer.new.out in
    let bench = c.answer.new.bench in
    let done = c.answer.ensures.follows in
    let own = plan_own order in
    record {
      usage = λ none. of_misuse order status shelf shelf' sink sink' bench none done;
      command = done;
      served = c.answer.ensures.served;
      served_generated = c.answer.ensures.served_generated;
      due = calm_done IsOfCommand empty_bench status plan shelf shelf' sink sink' bench own done;
      boards = calm_left empty_bench status plan shelf shelf' sink sink' bench own done;
      complete = complete IsOfCommand empty_bench status plan shelf shelf' sink sink' bench own done;
      complete_counts = none_rose IsOfCommand empty_bench status plan shelf shelf' sink sink' bench own done;
      status_done = done_cause empty_bench plan status shelf shelf' sink sink' bench done;
      status_done_halted = halted_cause order status shelf shelf' sink sink' bench done;
      status_done_chained = chained_cause order status shelf shelf' sink sink' bench done;
      status_done_generated = generated_cause order status shelf shelf' sink sink' bench done;
      status_done_linted = linted_cause order status shelf shelf' sink sink' bench done;
      status_done_bounded = bounded_cause order status shelf shelf' sink sink' bench done;
      status_budget_spent = budget_cause order status shelf shelf' sink sink' bench done;
      status_broken = broken_cause order status shelf shelf' sink sink' bench done;
      status_usage = usage_cause order status shelf shelf' sink sink' bench done;
      status_absent = absent_cause empty_bench plan status shelf shelf' sink sink' bench own done;
      status_shelf_failed = failed_cause empty_bench plan status shelf shelf' sink sink' bench own done;
      status_refused = refused_cause empty_bench plan status shelf shelf' sink sink' bench (plan_begins order) own done;
      status_sink_failed = sink_cause empty_bench plan status shelf shelf' sink sink' bench own done;
      status_memory = λ other. memory_cause empty_bench plan status shelf shelf' sink sink' bench (plan_fits order other) done;
      status_memory_in_script = monitor_memory order status shelf shelf' sink sink' bench done;
      status_rejected = rejected_cause order status shelf shelf' sink sink' bench done;
      status_vector_fault = vector_cause order status shelf shelf' sink sink' bench done;
      sink_faults_rose = stops_short IsOfCommand empty_bench plan status shelf shelf' sink sink' bench own done;
      shelf_faults_rose = shelf_faults empty_bench plan status shelf shelf' sink sink' bench done;
      absences_rose = shelf_absences empty_bench plan status shelf shelf' sink sink' bench done;
    }
