use Rattle.std.proofs.Common.{◌≡◌, List, [], Some, None, refl, subst}
use Rattle.std.proofs.lemmas.Result.{err_from_is_err_and}
use Rattle.tool_frame.specs.Answers.{EndsOrWants}
use Rattle.tool_frame.specs.Plan.{Makes}
use Rattle.tool_frame.proofs.Ends.{read_on, read_ended, makes}
use Rattle.lab_names.specs.Name.{NameView}
use Rattle.lab_words.specs.Trace.{view_trace}
use Rattle.lab_work.specs.Files.{names_limit, names_stage}
use Rattle.lab_work.specs.Trace.{trace_due}
use Rattle.lab_work.proofs.TraceEnds.{names_told}
use Rattle.lab_work.proofs.tracing.trace_with_names.Goals as goal

pub returns-in-None : goal.returns-in-None
returns-in-None g c =
    let none : (view_trace c.args.order.now).names_name ≡ None = rw c.in-None.is refl in
    names_told tt (view_trace c.args.order.now).names_name None (λ names. Makes (trace_due (view_trace c.args.order.now) c.args.image.now c.args.events.now names) tt) none
    (makes tt {due = trace_due (view_trace c.args.order.now) c.args.image.now c.args.events.now []} _
    (subst (λ (names : List NameView). EndsOrWants c.write_trace.result (g.W.Sink.told c.args.out.now) (g.W.Sink.told c.write_trace.new.out) (trace_due (view_trace c.args.order.now) c.args.image.now c.args.events.now names)) c.new-none.ensures c.write_trace.ensures))

pub returns-in_err-names-in-Some : goal.returns-in_err-names-in-Some
returns-in_err-names-in-Some g c =
    let told : (view_trace c.args.order.now).names_name ≡ Some c.in-Some.name.now = rw c.in-Some.is refl in
    let p = err_from_is_err_and c.from_residual.result c.from_residual.ensures.1 in
    names_told tt (view_trace c.args.order.now).names_name (Some c.in-Some.name.now) (λ names. Makes (trace_due (view_trace c.args.order.now) c.args.image.now c.args.events.now names) tt) told
    (rw (p.1, p.2) (read_ended tt _ c.in-Some.name.now names_limit names_stage (λ names. Makes (trace_due (view_trace c.args.order.now) c.args.image.now c.args.events.now names) tt) _ _ _ _ c.in_err-names-in-Some.ensures))

pub returns-in_ok-names-in-Some : goal.returns-in_ok-names-in-Some
returns-in_ok-names-in-Some g c =
    let told : (view_trace c.args.order.now).names_name ≡ Some c.in-Some.name.now = rw c.in-Some.is refl in
    names_told tt (view_trace c.args.order.now).names_name (Some c.in-Some.name.now) (λ names. Makes (trace_due (view_trace c.args.order.now) c.args.image.now c.args.events.now names) tt) told
    (read_on tt _ c.in-Some.name.now names_limit names_stage (λ names. Makes (trace_due (view_trace c.args.order.now) c.args.image.now c.args.events.now names) tt) _ _ _ _ _ _ _ tt c.in_ok-names-in-Some.ensures (makes tt _ c.write_trace-in-Some.ensures))
