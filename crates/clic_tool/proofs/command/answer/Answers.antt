use Rattle.tool_work.specs.Bench.{empty_bench}
use Rattle.std.proofs.Common.{◌≡◌, ◌∙◌, Option, Some, None, ap, subst, inl}
use Rattle.std.specs.Prelude.{unwrap_or}
use Rattle.tool_frame.specs.Answers.{FollowsWith}
use Rattle.tool_frame.proofs.Ends.{lacks, makes}
use Rattle.tool_words.specs.Order.{Order, order_of, view}
use Rattle.clic_tool.specs.Plan.{plan_of}
use Rattle.clic_tool.proofs.command.answer.Goals as goal

pub returns-in-Ok-Some-clause-follows : goal.returns-in-Ok-Some-clause-follows
returns-in-Ok-Some-clause-follows g c =
    let told : Some (view c.in-Ok-Some.order) ≡ order_of c.args.words.now = rw c.in-Ok-Some.field-0-is at c.in-Ok-Some.ensures in
    subst (λ (o : Option Order). FollowsWith empty_bench c.follow.result (plan_of o) (g.F.Shelf.told c.args.shelf.now) (g.F.Shelf.told c.follow.new.shelf) (g.W.Sink.told c.args.out.now) (g.W.Sink.told c.follow.new.out) c.follow.new.bench) told c.follow.ensures.follows

pub returns-in-Ok-None-clause-follows : goal.returns-in-Ok-None-clause-follows
returns-in-Ok-None-clause-follows g c =
    let told : None ≡ order_of c.args.words.now = rw c.in-Ok-None.field-0-is at c.in-Ok-None.ensures in
    subst (λ (o : Option Order). FollowsWith empty_bench c.end_usage.result (plan_of o) (g.F.Shelf.told c.args.shelf.now) (g.F.Shelf.told c.args.shelf.now) (g.W.Sink.told c.args.out.now) (g.W.Sink.told c.end_usage.new.out) c.args.bench.now) told (rw c.requires.empty (makes empty_bench _ (inl c.end_usage.ensures)))

pub returns-in-Err-clause-follows : goal.returns-in-Err-clause-follows
returns-in-Err-clause-follows g c = rw c.requires.empty (lacks empty_bench _ _ _)

pub returns-in-Ok-Some-clause-served_generated : goal.returns-in-Ok-Some-clause-served_generated
returns-in-Ok-Some-clause-served_generated g c = λ gen is own.
    let told : Some (view c.in-Ok-Some.order) ≡ order_of c.args.words.now = rw c.in-Ok-Some.field-0-is at c.in-Ok-Some.ensures in
    c.follow.ensures.served_generated gen (ap (λ (o : Option Order). unwrap_or o (view c.in-Ok-Some.order)) (told ∙ is)) own
