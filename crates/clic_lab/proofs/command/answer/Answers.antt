use Rattle.std.proofs.Common.{◌≡◌, ◌∙◌, Option, Some, None, sym, ap, subst, inl}
use Rattle.tool_frame.specs.Answers.{Follows}
use Rattle.tool_frame.proofs.Ends.{lacks, makes}
use Rattle.lab_words.specs.Order.{Order, order_of, view}
use Rattle.lab_words.proofs.Parted.{parts_of_order}
use Rattle.clic_lab.specs.Plan.{plan_of}
use Rattle.clic_lab.proofs.command.answer.Goals as goal

pub follow-requires : goal.follow-requires
follow-requires g c = record {
  parts = λ sweep is.
      (let told : Some (view c.in-Ok-Some.order) ≡ order_of c.args.words.now = rw c.in-Ok-Some.field-0-is at c.in-Ok-Some.ensures in
      parts_of_order c.args.words.now sweep (sym told ∙ ap Some is));
}

pub returns-in-Ok-Some : goal.returns-in-Ok-Some
returns-in-Ok-Some g c =
    let told : Some (view c.in-Ok-Some.order) ≡ order_of c.args.words.now = rw c.in-Ok-Some.field-0-is at c.in-Ok-Some.ensures in
    subst (λ (o : Option Order). Follows tt c.follow.result (plan_of o) (g.F.Shelf.told c.args.shelf.now) (g.F.Shelf.told c.follow.new.shelf) (g.W.Sink.told c.args.out.now) (g.W.Sink.told c.follow.new.out)) told c.follow.ensures

pub returns-in-Ok-None : goal.returns-in-Ok-None
returns-in-Ok-None g c =
    let told : None ≡ order_of c.args.words.now = rw c.in-Ok-None.field-0-is at c.in-Ok-None.ensures in
    subst (λ (o : Option Order). Follows tt c.end_usage.result (plan_of o) (g.F.Shelf.told c.args.shelf.now) (g.F.Shelf.told c.args.shelf.now) (g.W.Sink.told c.args.out.now) (g.W.Sink.told c.end_usage.new.out)) told (makes tt _ (inl c.end_usage.ensures))

pub returns-in-Err : goal.returns-in-Err
returns-in-Err g c = lacks tt _ _ _
