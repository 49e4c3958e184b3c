use Rattle.std.proofs.Common.{◌≡◌, Some, None, inl}
use Rattle.tool_frame.proofs.Ends.{lacks, makes}
use Rattle.template_tool.specs.Words.{order_of, view}
use Rattle.template_tool.specs.Usage.{usage_line}
use Rattle.template_tool.specs.Template.{plan_of}
use Rattle.template_tool.proofs.Asked.{by_words, misused, served_by}
use Rattle.template_tool.proofs.command.template_main.Goals as goal

pub returns-in-Ok-Some : goal.returns-in-Ok-Some
returns-in-Ok-Some g c =
    let told : Some (view c.in-Ok-Some.order) ≡ order_of c.args.words.now = rw c.in-Ok-Some.field-0-is at c.in-Ok-Some.ensures in
    let follows = by_words (Some (view c.in-Ok-Some.order)) (order_of c.args.words.now) c.follow.result (g.F.Shelf.told c.args.shelf.now) (g.F.Shelf.told c.follow.new.shelf) (g.W.Sink.told c.args.out.now) (g.W.Sink.told c.follow.new.out) told c.follow.ensures.follows in
    record {
      usage = λ none. misused _ _ _ _ _ _ follows none;
      follows = follows;
      served = λ asked is. served_by (view c.in-Ok-Some.order) asked (order_of c.args.words.now) c.follow.result (g.F.Shelf.told c.args.shelf.now) (g.F.Shelf.told c.follow.new.shelf) told is c.follow.ensures.served;
    }

pub returns-in-Ok-None : goal.returns-in-Ok-None
unfolding usage_line
returns-in-Ok-None g c =
    let told : None ≡ order_of c.args.words.now = rw c.in-Ok-None.field-0-is at c.in-Ok-None.ensures in
    let follows = by_words None (order_of c.args.words.now) c.end_usage.result (g.F.Shelf.told c.args.shelf.now) (g.F.Shelf.told c.args.shelf.now) (g.W.Sink.told c.args.out.now) (g.W.Sink.told c.end_usage.new.out) told (makes tt _ (inl c.end_usage.ensures)) in
    record {
      usage = λ none. misused _ _ _ _ _ _ follows none;
      follows = follows;
      served = λ asked is. cc;
    }

pub returns-in-Err : goal.returns-in-Err
returns-in-Err g c =
    let follows = lacks tt (plan_of (order_of c.args.words.now)) (g.F.Shelf.told c.args.shelf.now) (g.W.Sink.told c.args.out.now) in
    record {
      usage = λ none. misused _ _ _ _ _ _ follows none;
      follows = follows;
      served = λ asked is d under own. cc;
    }
