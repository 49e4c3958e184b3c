use Rattle.std.proofs.Common.{◌∙◌, ℕ, List, sym, ap, subst}
use Rattle.board_template.specs.Template.{template_state}
use Rattle.tool_frame.specs.Answers.{Follows, status_in}
use Rattle.tool_frame.specs.Code.{origin_of}
use Rattle.tool_frame.specs.declared.status.Status.{Status}
use Rattle.template_tool.specs.Words.{view}
use Rattle.template_tool.specs.Work.{files_then_work, ServedTo}
use Rattle.template_tool.specs.Template.{template_meanings, flash_contents}
use Rattle.template_tool.proofs.command.follow.Goals as goal

-- what was proved for any devices, of these
pub returns-in-Ok-clause-follows : goal.returns-in-Ok-clause-follows
unfolding template_meanings flash_contents
returns-in-Ok-clause-follows g c =
    subst (λ (s : Status). Follows tt s (files_then_work template_meanings (template_state flash_contents) (view c.args.order.now)) (g.F.Shelf.told c.args.shelf.now) (g.F.Shelf.told c.work_files.new.shelf) (g.W.Sink.told c.args.out.now) (g.W.Sink.told c.work_files.new.out)) (sym c.status_in.ensures)
    (subst (λ (devices : List ℕ). Follows tt (status_in c.work_files.result) (files_then_work template_meanings devices (view c.args.order.now)) (g.F.Shelf.told c.args.shelf.now) (g.F.Shelf.told c.work_files.new.shelf) (g.W.Sink.told c.args.out.now) (g.W.Sink.told c.work_files.new.out)) c.in-Ok.ensures.state
    c.work_files.ensures.follows)

pub returns-in-Ok-clause-served : goal.returns-in-Ok-clause-served
unfolding template_meanings flash_contents
returns-in-Ok-clause-served g c = λ d under own.
    subst (λ (devices : List ℕ). ServedTo template_meanings devices (view c.args.order.now) d (g.F.Shelf.told c.args.shelf.now) (g.F.Shelf.told c.work_files.new.shelf)) c.in-Ok.ensures.state
    (c.work_files.ensures.served d under (sym (ap origin_of c.status_in.ensures) ∙ own))
