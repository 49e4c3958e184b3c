use Rattle.std.proofs.lemmas.Result.{err_from_is_err_and}
use Rattle.tool_frame.proofs.Ends.{read_on, read_ended}
use Rattle.tool_work.specs.Files.{image_limit, image_stage, scenario_limit, scenario_stage, scenario_plan}
use Rattle.template_tool.specs.Words.{view}
use Rattle.template_tool.specs.Work.{work}
use Rattle.template_tool.proofs.Followed.{both_on, run_follows, chain_follows, taken_follows, served_of}
use Rattle.template_tool.proofs.working.work_files.Goals as goal

pub returns-in_err-image-clause-follows : goal.returns-in_err-image-clause-follows
returns-in_err-image-clause-follows g c =
    let o = c.args.order.now in
    let p = err_from_is_err_and c.from_residual.result c.from_residual.ensures.1 in
    rw (p.1, p.2) (read_ended tt _ o.image.now image_limit image_stage (λ image. scenario_plan o.scenario.now (work g.D.Device.means (g.D.Device.state c.args.devices) o.under o.bound image)) _ _ _ _ c.in_err-image.ensures)

pub returns-in_err-events-clause-follows : goal.returns-in_err-events-clause-follows
returns-in_err-events-clause-follows g c =
    let o = c.args.order.now in
    let p = err_from_is_err_and c.from_residual-in_err-events.result c.from_residual-in_err-events.ensures.1 in
    rw (p.1, p.2) (read_on tt _ o.image.now image_limit image_stage (λ image. scenario_plan o.scenario.now (work g.D.Device.means (g.D.Device.state c.args.devices) o.under o.bound image)) _ _ _ _ _ _ _ tt c.in_ok-image.ensures
    (read_ended tt _ o.scenario.now scenario_limit scenario_stage (work g.D.Device.means (g.D.Device.state c.args.devices) o.under o.bound c.in_ok-image.image) _ _ _ _ c.in_err-events.ensures))

pub returns-in-None-clause-follows : goal.returns-in-None-clause-follows
returns-in-None-clause-follows g c =
    let o = c.args.order.now in
    both_on _ o.image.now o.scenario.now (work g.D.Device.means (g.D.Device.state c.args.devices) o.under o.bound) c.in_ok-image.image c.in_ok-events.events _ _ _ _ _ _ _ c.in_ok-image.ensures c.in_ok-events.ensures
    (run_follows g.D.Device.means (g.D.Device.state c.args.devices) o.under o.bound c.in_ok-image.image c.in_ok-events.events c.in-Ok.board _ c.in-Ok.ensures.board c.in-None.is c.run_board.ensures)

pub returns-in-Some-slot_taken-clause-follows : goal.returns-in-Some-slot_taken-clause-follows
returns-in-Some-slot_taken-clause-follows g c =
    let o = c.args.order.now in
    both_on _ o.image.now o.scenario.now (work g.D.Device.means (g.D.Device.state c.args.devices) o.under o.bound) c.in_ok-image.image c.in_ok-events.events _ _ _ _ _ _ _ c.in_ok-image.ensures c.in_ok-events.ensures
    (taken_follows g.D.Device.means (g.D.Device.state c.args.devices) o.under c.in-Some.under o.bound c.in_ok-image.image c.in_ok-events.events c.in-Some-slot_taken.at _ c.in-Some.is c.in-Some-slot_taken.ensures c.line_of_slot.ensures c.end_refused.ensures)

pub returns-clause-follows : goal.returns-clause-follows
returns-clause-follows g c =
    let o = c.args.order.now in
    both_on _ o.image.now o.scenario.now (work g.D.Device.means (g.D.Device.state c.args.devices) o.under o.bound) c.in_ok-image.image c.in_ok-events.events _ _ _ _ _ _ _ c.in_ok-image.ensures c.in_ok-events.ensures
    (chain_follows g.D.Device.means (g.D.Device.state c.args.devices) o.under c.in-Some.under o.bound c.in_ok-image.image c.in_ok-events.events c.in-Ok.board _ c.in-Ok.ensures.board c.in-Some.is c.in-None-slot_taken.ensures c.chain_board.ensures.ends)

pub returns-clause-served : goal.returns-clause-served
returns-clause-served g c = λ d is own.
    served_of g.D.Device.means (g.D.Device.state c.args.devices) (view c.args.order.now) c.in-Some.under d c.in_ok-image.image c.in_ok-events.events c.in-Ok.board _ _
    (record { between = _; image_passed = c.in_ok-image.ensures.passes; scenario_passed = c.in_ok-events.ensures.passes })
    c.in-None-slot_taken.ensures c.in-Ok.ensures.board c.in-Some.is is (c.chain_board.ensures.served own)
