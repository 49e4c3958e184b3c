use Rattle.std.proofs.Common.{None}
use Rattle.std.proofs.lemmas.Result.{err_from_is_err_and}
use Rattle.tool_frame.specs.Plan.{Makes}
use Rattle.tool_frame.proofs.Ends.{read_on, read_ended, makes_with}
use Rattle.tool_work.specs.Bench.{empty_bench}
use Rattle.tool_work.specs.Files.{image_limit, image_stage, scenario_limit, scenario_stage, scenario_plan}
use Rattle.tool_words.specs.Chain.{view_chain}
use Rattle.tool_work.specs.Chain.{slot_plan, chain_due, chain_left}
use Rattle.tool_work.proofs.ChainEnds.{least_is, taken_ends, free_ends}
use Rattle.tool_work.proofs.chaining.chain_files.Goals as goal

pub returns-in_err-image-clause-follows : goal.returns-in_err-image-clause-follows
returns-in_err-image-clause-follows g c =
    let p = err_from_is_err_and c.from_residual.result c.from_residual.ensures.1 in
    rw (p.1, p.2, c.requires.empty) (read_ended empty_bench _ c.args.order.now.image.now image_limit image_stage (λ image. scenario_plan c.args.order.now.scenario.now (slot_plan (view_chain c.args.order.now) image)) _ _ _ _ c.in_err-image.ensures)

pub returns-in_err-events-clause-follows : goal.returns-in_err-events-clause-follows
returns-in_err-events-clause-follows g c =
    let p = err_from_is_err_and c.from_residual-in_err-events.result c.from_residual-in_err-events.ensures.1 in
    rw (p.1, p.2, c.requires.empty) (read_on empty_bench _ c.args.order.now.image.now image_limit image_stage (λ image. scenario_plan c.args.order.now.scenario.now (slot_plan (view_chain c.args.order.now) image)) _ _ _ _ _ _ _ empty_bench c.in_ok-image.ensures
    (read_ended empty_bench _ c.args.order.now.scenario.now scenario_limit scenario_stage (slot_plan (view_chain c.args.order.now) c.in_ok-image.image) _ _ _ _ c.in_err-events.ensures))

pub returns-in-Some-clause-follows : goal.returns-in-Some-clause-follows
returns-in-Some-clause-follows g c =
    rw c.requires.empty (read_on empty_bench _ c.args.order.now.image.now image_limit image_stage (λ image. scenario_plan c.args.order.now.scenario.now (slot_plan (view_chain c.args.order.now) image)) _ _ _ _ _ _ _ empty_bench c.in_ok-image.ensures
    (read_on empty_bench _ c.args.order.now.scenario.now scenario_limit scenario_stage (slot_plan (view_chain c.args.order.now) c.in_ok-image.image) _ _ _ _ _ _ _ empty_bench c.in_ok-events.ensures
    (taken_ends empty_bench c.in_ok-image.image c.in-Some.at (Makes (chain_due (view_chain c.args.order.now) c.in_ok-image.image c.in_ok-events.events) (chain_left (view_chain c.args.order.now) c.in_ok-image.image c.in_ok-events.events)) _ c.in-Some.ensures c.line_of_slot.ensures c.end_refused.ensures)))

pub returns-clause-follows : goal.returns-clause-follows
returns-clause-follows g c =
    read_on empty_bench _ c.args.order.now.image.now image_limit image_stage (λ image. scenario_plan c.args.order.now.scenario.now (slot_plan (view_chain c.args.order.now) image)) _ _ _ _ _ _ _ _ c.in_ok-image.ensures
    (read_on empty_bench _ c.args.order.now.scenario.now scenario_limit scenario_stage (slot_plan (view_chain c.args.order.now) c.in_ok-image.image) _ _ _ _ _ _ _ _ c.in_ok-events.ensures
    (free_ends empty_bench c.in_ok-image.image (Makes (chain_due (view_chain c.args.order.now) c.in_ok-image.image c.in_ok-events.events) (chain_left (view_chain c.args.order.now) c.in_ok-image.image c.in_ok-events.events)) c.in-None.ensures
    (makes_with empty_bench (chain_left (view_chain c.args.order.now) c.in_ok-image.image c.in_ok-events.events) {due = chain_due (view_chain c.args.order.now) c.in_ok-image.image c.in_ok-events.events} _ c.chain_image.ensures.ends c.chain_image.ensures.leaves)))

pub returns-clause-served : goal.returns-clause-served
returns-clause-served g c = λ own. record {
  image = c.in_ok-image.image;
  events = c.in_ok-events.events;
  files = record { between = _; image_passed = c.in_ok-image.ensures.passes; scenario_passed = c.in_ok-events.ensures.passes };
  free = least_is c.in_ok-image.image None c.in-None.ensures;
  served = c.chain_image.ensures.served own;
  agree = c.chain_image.ensures.agree own;
  checked = c.chain_image.ensures.checked own;
}
