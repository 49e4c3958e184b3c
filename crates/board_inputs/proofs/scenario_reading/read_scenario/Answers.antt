use Rattle.std.proofs.Common.{[], subst, ap, ◌∙◌}
use Rattle.clic_regs.specs.Shape.{ClicShape}
use Rattle.board_inputs.specs.ScenarioFile.{file_opening}
use Rattle.board_inputs.specs.ScenarioReading.{Gives, in_shape, with_lines, scenario_of}
use Rattle.board_inputs.proofs.Scenario.{scenario_again, is_found}
use Rattle.board_inputs.proofs.ScenarioFault.{first_is_refused}
use Rattle.board_inputs.proofs.scenario_reading.read_scenario.Goals as goal

pub returns-clause-exact : goal.returns-clause-exact
unfolding scenario_of
returns-clause-exact c =
    let o = file_opening c.args.bytes.now in
    let same = ap (in_shape c.opening-shape.result.0) (c.opening-shape.ensures.lines c.opening-shape.result.0.inputs) ∙ ap (λ (s : ClicShape). in_shape s (with_lines s.inputs o.lines 1 [])) c.opening-shape.ensures.shape in
    subst (λ r. Gives c.events_in.result r) same c.events_in.ensures

pub returns-clause-found : goal.returns-clause-found
returns-clause-found c = is_found c.args.bytes.now c.events_in.result (returns-clause-exact c)

pub returns-clause-only : goal.returns-clause-only
returns-clause-only c = λ es h. subst (λ f. Gives c.events_in.result f) (scenario_again c.args.bytes.now es h) (returns-clause-exact c)

pub returns-clause-first : goal.returns-clause-first
returns-clause-first c = first_is_refused c.args.bytes.now c.events_in.result (returns-clause-exact c)
