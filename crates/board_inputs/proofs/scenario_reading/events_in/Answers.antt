use Rattle.std.proofs.Common.{option_map, ◌∙◌, ◌+◌, ◌^◌, ap, refl, subst, arith, Ok, None}
use Rattle.std.proofs.lemmas.Result.{err_from_is_err_and}
use Rattle.clic_regs.specs.Shape.{ClicShape}
use Rattle.hart_board.specs.Event.{EventList}
use Rattle.board_inputs.specs.ScenarioReading.{Becomes, Fails, with_line}
use Rattle.board_inputs.proofs.LineLoop.{starts, goes_on, fails, ended, fails_in, ended_in}
use Rattle.board_inputs.proofs.scenario_reading.events_in.Goals as goal

pub loop-rest-init : goal.loop-rest-init
loop-rest-init c = record {
  shape = ap (λ (s : EventList). s.shape) c.new-events.ensures;
  reads = starts c.args.shape.inputs (2 ^ 32 + 1) (option_map (λ s. s.now) c.args.lines) c.args.first c.new-events.result.list (ap (λ (s : EventList). s.list) c.new-events.ensures) c.requires.few;
}

pub take_line-requires : goal.take_line-requires
take_line-requires c = let few = rw c.in-Some.is at c.loop-rest.invariant.reads.few in omega (arith, few, c.cut_line.ensures.fits)

pub returns-in_err-take_line : goal.returns-in_err-take_line
returns-in_err-take_line c =
    let p = err_from_is_err_and c.from_residual.result c.from_residual.ensures.1 in
    let inv = c.loop-rest.invariant in
    let refused = subst (λ (s : ClicShape). Fails c.in_err-take_line.field-0.0 (with_line s.inputs c.cut_line.result.0.now c.loop-rest.number c.loop-rest.events.list)) inv.shape c.in_err-take_line.ensures.list.1 in
    rw (p.1, p.2) (fails_in c.args.shape c.in_err-take_line.field-0.0 _ (fails c.args.shape.inputs c.in_err-take_line.field-0.0 _ (2 ^ 32 + 1) c.in-Some.text.now _ (option_map (λ s. s.now) c.cut_line.result.1) c.loop-rest.number c.loop-rest.events.list c.cut_line.ensures.lines (rw c.in-Some.is at inv.reads) refused))

pub loop-rest-smaller : goal.loop-rest-smaller
loop-rest-smaller c = rw c.in-Some.is (omega (arith, c.cut_line.ensures.less))

pub loop-rest-preserved : goal.loop-rest-preserved
loop-rest-preserved c =
    let inv = c.loop-rest.invariant in
    let becomes = subst (λ (s : ClicShape). Becomes c.loop-rest.events.list c.take_line.new.events.list (Ok _) (with_line s.inputs c.cut_line.result.0.now c.loop-rest.number c.loop-rest.events.list)) inv.shape c.in_ok-take_line.ensures.list in
    record {
      shape = c.in_ok-take_line.ensures.shape ∙ inv.shape;
      reads = goes_on c.args.shape.inputs _ (2 ^ 32 + 1) c.in-Some.text.now _ (option_map (λ s. s.now) c.cut_line.result.1) c.loop-rest.number c.loop-rest.events.list c.take_line.new.events.list _ c.cut_line.ensures.lines c.cut_line.ensures.less (rw c.in-Some.is at inv.reads) becomes;
    }

pub returns : goal.returns
returns c = ended_in c.args.shape _ c.loop-rest.events c.loop-rest.invariant.shape (ended c.args.shape.inputs _ (2 ^ 32 + 1) None c.loop-rest.number c.loop-rest.events.list refl (rw c.in_default.is at c.loop-rest.invariant.reads))
