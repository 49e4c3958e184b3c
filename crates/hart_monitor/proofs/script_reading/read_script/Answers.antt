use Rattle.std.proofs.Common.{option_map, ◌∙◌, ◌+◌, ◌^◌, sym, subst, refl, arith, None, Ok}
use Rattle.std.proofs.lemmas.Result.{err_from_is_err_and}
use Rattle.hart_monitor.specs.ScriptReading.{Gives}
use Rattle.hart_monitor.proofs.LineLoop.{goes_on, fails, ended}
use Rattle.hart_monitor.proofs.ScriptTold.{script_again, is_found}
use Rattle.hart_monitor.proofs.ScriptFault.{first_is_refused}
use Rattle.hart_monitor.proofs.script_reading.read_script.Goals as goal

pub take_line-requires : goal.take_line-requires
take_line-requires c = let few = rw c.in-Some.is at c.loop-rest.invariant.few in omega (arith, few, c.cut_line.ensures.fits)

pub returns-in_err-take_line-clause-exact : goal.returns-in_err-take_line-clause-exact
returns-in_err-take_line-clause-exact c =
    let p = err_from_is_err_and c.from_residual.result c.from_residual.ensures.1 in
    rw (p.1, p.2) (fails c.in_err-take_line.field-0.0 _ (2 ^ 32 + 1) c.in-Some.text.now _ (option_map (λ s. s.now) c.cut_line.result.1) c.loop-rest.number c.loop-rest.script c.cut_line.ensures.lines (rw c.in-Some.is at c.loop-rest.invariant) c.in_err-take_line.ensures.1)

pub returns-in_err-take_line-clause-found : goal.returns-in_err-take_line-clause-found
returns-in_err-take_line-clause-found c = is_found c.args.bytes.now c.from_residual.result (returns-in_err-take_line-clause-exact c)

pub returns-in_err-take_line-clause-only : goal.returns-in_err-take_line-clause-only
returns-in_err-take_line-clause-only c = λ cs h. subst (λ f. Gives c.from_residual.result f) (script_again c.args.bytes.now cs h) (returns-in_err-take_line-clause-exact c)

pub returns-in_err-take_line-clause-first : goal.returns-in_err-take_line-clause-first
returns-in_err-take_line-clause-first c = first_is_refused c.args.bytes.now c.from_residual.result (returns-in_err-take_line-clause-exact c)

pub loop-rest-preserved : goal.loop-rest-preserved
loop-rest-preserved c = goes_on _ (2 ^ 32 + 1) c.in-Some.text.now _ (option_map (λ s. s.now) c.cut_line.result.1) c.loop-rest.number c.loop-rest.script c.take_line.new.script _ c.cut_line.ensures.lines c.cut_line.ensures.less (rw c.in-Some.is at c.loop-rest.invariant) c.in_ok-take_line.ensures

pub returns-clause-exact : goal.returns-clause-exact
returns-clause-exact c = ended _ (2 ^ 32 + 1) None c.loop-rest.number c.loop-rest.script refl (rw c.in_default.is at c.loop-rest.invariant)

pub returns-clause-found : goal.returns-clause-found
returns-clause-found c = is_found c.args.bytes.now (Ok c.loop-rest.script) (returns-clause-exact c)

pub returns-clause-only : goal.returns-clause-only
returns-clause-only c = λ cs h. sym (script_again c.args.bytes.now cs h) ∙ returns-clause-exact c
