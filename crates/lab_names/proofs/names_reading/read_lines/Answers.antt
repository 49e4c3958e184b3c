use Rattle.std.proofs.Common.{option_map, ◌+◌, ◌^◌, refl, arith, None}
use Rattle.std.proofs.lemmas.Result.{err_from_is_err_and}
use Rattle.lab_names.proofs.Lines.{goes_on, fails, ended}
use Rattle.lab_names.proofs.names_reading.read_lines.Goals as goal

pub take_line-requires : goal.take_line-requires
take_line-requires c = let few = rw c.in-Some.is at c.loop-rest.invariant.few in omega (arith, few, c.cut_line.ensures.fits)

pub returns-in_err-take_line : goal.returns-in_err-take_line
returns-in_err-take_line c =
    let p = err_from_is_err_and c.from_residual.result c.from_residual.ensures.1 in
    rw (p.1, p.2) (fails c.in_err-take_line.field-0.0 _ (2 ^ 32 + 1) c.in-Some.text.now _ (option_map (λ s. s.now) c.cut_line.result.1) c.loop-rest.number c.loop-rest.names.items c.cut_line.ensures.lines (rw c.in-Some.is at c.loop-rest.invariant) c.in_err-take_line.ensures.1)

pub loop-rest-preserved : goal.loop-rest-preserved
loop-rest-preserved c = goes_on _ (2 ^ 32 + 1) c.in-Some.text.now _ (option_map (λ s. s.now) c.cut_line.result.1) c.loop-rest.number c.loop-rest.names.items c.take_line.new.names.items _ c.cut_line.ensures.lines c.cut_line.ensures.less (rw c.in-Some.is at c.loop-rest.invariant) c.in_ok-take_line.ensures

pub returns : goal.returns
returns c = ended _ (2 ^ 32 + 1) None c.loop-rest.number c.loop-rest.names.items refl (rw c.in_default.is at c.loop-rest.invariant)
