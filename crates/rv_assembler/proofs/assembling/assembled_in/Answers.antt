use Rattle.std.proofs.Common.{Ok, sym, ap, ◌∙◌, arith}
use Rattle.rv_assembler.specs.Lines.{lines_of}
use Rattle.rv_assembler.specs.Source.{Passed}
use Rattle.rv_assembler.proofs.Keeping.{passes_cut}
use Rattle.rv_assembler.proofs.Made.{passes_made}
use Rattle.rv_assembler.proofs.assembling.assembled_in.Goals as goal

pub image_of-requires : goal.image_of-requires
image_of-requires c =
    passes_cut (lines_of c.args.source.now) c.new-passing.result (record { laying = c.passing.inside.laying; symbols = c.passing.inside.symbols }) c.passing.inside.symbols c.new-building.result c.do_lines-2.new.work
    (ap (λ (x : Passed). x.laying) c.new-passing.ensures) c.new-building.ensures (c.in_ok-do_lines.ensures ∙ ap Ok (sym c.passing.view_is)) c.in_ok-do_lines-2.ensures

pub returns-in-Ok-clause-source : goal.returns-in-Ok-clause-source
returns-in-Ok-clause-source c =
    passes_made c.args.source.now c.new-passing.result c.new-building.result (record { laying = c.passing.inside.laying; symbols = c.passing.inside.symbols }) c.do_lines-2.new.work c.in-Ok.image
    c.new-passing.ensures c.new-building.ensures (omega (arith, c.if-source-gt-MAX_SOURCE.false)) (c.in_ok-do_lines.ensures ∙ ap Ok (sym c.passing.view_is)) c.in_ok-do_lines-2.ensures (sym c.if-not-is_entered.ensures) c.in-Ok.ensures
