use Rattle.std.proofs.Common.{codes}
use Rattle.hart_report.proofs.Texts.{stopped}
use Rattle.lab_trace.specs.Added.{spelled, added}
use Rattle.lab_trace.specs.Named.{name_of, instruction_of, named_line}
use Rattle.lab_trace.proofs.Parts.{first_fails, second_fails, third_fails, fourth}
use Rattle.lab_trace.proofs.naming.put_line.Goals as goal

pub returns-in_err-put_spelled : goal.returns-in_err-put_spelled
unfolding named_line
returns-in_err-put_spelled g c =
    let told = c.line_told-told.result in
    let name = added (name_of c.args.names.now c.args.next told) in
    stopped c.from_residual.result c.from_residual.ensures.0 (rw (← c.line_told-told.ensures) (first_fails (spelled c.args.line.now) name (added (instruction_of told)) (codes "\n") c.in_err-put_spelled.ensures))

pub returns-in_err-put_name_of : goal.returns-in_err-put_name_of
unfolding named_line
returns-in_err-put_name_of g c =
    let told = c.line_told-told.result in
    let name = added (name_of c.args.names.now c.args.next told) in
    stopped c.from_residual-in_err-put_name_of.result c.from_residual-in_err-put_name_of.ensures.0 (rw (← c.line_told-told.ensures) (second_fails (spelled c.args.line.now) name (added (instruction_of told)) (codes "\n") c.in_ok-put_spelled.ensures c.in_err-put_name_of.ensures))

pub returns-in_err-put_instruction : goal.returns-in_err-put_instruction
unfolding named_line
returns-in_err-put_instruction g c =
    let told = c.line_told-told.result in
    let name = added (name_of c.args.names.now c.args.next told) in
    stopped c.from_residual-in_err-put_instruction.result c.from_residual-in_err-put_instruction.ensures.0 (rw (← c.line_told-told.ensures) (third_fails (spelled c.args.line.now) name (added (instruction_of told)) (codes "\n") c.in_ok-put_spelled.ensures c.in_ok-put_name_of.ensures c.in_err-put_instruction.ensures))

pub returns : goal.returns
unfolding named_line
returns g c =
    let told = c.line_told-told.result in
    let name = added (name_of c.args.names.now c.args.next told) in
    rw (← c.line_told-told.ensures) (fourth (spelled c.args.line.now) name (added (instruction_of told)) (codes "\n") c.in_ok-put_spelled.ensures c.in_ok-put_name_of.ensures c.in_ok-put_instruction.ensures c.put.ensures)
