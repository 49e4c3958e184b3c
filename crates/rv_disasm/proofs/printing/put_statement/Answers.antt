use Rattle.std.proofs.Common.{arith, ap, length}
use Rattle.rv_disasm.proofs.Sentences.{room_of_statement}
use Rattle.rv_disasm.proofs.printing.put_statement.Goals as goal

pub put_text-requires : goal.put_text-requires
put_text-requires c =
    let t = room_of_statement c.args.statement.now _ _ _ c.requires.fits c.kind_of.ensures c.values_of-values.ensures c.form_for-form.ensures in
    omega (arith, t.short, ap length c.requires.empty)

pub put_operands-requires-clause-fits : goal.put_operands-requires-clause-fits
put_operands-requires-clause-fits c =
    let t = room_of_statement c.args.statement.now _ _ _ c.requires.fits c.kind_of.ensures c.values_of-values.ensures c.form_for-form.ensures in
    t.fit

pub put_operands-requires-clause-room : goal.put_operands-requires-clause-room
put_operands-requires-clause-room c =
    let t = room_of_statement c.args.statement.now _ _ _ c.requires.fits c.kind_of.ensures c.values_of-values.ensures c.form_for-form.ensures in
    omega (arith, t.short, t.room, c.put_text.ensures.len, ap length c.requires.empty)

pub returns-clause-len : goal.returns-clause-len
returns-clause-len c =
    let t = room_of_statement c.args.statement.now _ _ _ c.requires.fits c.kind_of.ensures c.values_of-values.ensures c.form_for-form.ensures in
    omega (arith, t.short, t.room, c.put_text.ensures.len, c.put_operands.ensures.len, ap length c.requires.empty)
