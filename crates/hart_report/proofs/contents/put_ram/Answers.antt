use Rattle.std.proofs.Common.{◌<◌, ◌≤◌, ◌+◌, ◌*◌, ◌/◌, true, false, drop, arith}
use Rattle.board_outside.proofs.Writing.{then_writes, stops_writing, writes_nothing}
use Rattle.hart_memory.specs.declared.address_map.TheConstants.{RAM_BASE, BANK_LEN}
use Rattle.hart_report.specs.Contents.{ram_part}
use Rattle.hart_report.proofs.Texts.{stopped}
use Rattle.hart_report.proofs.Rows.{row_texts_step, no_row_texts}
use Rattle.hart_report.proofs.contents.put_ram.Goals as goal

pub returns-in_err-put_row : goal.returns-in_err-put_row
unfolding ram_part
returns-in_err-put_row g c =
    let dead = g.X.DeadBytes.dead c.args.dead.now in
    let in_range : c.loop-row.row < BANK_LEN / 16 = c.loop-row-test.true in
    stopped c.from_residual.result c.from_residual.ensures.0
    (c.loop-row.invariant false _ (rw (row_texts_step dead (BANK_LEN / 16) c.loop-row.row RAM_BASE c.args.banks.now.present.ram in_range) (stops_writing _ c.in_err-put_row.ensures)))

pub loop-row-preserved : goal.loop-row-preserved
loop-row-preserved g c r n later =
    let dead = g.X.DeadBytes.dead c.args.dead.now in
    let in_range : c.loop-row.row < BANK_LEN / 16 = c.loop-row-test.true in
    c.loop-row.invariant r n (rw (row_texts_step dead (BANK_LEN / 16) c.loop-row.row RAM_BASE c.args.banks.now.present.ram in_range) (then_writes c.in_ok-put_row.ensures later))

pub returns : goal.returns
unfolding ram_part
returns g c =
    let dead = g.X.DeadBytes.dead c.args.dead.now in
    let past : BANK_LEN / 16 ≤ c.loop-row.row = omega (arith, c.loop-row-test.false) in
    c.loop-row.invariant true _ (rw (no_row_texts dead (BANK_LEN / 16) c.loop-row.row (RAM_BASE + c.loop-row.row * 16) (drop (c.loop-row.row * 16) c.args.banks.now.present.ram) past) (writes_nothing _))
