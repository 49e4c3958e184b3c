use Rattle.std.proofs.Common.{◌+◌, ◌*◌, ◌/◌, ◌-◌, Bool, drop}
use Rattle.board_outside.specs.Sink.{SinkView, Writes}
use Rattle.hart_memory.specs.declared.address_map.TheConstants.{RAM_BASE, BANK_LEN}
use Rattle.hart_report.specs.Contents.{row_texts}
use Rattle.hart_report.proofs.contents.put_ram.Given as goal

-- whatever becomes of the rows that are left becomes of all rows
abbrev pub invariant-loop-row : goal.invariant-loop-row
invariant-loop-row g l =
    let told = g.W.Sink.told in
    let dead = g.X.DeadBytes.dead l.dead in
    (r : Bool) (n : SinkView) → Writes r (told l.out) n (row_texts dead (BANK_LEN / 16 - l.row) (RAM_BASE + l.row * 16) (drop (l.row * 16) l.banks.present.ram))
    → Writes r (told l.fn.out) n (row_texts dead (BANK_LEN / 16) RAM_BASE l.banks.present.ram)
