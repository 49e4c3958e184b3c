use Rattle.std.proofs.Common.{◌+◌, ◌-◌, ◌*◌, Bool}
use Rattle.std.specs.Int.{div_ceil}
use Rattle.board_outside.specs.Sink.{SinkView, Writes}
use Rattle.hart_monitor.specs.Bytes.{bytes_lines}
use Rattle.hart_monitor.proofs.bytes.put_bytes.Given as goal

-- whatever becomes of the lines that are left becomes of all lines
abbrev pub invariant-loop-row : goal.invariant-loop-row
invariant-loop-row g l =
    let told = g.W.Sink.told in
    (r : Bool) (n : SinkView) → Writes r (told l.out) n (bytes_lines l.banks.present (div_ceil l.count 16 - l.row) (l.count - l.row * 16) (l.at + l.row * 16))
    → Writes r (told l.fn.out) n (bytes_lines l.banks.present (div_ceil l.count 16) l.count l.at)
