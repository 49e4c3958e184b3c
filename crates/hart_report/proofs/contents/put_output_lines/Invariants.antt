use Rattle.std.proofs.Common.{◌*◌, ◌-◌, Bool, length, drop}
use Rattle.std.specs.Int.{div_ceil}
use Rattle.board_outside.specs.Sink.{SinkView, Writes}
use Rattle.hart_report.specs.Contents.{output_lines}
use Rattle.hart_report.proofs.contents.put_output_lines.Given as goal

-- whatever becomes of the lines that are left becomes of all lines
abbrev pub invariant-loop-row : goal.invariant-loop-row
invariant-loop-row g l =
    let told = g.W.Sink.told in
    let bytes = g.D.Device.means.output_of (g.D.Device.state l.device) in
    (r : Bool) (n : SinkView) → Writes r (told l.out) n (output_lines (div_ceil (length bytes) 32 - l.row) (drop (l.row * 32) bytes))
    → Writes r (told l.fn.out) n (output_lines (div_ceil (length bytes) 32) bytes)
