use Rattle.std.proofs.Common.{◌≡◌, ◌+◌, ◌-◌, ◌*◌, ◌≤◌, ◌++◌, length, take, drop}
use Rattle.hart_report.specs.Contents.{hex_bytes}
use Rattle.hart_report.proofs.contents.fill_bytes.Given as goal

-- the line with the bytes that are left is the line with all bytes
abbrev pub invariant-loop-k : goal.invariant-loop-k
invariant-loop-k g l =
    let bytes = g.D.Device.means.output_of (g.D.Device.state l.device) in
    record {
      from : l.start ≤ l.k;
      text : l.line ++ hex_bytes (take (l.end - l.k) (drop l.k bytes)) ≡ l.fn.line ++ hex_bytes (take 32 (drop l.start bytes));
      len : length l.line ≡ length l.fn.line + 2 * (l.k - l.start);
    }
