use Rattle.std.proofs.Common.{◌+◌, ◌-◌, ◌++◌, length-drop, drop, sym, ap, ◌∙◌, arith}
use Rattle.hart_report.specs.Contents.{hex_bytes}
use Rattle.hart_report.proofs.Rows.{take_short, hex_bytes_step, hex_bytes_none}
use Rattle.hart_report.proofs.contents.fill_bytes.Goals as goal

pub loop-k-init : goal.loop-k-init
loop-k-init g c =
    let bytes = g.D.Device.means.output_of (g.D.Device.state c.args.device.now) in
    record {
      from = omega arith;
      text = ap (λ xs. c.args.line.now ++ hex_bytes xs) (take_short (drop c.args.start bytes) (c.args.start + c.min.result - c.args.start) 32 (omega (arith, c.min.ensures, c.output_len.ensures, length-drop c.args.start bytes)));
      len = omega arith;
    }

pub loop-k-preserved : goal.loop-k-preserved
loop-k-preserved g c =
    let bytes = g.D.Device.means.output_of (g.D.Device.state c.args.device.now) in
    record {
      from = omega (arith, c.loop-k.invariant.from);
      text = rw c.put_hex2.ensures.bytes (hex_bytes_step c.loop-k.line bytes c.loop-k.k _ c.output.result c.output.ensures c.loop-k-test.true) ∙ c.loop-k.invariant.text;
      len = omega (arith, c.put_hex2.ensures.len, c.loop-k.invariant.len, c.loop-k.invariant.from);
    }

pub returns-clause-bytes : goal.returns-clause-bytes
returns-clause-bytes g c =
    let bytes = g.D.Device.means.output_of (g.D.Device.state c.args.device.now) in
    sym (hex_bytes_none c.loop-k.line bytes c.loop-k.k _ (omega (arith, c.loop-k-test.false))) ∙ c.loop-k.invariant.text
