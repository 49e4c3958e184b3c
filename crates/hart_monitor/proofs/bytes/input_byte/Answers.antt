use Rattle.std.proofs.Common.{refl}
use Rattle.hart_monitor.proofs.InputBytes.{input_byte_read}
use Rattle.hart_monitor.proofs.bytes.input_byte.Goals as goal

pub returns : goal.returns
returns c = rw (c.unwrap_or.ensures, c.read.ensures, input_byte_read c.args.controller.now c.args.input c.args.k c.requires.input c.requires.byte) refl
