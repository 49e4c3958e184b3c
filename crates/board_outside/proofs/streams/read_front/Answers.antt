use Rattle.std.proofs.Common.{arith, ap, sym}
use Rattle.std.proofs.KnownBytes.{Consumes-nil}
use Rattle.board_outside.specs.Reads.{with_bytes}
use Rattle.board_outside.proofs.streams.read_front.Goals as goal

pub loop-chunk-init : goal.loop-chunk-init
loop-chunk-init g c = record {
  in_range = omega (arith, c.new-bytes.ensures.len);
  read = rw c.new-bytes.ensures.items (Consumes-nil _);
  counted = ap (with_bytes c.args.reads.now) (sym c.new-bytes.ensures.len);
}
