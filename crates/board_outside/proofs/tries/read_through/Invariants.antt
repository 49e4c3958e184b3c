use Rattle.std.proofs.Common.{◌≡◌, length}
use Rattle.std.specs.Io.KnownBytes.{Keeps}
use Rattle.board_outside.proofs.tries.read_through.Given as goal

-- a try that was interrupted read nothing
abbrev pub invariant-loop : goal.invariant-loop
invariant-loop g l = record {
  read : Keeps (g.F.Read.remaining l.fn.file) (g.F.Read.remaining l.file);
  size : length l.piece ≡ length l.fn.piece;
}
