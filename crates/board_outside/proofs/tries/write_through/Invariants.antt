use Rattle.std.specs.Io.KnownBytes.{Keeps}
use Rattle.board_outside.proofs.tries.write_through.Given as goal

-- a try that was interrupted wrote nothing
abbrev pub invariant-loop : goal.invariant-loop
invariant-loop g l = Keeps (g.W.Write.contents l.fn.writer) (g.W.Write.contents l.writer)
