use Rattle.std.proofs.Common.{arith}
use Rattle.hart_board.proofs.KnownLemmas.{blank_all}
use Rattle.hart_board.proofs.known.forget.Goals as goal

pub returns-clause-blank : goal.returns-clause-blank
returns-clause-blank c = blank_all c.loop-k.k c.loop-k.known.items c.loop-k.invariant.1 (omega (arith, c.loop-k.invariant.0, c.loop-k-test.false))
