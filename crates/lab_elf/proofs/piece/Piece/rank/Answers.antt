use Rattle.std.proofs.Common.{arith}
use Rattle.lab_elf.proofs.Pieces.{rank_here, rank_on, rank_end}
use Rattle.lab_elf.proofs.piece.Piece.rank.Goals as goal

pub returns-then-self-other-clause-put : goal.returns-then-self-other-clause-put
returns-then-self-other-clause-put c = rank_here c.args.self.now c.args.taken.now c.loop-i.i (omega arith) c.if-self-other.true c.loop-i.invariant

pub loop-i-preserved : goal.loop-i-preserved
loop-i-preserved c = rank_on c.args.self.now c.args.taken.now c.loop-i.i (omega arith) c.if-self-other.false c.loop-i.invariant

pub returns-clause-put : goal.returns-clause-put
returns-clause-put c = rank_end c.args.self.now c.args.taken.now c.loop-i.i (omega arith) c.loop-i.invariant
