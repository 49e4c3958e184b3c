use Rattle.std.proofs.Common.{option_map}
use Rattle.hart_words.specs.Lines.{left}
use Rattle.rv_assembler.proofs.Onward.{ReadsOn}
use Rattle.rv_assembler.proofs.line_work.do_lines.Given as goal

abbrev pub invariant-loop-rest : goal.invariant-loop-rest
invariant-loop-rest g l = ReadsOn (g.W.LineWork.step l.context) l.source l.initial.work (option_map (λ s. s.now) l.rest) l.number l.work

abbrev pub decreases-loop-rest : goal.decreases-loop-rest
decreases-loop-rest g l = left (option_map (λ s. s.now) l.rest)
