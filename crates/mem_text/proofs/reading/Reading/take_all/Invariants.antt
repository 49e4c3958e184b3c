use Rattle.mem_text.proofs.Onward.{ReadsOn}
use Rattle.mem_text.proofs.reading.Reading.take_all.Given as goal

-- reading on from here gives what reading all gives
abbrev pub invariant-loop-i : goal.invariant-loop-i
invariant-loop-i l = ReadsOn l.place l.fn.self l.piece l.i l.self
