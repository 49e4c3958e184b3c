use Rattle.std.proofs.Common.{Bool, option_map}
use Rattle.board_outside.specs.Sink.{SinkView, Writes}
use Rattle.hart_words.specs.Lines.{lines_left, lines_of, left}
use Rattle.lab_trace.specs.Named.{named_pieces}
use Rattle.lab_trace.proofs.naming.put_named_text.Given as goal

-- whatever becomes of the pieces that are left becomes of all pieces
abbrev pub invariant-loop-rest : goal.invariant-loop-rest
invariant-loop-rest g l =
    let told = g.W.Sink.told in
    (r : Bool) (n : SinkView) → Writes r (told l.out) n (named_pieces l.names (lines_left (option_map (λ s. s.now) l.rest))) → Writes r (told l.fn.out) n (named_pieces l.names (lines_of l.fn.text))

abbrev pub decreases-loop-rest : goal.decreases-loop-rest
decreases-loop-rest g l = left (option_map (λ s. s.now) l.rest)
