use Rattle.std.proofs.Common.{is_ok, length, ap, subst, arith}
use Rattle.board_outside.specs.Buffered.{BufferedState}
use Rattle.board_outside.specs.Puts.{Hands}
use Rattle.board_outside.proofs.Joined.{hands_both, handed_is_both}
use Rattle.board_outside.proofs.buffered_sink.BufferedSinkSink.put.Goals as goal

pub returns-clause-hands : goal.returns-clause-hands
returns-clause-hands g c =
    let kept = c.args.self.now.kept in
    let text = c.args.bytes.now in
    let size = ap (λ (o : BufferedState). length o.kept) c.self.view_is in
    let rest = subst (λ (o : BufferedState). Hands (is_ok c.write_whole.result) o.held (g.W.Write.contents c.write_whole.new.writer) o.puts c.write_whole.new.puts text) c.self-2.view_is c.write_whole.ensures in
    subst (Hands _ _ _ _ _) (handed_is_both kept text (omega (arith, size))) (hands_both _ _ _ _ _ _ (is_ok c.write_whole.result) kept text c.in_ok-finish.ensures.hands rest)
