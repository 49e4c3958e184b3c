use Rattle.std.proofs.Common.{◌++◌, get_or, ap, ◌∙◌}
use Rattle.hart_words.specs.Hexadecimal.{hex2}
use Rattle.mem_text.proofs.Rows.{one_more, at_end}
use Rattle.mem_text.proofs.writing.put_bytes.Goals as goal

pub loop-k-preserved : goal.loop-k-preserved
loop-k-preserved c = one_more c.args.text.now c.loop-k.text c.put_byte.new.text c.args.bytes.now c.loop-k.k c.loop-k-test.true c.loop-k.invariant
    (c.in_ok-put_byte.ensures ∙ ap (λ m. c.loop-k.text ++ (hex2 (get_or c.args.bytes.now c.loop-k.k 0) ++ m)) c.mark_behind.ensures)

pub returns : goal.returns
returns c = at_end c.args.text.now c.loop-k.text c.args.bytes.now c.loop-k.k c.loop-k-test.false c.loop-k.invariant
