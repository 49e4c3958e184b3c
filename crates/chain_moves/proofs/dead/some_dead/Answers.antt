use Rattle.std.proofs.Common.{◌+◌, ◌-◌, ◌||◌, sym, ap, ◌∙◌}
use Rattle.chain_moves.specs.Bytes.{some_byte, is_dead_at}
use Rattle.chain_moves.proofs.Loops.{some_more, some_none}
use Rattle.chain_moves.proofs.dead.some_dead.Goals as goal

pub returns-then-dead-k : goal.returns-then-dead-k
returns-then-dead-k c =
    let t = is_dead_at c.args.dead.now in
    sym (some_more t c.args.k c.args.count c.loop-i.i c.loop-i-test.true ∙ ap (λ b. b || some_byte t (c.args.k + (c.loop-i.i + 1)) (c.args.count - (c.loop-i.i + 1))) c.if-dead-k.true) ∙ c.loop-i.invariant

pub loop-i-preserved : goal.loop-i-preserved
loop-i-preserved c =
    let t = is_dead_at c.args.dead.now in
    sym (some_more t c.args.k c.args.count c.loop-i.i c.loop-i-test.true ∙ ap (λ b. b || some_byte t (c.args.k + (c.loop-i.i + 1)) (c.args.count - (c.loop-i.i + 1))) c.if-dead-k.false) ∙ c.loop-i.invariant

pub returns : goal.returns
returns c = sym (some_none (is_dead_at c.args.dead.now) c.args.k c.args.count c.loop-i.i c.loop-i-test.false) ∙ c.loop-i.invariant
