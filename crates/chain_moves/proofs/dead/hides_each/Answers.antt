use Rattle.std.proofs.Common.{◌+◌, ◌-◌, ◌||◌, sym, ap, ◌∙◌}
use Rattle.chain_moves.specs.Bytes.{some_byte, is_hidden}
use Rattle.chain_moves.proofs.Loops.{some_more, some_none}
use Rattle.chain_moves.proofs.dead.hides_each.Goals as goal

pub returns-then-hides : goal.returns-then-hides
returns-then-hides c =
    let t = is_hidden c.args.dead.now in
    sym (some_more t c.args.at c.args.count c.loop-i.i c.loop-i-test.true ∙ ap (λ b. b || some_byte t (c.args.at + (c.loop-i.i + 1)) (c.args.count - (c.loop-i.i + 1))) (sym c.hides.ensures ∙ c.if-hides.true)) ∙ c.loop-i.invariant

pub loop-i-preserved : goal.loop-i-preserved
loop-i-preserved c =
    let t = is_hidden c.args.dead.now in
    sym (some_more t c.args.at c.args.count c.loop-i.i c.loop-i-test.true ∙ ap (λ b. b || some_byte t (c.args.at + (c.loop-i.i + 1)) (c.args.count - (c.loop-i.i + 1))) (sym c.hides.ensures ∙ c.if-hides.false)) ∙ c.loop-i.invariant

pub returns : goal.returns
returns c = sym (some_none (is_hidden c.args.dead.now) c.args.at c.args.count c.loop-i.i c.loop-i-test.false) ∙ c.loop-i.invariant
