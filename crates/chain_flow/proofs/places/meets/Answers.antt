use Rattle.std.proofs.Common.{◌+◌, ◌-◌, ◌||◌, sym, ap, ap₂, ◌∙◌}
use Rattle.chain_moves.specs.Bytes.{some_byte}
use Rattle.chain_moves.proofs.Loops.{some_more, some_none}
use Rattle.chain_flow.specs.Rules.{in_region}
use Rattle.chain_flow.proofs.places.meets.Goals as goal

pub returns-then-is_in : goal.returns-then-is_in
returns-then-is_in c =
    let t = in_region c.args.region.now in
    sym (some_more t c.args.at c.args.width c.loop-i.i c.loop-i-test.true ∙ ap (λ b. b || some_byte t (c.args.at + (c.loop-i.i + 1)) (c.args.width - (c.loop-i.i + 1))) (sym (ap₂ (λ a b. in_region c.args.region.now (a + b)) c.from.ensures c.from-in-loop-i.ensures) ∙ sym c.is_in.ensures ∙ c.if-is_in.true)) ∙ c.loop-i.invariant

pub loop-i-preserved : goal.loop-i-preserved
loop-i-preserved c =
    let t = in_region c.args.region.now in
    sym (some_more t c.args.at c.args.width c.loop-i.i c.loop-i-test.true ∙ ap (λ b. b || some_byte t (c.args.at + (c.loop-i.i + 1)) (c.args.width - (c.loop-i.i + 1))) (sym (ap₂ (λ a b. in_region c.args.region.now (a + b)) c.from.ensures c.from-in-loop-i.ensures) ∙ sym c.is_in.ensures ∙ c.if-is_in.false)) ∙ c.loop-i.invariant

pub returns : goal.returns
returns c = sym (some_none (in_region c.args.region.now) c.args.at c.args.width c.loop-i.i c.loop-i-test.false) ∙ c.loop-i.invariant
