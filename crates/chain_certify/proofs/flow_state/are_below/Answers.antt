use Rattle.std.proofs.Common.{◌≡◌, ◌∙◌, rules, sym, arith, get_or, true, false}
use Rattle.chain_certify.specs.Flow.{Value, Entry, is_below}
use Rattle.chain_certify.proofs.Loops.{below_more, below_fails, below_all}
use Rattle.chain_certify.proofs.flow_state.are_below.Goals as goal

pub returns-then-not-is_below : goal.returns-then-not-is_below
returns-then-not-is_below c =
    let fails : is_below (get_or c.args.values.now c.loop-i.i (Entry 0)) (get_or c.args.others.now c.loop-i.i (Entry 0)) ≡ false = search rules in
    sym (sym c.loop-i.invariant ∙ below_fails c.args.values.now c.args.others.now c.loop-i.i (Entry 0) (Entry 0) (omega arith) (omega arith) fails)

pub loop-i-preserved : goal.loop-i-preserved
loop-i-preserved c =
    let holds : is_below (get_or c.args.values.now c.loop-i.i (Entry 0)) (get_or c.args.others.now c.loop-i.i (Entry 0)) ≡ true = search rules in
    below_more c.args.values.now c.args.others.now c.loop-i.i (Entry 0) (Entry 0) (omega arith) (omega arith) holds ∙ c.loop-i.invariant

pub returns : goal.returns
returns c = sym (sym c.loop-i.invariant ∙ below_all c.args.values.now c.args.others.now c.loop-i.i (omega arith))
