use Rattle.std.proofs.Common.{◌+◌, ◌∙◌, ap, sym, set, arith, length-set}
use Rattle.chain_flow.specs.Flow.{Value, Entry}
use Rattle.chain_flow.proofs.Joins.{joined_so_far, joined_more, joined_all}
use Rattle.chain_flow.proofs.flow_state.join_values.Goals as goal

pub loop-i-preserved : goal.loop-i-preserved
loop-i-preserved c =
    let long = c.loop-i.invariant.0 in (
      length-set c.loop-i.values c.loop-i.i c.joined.result ∙ long,
      ap (λ (x : Value). joined_so_far (set c.loop-i.values c.loop-i.i x) c.args.others.now (c.loop-i.i + 1)) c.joined.ensures
          ∙ joined_more c.loop-i.values c.args.others.now c.loop-i.i (Entry 0) (Entry 0) (omega arith) (omega arith)
          ∙ c.loop-i.invariant.1,
    )

pub returns : goal.returns
returns c =
    let long = c.loop-i.invariant.0 in
    sym (joined_all c.loop-i.values c.args.others.now c.loop-i.i (omega arith)) ∙ c.loop-i.invariant.1
