use Rattle.std.proofs.Common.{◌≡◌, ◌+◌, ◌∙◌, rules, sym, ap, arith, get_or, max, drop, ℕ}
use Rattle.chain_certify.specs.Flow.{value_of}
use Rattle.chain_certify.specs.Check.{Node, depth_of, deepest}
use Rattle.chain_certify.proofs.Loops.{deepest_more, deepest_all}
use Rattle.chain_certify.proofs.checking.deepest.Goals as goal

pub loop-i-preserved : goal.loop-i-preserved
loop-i-preserved c =
    let n = c.index-nodes-i.result in
    let at : n ≡ get_or c.args.nodes.now c.loop-i.i n = search rules in
    let depth : c.depth_at.result ≡ depth_of (value_of n.flow.values 2) = search rules in
    let is : c.max-greatest.result ≡ max c.loop-i.greatest c.depth_at.result = search (rules, arith) in
    ap (λ (m : ℕ). max m (deepest (drop (c.loop-i.i + 1) c.args.nodes.now))) (is ∙ ap (λ (m : ℕ). max c.loop-i.greatest m) (depth ∙ ap (λ (x : Node). depth_of (value_of x.flow.values 2)) at))
    ∙ (deepest_more c.args.nodes.now c.loop-i.i c.loop-i.greatest n (search (rules, arith)) ∙ c.loop-i.invariant)

pub returns : goal.returns
returns c = sym (sym c.loop-i.invariant ∙ deepest_all c.args.nodes.now c.loop-i.i c.loop-i.greatest (search (rules, arith)))
